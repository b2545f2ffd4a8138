-- Lists that have exactly some texts, each once.
use Rattle.std.proofs.Common.{◌≡◌, ◌≢◌, ◌⊎◌, inl, inr, ℕ, zero, suc, ◌+◌, ◌<◌, ◌≤◌, List, [], ◌∷◌, ◌++◌, length, get_or, take, drop, map, refl, sym, ◌∙◌, ap, ap₂, subst, arith, length-append}
use Rattle.std.specs.List.{All, AllPairs, Contains}
use Rattle.std.proofs.Math.Seq.{drop-cons}
use Rattle.std.proofs.lemmas.List.{take-append-drop}
use Rattle.std.proofs.lemmas.List.Elements.{All-cons, All-append, Contains-append_cases, Contains-append_left, Contains-append_right, Contains-get_or, Contains-push, Contains-push_cases}
use Rattle.kb_count.specs.declared.counting.Count.{Count}
use Rattle.kb_count.specs.declared.counting.Count.TheVariants.{Finite, Infinite}
use Rattle.kb_count.specs.Counts.{AreSoMany, AreInfinitelyMany, IsCountOf}

-- ---- the elements of a list

none_in_empty : (text : List ℕ) → ¬ Contains {X = List ℕ} [] text
none_in_empty text here = omega (arith, here.1)

-- an element of a list is its first or one of the others
pub first_or_other : {X : Type 0} (x : X) (xs : List X) (y : X) → Contains (x ∷ xs) y → (x ≡ y) ⊎ Contains xs y
first_or_other x xs y here = elim (Contains-append_cases (x ∷ []) xs y here) [
  | inl first ↦ elim (Contains-push_cases [] x y first) [
    | inl none ↦ absurd (let no : ⊥ = omega (arith, none.1) in no)
    | inr is ↦ inl is
  ]
  | inr other ↦ inr other
]

pub contains_first : {X : Type 0} (x : X) (xs : List X) → Contains (x ∷ xs) x
contains_first x xs = Contains-append_left (x ∷ []) xs x (Contains-push [] x)

pub contains_other : {X : Type 0} (x : X) (xs : List X) (y : X) → Contains xs y → Contains (x ∷ xs) y
contains_other x xs y here = Contains-append_right (x ∷ []) xs y here

-- ---- each once

-- no text stands twice
abbrev pub AreApart : List (List ℕ) → Type 0
AreApart texts = AllPairs (λ text other. text ≢ other) texts

apart-cons : (text : List ℕ) (texts : List (List ℕ)) → All (λ other. text ≢ other) texts → AreApart texts
    → AreApart (text ∷ texts)
apart-cons text texts first rest zero zero d before within = absurd (let no : ⊥ = omega arith in no)
apart-cons text texts first rest zero (suc j) d before within = first j d (omega arith)
apart-cons text texts first rest (suc i) zero d before within = absurd (let no : ⊥ = omega arith in no)
apart-cons text texts first rest (suc i) (suc j) d before within = rest i j d (omega arith) (omega arith)

apart-head : (text : List ℕ) (texts : List (List ℕ)) → AreApart (text ∷ texts) → All (λ other. text ≢ other) texts
apart-head text texts apart k d within = apart 0 (suc k) d (omega arith) (omega arith)

apart-tail : (text : List ℕ) (texts : List (List ℕ)) → AreApart (text ∷ texts) → AreApart texts
apart-tail text texts apart i j d before within = apart (suc i) (suc j) d (omega arith) (omega arith)

-- lists that have no text in common
apart-append : (texts others : List (List ℕ)) → AreApart texts → AreApart others
    → ((text : List ℕ) → Contains texts text → Contains others text → ⊥)
    → AreApart (texts ++ others)
apart-append [] others one other differ = other
apart-append (text ∷ texts) others one other differ =
    apart-cons text (texts ++ others)
    (All-append (λ found. text ≢ found) texts others (apart-head text texts one)
    (λ k d within same. differ text (contains_first text texts)
    (subst (λ found. Contains others found) (sym same) (Contains-get_or others k d within))))
    (apart-append texts others (apart-tail text texts one) other
    (λ found here there. differ found (contains_other text texts found here) there))

-- ---- texts with one letter more in front

longer : ℕ → List (List ℕ) → List (List ℕ)
longer symbol texts = map (λ text. symbol ∷ text) texts

same_rest : (symbol : ℕ) (text other : List ℕ) → symbol ∷ text ≡ symbol ∷ other → text ≡ other
same_rest symbol text other same = cc

apart-longer : (symbol : ℕ) (texts : List (List ℕ)) → AreApart texts → AreApart (longer symbol texts)
unfolding longer
apart-longer symbol [] apart = λ i j d before within. absurd (let no : ⊥ = omega arith in no)
apart-longer symbol (text ∷ texts) apart =
    apart-cons (symbol ∷ text) (map (λ rest. symbol ∷ rest) texts)
    (differs texts (apart-head text texts apart)) (apart-longer symbol texts (apart-tail text texts apart))
  where
    differs : (others : List (List ℕ)) → All (λ other. text ≢ other) others
        → All (λ other. symbol ∷ text ≢ other) (map (λ rest. symbol ∷ rest) others)
    differs [] all = λ k d within. absurd (let no : ⊥ = omega arith in no)
    differs (other ∷ others) all =
        All-cons (λ found. symbol ∷ text ≢ found) (symbol ∷ other) (map (λ rest. symbol ∷ rest) others)
        (λ same. all 0 [] (omega arith) (same_rest symbol text other same))
        (differs others (λ k d within. all (suc k) d (omega arith)))

longer-contains : (symbol : ℕ) (texts : List (List ℕ)) (text : List ℕ) → Contains texts text
    → Contains (longer symbol texts) (symbol ∷ text)
unfolding longer
longer-contains symbol [] text here = absurd (none_in_empty text here)
longer-contains symbol (first ∷ texts) text here = elim (first_or_other first texts text here) [
  | inl is ↦ subst (λ found. Contains (map (λ rest. symbol ∷ rest) (first ∷ texts)) (symbol ∷ found)) is
      (contains_first (symbol ∷ first) (map (λ rest. symbol ∷ rest) texts))
  | inr other ↦ contains_other (symbol ∷ first) (map (λ rest. symbol ∷ rest) texts) (symbol ∷ text)
      (longer-contains symbol texts text other)
]

longer-from : (symbol : ℕ) (texts : List (List ℕ)) (text : List ℕ) → Contains (longer symbol texts) text
    → (rest : List ℕ) × ((text ≡ symbol ∷ rest) × Contains texts rest)
unfolding longer
longer-from symbol [] text here = absurd (none_in_empty text here)
longer-from symbol (first ∷ texts) text here =
    elim (first_or_other (symbol ∷ first) (map (λ rest. symbol ∷ rest) texts) text here) [
      | inl is ↦ (first, (sym is, contains_first first texts))
      | inr other ↦
          let found = longer-from symbol texts text other in
          (found.0, (found.1.0, contains_other first texts found.0 found.1.1))
    ]

length-longer : (symbol : ℕ) (texts : List (List ℕ)) → length (longer symbol texts) ≡ length texts
unfolding longer
length-longer symbol [] = refl
length-longer symbol (text ∷ texts) = ap suc (length-longer symbol texts)

-- ---- how many texts there are

pub many-none : {P : List ℕ → Type 0} → ((text : List ℕ) → ¬ P text) → AreSoMany P 0
many-none none = record {
  texts = [];
  all = record {
    once = λ i j d before within. absurd (let no : ⊥ = omega arith in no);
    exact = λ text. ((λ here. absurd (none_in_empty text here)), (λ holds. absurd (none text holds)));
  };
  so_many = refl;
}

pub many-one : {P : List ℕ → Type 0} (one : List ℕ) → P one → ((text : List ℕ) → P text → one ≡ text) → AreSoMany P 1
many-one {P} one holds only = record {
  texts = one ∷ [];
  all = record {
    once = λ i j d before within. absurd (let no : ⊥ = omega arith in no);
    exact = λ text. (
      (λ here. elim (first_or_other one [] text here) [
        | inl is ↦ subst P is holds
        | inr other ↦ absurd (none_in_empty text other)
      ]),
      (λ also. subst (λ found. Contains (one ∷ []) found) (only text also) (contains_first one [])),
    );
  };
  so_many = refl;
}

pub many-same : {P Q : List ℕ → Type 0} {number other : ℕ} → number ≡ other → ((text : List ℕ) → P text → Q text)
    → ((text : List ℕ) → Q text → P text)
    → AreSoMany P number → AreSoMany Q other
many-same is there back many = record {
  texts = many.texts;
  all = record {
    once = many.all.once;
    exact = λ text.
        ((λ here. there text ((many.all.exact text).0 here)), (λ holds. (many.all.exact text).1 (back text holds)));
  };
  so_many = many.so_many ∙ is;
}

-- texts of two kinds, of which no text is both
pub many-sum : {P Q : List ℕ → Type 0} {number other : ℕ} → AreSoMany P number → AreSoMany Q other
    → ((text : List ℕ) → P text → Q text → ⊥)
    → AreSoMany (λ text. P text ⊎ Q text) (number + other)
many-sum {P} {Q} one two differ = record {
  texts = one.texts ++ two.texts;
  all = record {
    once = apart-append one.texts two.texts one.all.once two.all.once
        (λ text here there. differ text ((one.all.exact text).0 here) ((two.all.exact text).0 there));
    exact = λ text. (
      (λ here. elim (Contains-append_cases one.texts two.texts text here) [
        | inl first ↦ inl ((one.all.exact text).0 first)
        | inr second ↦ inr ((two.all.exact text).0 second)
      ]),
      (λ holds. elim holds [
        | inl first ↦ Contains-append_left one.texts two.texts text ((one.all.exact text).1 first)
        | inr second ↦ Contains-append_right one.texts two.texts text ((two.all.exact text).1 second)
      ]),
    );
  };
  so_many = length-append one.texts two.texts ∙ ap₂ (λ a b. a + b) one.so_many two.so_many;
}

-- the text is one of these behind the symbol
pub record IsBehind (symbol : ℕ) (P : List ℕ → Type 0) (text : List ℕ) : Type 0 where
  pub rest : List ℕ
  pub whole : text ≡ symbol ∷ rest
  pub holds : P rest

pub many-behind : {P : List ℕ → Type 0} {number : ℕ} (symbol : ℕ) → AreSoMany P number
    → AreSoMany (IsBehind symbol P) number
unfolding longer
many-behind symbol many = record {
  texts = longer symbol many.texts;
  all = record {
    once = apart-longer symbol many.texts many.all.once;
    exact = λ text. (
      (λ here.
          let found = longer-from symbol many.texts text here in
          record { rest = found.0; whole = found.1.0; holds = (many.all.exact found.0).0 found.1.1 }),
      (λ behind. subst (λ found. Contains (longer symbol many.texts) found) (sym behind.whole)
          (longer-contains symbol many.texts behind.rest ((many.all.exact behind.rest).1 behind.holds))),
    );
  };
  so_many = length-longer symbol many.texts ∙ many.so_many;
}

-- ---- there is one number

-- a list without one of its elements
without : ℕ → List (List ℕ) → List (List ℕ)
without place texts = take place texts ++ drop (suc place) texts

whole-at : (place : ℕ) (texts : List (List ℕ)) (text : List ℕ) → place < length texts → get_or texts place text ≡ text
    → texts ≡ take place texts ++ text ∷ drop (suc place) texts
whole-at place texts text within is =
    sym (take-append-drop place texts)
    ∙ ap (λ rest. take place texts ++ rest) (drop-cons texts place text within ∙ ap (λ t. t ∷ drop (suc place) texts) is)

length-without : (place : ℕ) (texts : List (List ℕ)) (text : List ℕ)
    → texts ≡ take place texts ++ text ∷ drop (suc place) texts
    → length texts ≡ suc (length (without place texts))
unfolding without
length-without place texts text whole =
    omega (
      arith,
      ap length whole,
      length-append (take place texts) (text ∷ drop (suc place) texts),
      length-append (take place texts) (drop (suc place) texts),
    )

still-contains : (place : ℕ) (texts : List (List ℕ)) (text other : List ℕ)
    → texts ≡ take place texts ++ text ∷ drop (suc place) texts
    → text ≢ other → Contains texts other → Contains (without place texts) other
unfolding without
still-contains place texts text other whole differ here =
    elim (Contains-append_cases (take place texts) (text ∷ drop (suc place) texts) other
    (subst (λ found. Contains found other) whole here)) [
      | inl before ↦ Contains-append_left (take place texts) (drop (suc place) texts) other before
      | inr behind ↦ elim (first_or_other text (drop (suc place) texts) other behind) [
        | inl is ↦ absurd (differ is)
        | inr after ↦ Contains-append_right (take place texts) (drop (suc place) texts) other after
      ]
    ]

-- texts, each once, that are all in a list are no more than the list has
no-more : (texts others : List (List ℕ)) → AreApart texts
    → ((text : List ℕ) → Contains texts text → Contains others text)
    → length texts ≤ length others
no-more [] others apart among = omega arith
no-more (text ∷ texts) others apart among =
    let here = among text (contains_first text texts) in
    let whole = whole-at here.0 others text here.1 here.2 in
    let fewer : length texts ≤ length (without here.0 others) =
    no-more texts (without here.0 others) (apart-tail text texts apart)
    (λ other there. still-contains here.0 others text other whole
    (λ same. apart-head text texts apart there.0 other there.1 (same ∙ sym there.2))
    (among other (contains_other text texts other there))) in
    let less = length-without here.0 others text whole in
    omega arith

pub one-number : {P : List ℕ → Type 0} {number other : ℕ} → AreSoMany P number → AreSoMany P other → number ≡ other
one-number one two =
    let most : length one.texts ≤ length two.texts = no-more one.texts two.texts one.all.once
    (λ text here. (two.all.exact text).1 ((one.all.exact text).0 here)) in
    let least : length two.texts ≤ length one.texts = no-more two.texts one.texts two.all.once
    (λ text here. (one.all.exact text).1 ((two.all.exact text).0 here)) in
    omega (arith, one.so_many, two.so_many)

-- ---- finitely many are not infinitely many

-- a length that no text of a list exceeds
longest : List (List ℕ) → ℕ
longest [] = 0
longest (text ∷ texts) = length text + longest texts

within-longest : (texts : List (List ℕ)) (text : List ℕ) → Contains texts text → length text ≤ longest texts
unfolding longest
within-longest [] text here = absurd (none_in_empty text here)
within-longest (first ∷ texts) text here = elim (first_or_other first texts text here) [
  | inl is ↦ omega (arith, ap length is)
  | inr other ↦ let below = within-longest texts text other in omega arith
]

pub not-both : {P : List ℕ → Type 0} {number : ℕ} → AreSoMany P number → ¬ AreInfinitelyMany P
not-both many endless =
    let longer_text = endless (longest many.texts) in
    let below = within-longest many.texts longer_text.0 ((many.all.exact longer_text.0).1 longer_text.1) in
    omega (arith, longer_text.2, below)

pub one-count : (P : List ℕ → Type 0) (count other : Count) → IsCountOf P count → IsCountOf P other → count ≡ other
one-count P (Finite number) (Finite other) one two = ap Finite (one-number one two)
one-count P (Finite number) Infinite one two = absurd (not-both one two)
one-count P Infinite (Finite other) one two = absurd (not-both two one)
one-count P Infinite Infinite one two = refl

-- texts that are the same have one count
pub count-same : {P Q : List ℕ → Type 0} (count : Count) → ((text : List ℕ) → P text → Q text)
    → ((text : List ℕ) → Q text → P text) → IsCountOf P count → IsCountOf Q count
count-same (Finite number) there back many = many-same refl there back many
count-same Infinite there back endless = λ bound.
    let longer_text = endless bound in
    (longer_text.0, there longer_text.0 longer_text.1, longer_text.2)
