-- The letters of reduced left sides are those of the pairs. Proved of any reduction order.
use Rattle.std.proofs.Common.{◌≡◌, ℕ, ◌-◌, ◌<◌, ◌≤◌, ◌⊎◌, List, [], ◌∷◌, ◌++◌, length, take, drop, All, refl, sym, ap, ◌∙◌, subst, inl, inr, arith, append_assoc, length-append}
use Rattle.std.proofs.lemmas.List.{append-nil, take_at}
use Rattle.std.proofs.lemmas.List.Elements.{All-nil, All-cons, All-head, All-tail}
use Rattle.kb_word.specs.Words.{Pair, OneOf}
use Rattle.kb_word.specs.Order.{IsReductionOrder}
use Rattle.kb_word.specs.Relations.{IsOver}
use Rattle.kb_word.specs.Congruence.{Congruent, Touches}
use Rattle.kb_word.specs.ShortlexLaws.{compare_cases}
use Rattle.kb_word.proofs.PathLemmas.{path_equal, path_keeps, congruent_reflexive, congruent_symmetric, congruent_transitive, congruent_between, congruent_sides}
use Rattle.kb_rules.proofs.Lists.{FromEnd, from_end}
use Rattle.kb_rules.proofs.Lists.FromEnd.{empty, last}
use Rattle.kb_reduced.specs.Reduced.{IsLeastWord, IsReducedRule}

-- x is none of the letters 1 to n
IsForeign : ℕ → ℕ → Type 0
IsForeign n x = ¬ ((0 < x) × (x ≤ n))

-- a foreign letter stands behind a word over n letters
behind_word : (n : ℕ) (l after front : List ℕ) (x : ℕ) (back : List ℕ) → IsForeign n x → IsOver n l
    → l ++ after ≡ front ++ x ∷ back
    → (middle : List ℕ) × (front ≡ l ++ middle) × (after ≡ middle ++ x ∷ back)
unfolding IsForeign
behind_word n [] after front x back foreign over whole = (front, refl, whole)
behind_word n (y ∷ l) after [] x back foreign over whole =
    let P : ℕ → Type 0 = λ z. (0 < z) × (z ≤ n) in
    let same : y ≡ x = cc whole in
    absurd (foreign (subst P same (All-head P y l over)))
behind_word n (y ∷ l) after (z ∷ front) x back foreign over whole =
    let P : ℕ → Type 0 = λ w. (0 < w) × (w ≤ n) in
    let same : y ≡ z = cc whole in
    let found = behind_word n l after front x back foreign (All-tail P y l over) (ap (drop 1) whole) in
    let is : z ∷ front ≡ y ∷ (l ++ found.0) = ap (λ w. w ∷ front) (sym same) ∙ ap (λ w. y ∷ w) found.1 in
    (found.0, is, found.2)

-- Where a letter stands in before ++ l ++ after that is none of l's.
data Side (before l after front : List ℕ) (x : ℕ) (back : List ℕ) : Type 0 where
  behind : (middle : List ℕ) → front ≡ before ++ l ++ middle → after ≡ middle ++ x ∷ back → Side before l after front x back
  ahead : (middle : List ℕ) → before ≡ front ++ x ∷ middle → back ≡ middle ++ l ++ after → Side before l after front x back

side : (n : ℕ) (before l after front : List ℕ) (x : ℕ) (back : List ℕ) → IsForeign n x → IsOver n l
    → before ++ l ++ after ≡ front ++ x ∷ back → Side before l after front x back
side n [] l after front x back foreign over whole =
    let found = behind_word n l after front x back foreign over whole in
    behind found.0 found.1 found.2
side n (y ∷ before) l after [] x back foreign over whole =
    let same : y ≡ x = cc whole in
    ahead before (ap (λ z. z ∷ before) same) (sym (ap (drop 1) whole))
side n (y ∷ before) l after (z ∷ front) x back foreign over whole =
    let same : y ≡ z = cc whole in
    elim (side n before l after front x back foreign over (ap (drop 1) whole)) [
      | behind middle is rest ↦
          let longer : z ∷ front ≡ y ∷ (before ++ l ++ middle) = ap (λ w. w ∷ front) (sym same) ∙ ap (λ w. y ∷ w) is in
          behind middle longer rest
      | ahead middle is rest ↦
          let longer : y ∷ before ≡ z ∷ (front ++ x ∷ middle) = ap (λ w. w ∷ before) same ∙ ap (λ w. z ∷ w) is in
          ahead middle longer rest
    ]

-- the letter x stands in the word between words that are congruent to a and b
record HasBetween (pairs : List Pair) (a : List ℕ) (x : ℕ) (b w : List ℕ) : Type 0 where
  front : List ℕ
  back : List ℕ
  whole : w ≡ front ++ x ∷ back
  front_congruent : Congruent (OneOf pairs) a front
  back_congruent : Congruent (OneOf pairs) b back

module _ (n : ℕ) (pairs : List Pair) (over : (pair : Pair) → OneOf pairs pair → IsOver n pair.0 × IsOver n pair.1)
    (a : List ℕ) (x : ℕ) (b : List ℕ) (foreign : IsForeign n x) where
  -- a word over n letters is replaced before the foreign letter or behind it
  replaced : (before l r after u v : List ℕ) → IsOver n l → Congruent (OneOf pairs) l r
      → u ≡ before ++ l ++ after → v ≡ before ++ r ++ after → HasBetween pairs a x b u → HasBetween pairs a x b v
  replaced before l r after u v is_over sides from to has =
      elim (side n before l after has.front x has.back foreign is_over (sym from ∙ has.whole)) [
        | behind middle is rest ↦ record {
          front = before ++ r ++ middle;
          back = has.back;
          whole = to ∙ ap (λ w. before ++ r ++ w) rest ∙ sym (append_assoc (before ++ r) middle (x ∷ has.back));
          front_congruent = congruent_transitive has.front_congruent
              (congruent_transitive (path_equal has.front (before ++ l ++ middle) is) (congruent_between before middle sides));
          back_congruent = has.back_congruent;
        }
        | ahead middle is rest ↦
            let longer : before ++ r ++ after ≡ has.front ++ x ∷ (middle ++ r ++ after) =
            ap (λ w. w ++ r ++ after) is ∙ simp append_assoc in
            record {
              front = has.front;
              back = middle ++ r ++ after;
              whole = to ∙ longer;
              front_congruent = has.front_congruent;
              back_congruent = congruent_transitive has.back_congruent
                  (congruent_transitive (path_equal has.back (middle ++ l ++ after) rest) (congruent_between middle after sides));
            }
      ]

  touched : (u v : List ℕ) → Touches (OneOf pairs) u v → HasBetween pairs a x b u → HasBetween pairs a x b v
  touched u v (inl r) has =
      let letters = over r.pair r.is_allowed in
      replaced r.before r.pair.0 r.pair.1 r.after u v letters.0 (congruent_sides r.pair r.is_allowed) r.from r.to has
  touched u v (inr r) has =
      let letters = over r.pair r.is_allowed in
      replaced r.before r.pair.1 r.pair.0 r.after u v letters.1 (congruent_symmetric (congruent_sides r.pair r.is_allowed)) r.to r.from has

  -- so the letter stays
  stays : (v : List ℕ) → Congruent (OneOf pairs) (a ++ x ∷ b) v → HasBetween pairs a x b v
  stays v congruent =
      let P : List ℕ → Type 0 = λ w. HasBetween pairs a x b w in
      path_keeps P touched congruent (record {
        front = a;
        back = b;
        whole = refl;
        front_congruent = congruent_reflexive a;
        back_congruent = congruent_reflexive b;
      })

-- a word with a letter that is none of 1 to n
record HasForeign (n : ℕ) (w : List ℕ) : Type 0 where
  front : List ℕ
  letter : ℕ
  back : List ℕ
  whole : w ≡ front ++ letter ∷ back
  foreign : IsForeign n letter

has_more : (n x : ℕ) (w : List ℕ) → HasForeign n w → HasForeign n (x ∷ w)
has_more n x w has = record {
  front = x ∷ has.front;
  letter = has.letter;
  back = has.back;
  whole = ap (λ v. x ∷ v) has.whole;
  foreign = has.foreign;
}

-- the first letter is one of 1 to n, or foreign
is_letter : (n x : ℕ) → ((0 < x) × (x ≤ n)) ⊎ IsForeign n x
unfolding IsForeign
is_letter n x =
    elim (compare_cases 0 x) [
      | inl positive ↦ elim (compare_cases n x) [
        | inl more ↦ inr (λ is. let within = is.1 in omega arith)
        | inr less ↦ elim less [
          | inl equal ↦ inl (positive, omega (arith, equal))
          | inr fewer ↦ inl (positive, omega (arith, fewer))
        ]
      ]
      | inr zero ↦ inr (λ is. let above = is.0 in elim zero [
        | inl equal ↦ omega (arith, equal, above)
        | inr fewer ↦ omega (arith, fewer)
      ])
    ]

over_or_foreign : (n : ℕ) (w : List ℕ) → IsOver n w ⊎ HasForeign n w
over_or_foreign n [] = let P : ℕ → Type 0 = λ z. (0 < z) × (z ≤ n) in inl (All-nil P)
over_or_foreign n (x ∷ w) =
    let P : ℕ → Type 0 = λ z. (0 < z) × (z ≤ n) in
    elim (is_letter n x) [
      | inr foreign ↦ inr (record { front = []; letter = x; back = w; whole = refl; foreign = foreign })
      | inl is ↦ elim (over_or_foreign n w) [
        | inl over ↦ inl (All-cons P x w is over)
        | inr has ↦ inr (has_more n x w has)
      ]
    ]

module _ {below : List ℕ → List ℕ → Type 0} (order : IsReductionOrder below) where
  -- u is v or below it
  AtMost : List ℕ → List ℕ → Type 0
  AtMost u v = (u ≡ v) ⊎ below u v

  at_most : (u v : List ℕ) → ¬ below v u → AtMost u v
  unfolding AtMost
  at_most u v not_lower = elim (order.total u v) [
    | inl same ↦ inl same
    | inr apart ↦ elim apart [
      | inl lower ↦ inr lower
      | inr upper ↦ absurd (not_lower upper)
    ]
  ]

  at_most_between : (before after u v : List ℕ) → AtMost u v → AtMost (before ++ u ++ after) (before ++ v ++ after)
  unfolding AtMost
  at_most_between before after u v (inl same) = inl (ap (λ w. before ++ w ++ after) same)
  at_most_between before after u v (inr lower) = inr (order.kept before after u v lower)

  not_below : (u v w : List ℕ) → AtMost u v → AtMost v w → ¬ below w u
  unfolding AtMost
  not_below u v w (inl one) (inl two) lower =
      let P : List ℕ → Type 0 = λ z. below z u in order.irreflexive u (subst P (sym (one ∙ two)) lower)
  not_below u v w (inl one) (inr two) lower =
      let P : List ℕ → Type 0 = λ z. below z w in
      order.irreflexive w (order.transitive w u w lower (subst P (sym one) two))
  not_below u v w (inr one) (inl two) lower =
      let P : List ℕ → Type 0 = λ z. below u z in
      order.irreflexive u (order.transitive u w u (subst P two one) lower)
  not_below u v w (inr one) (inr two) lower =
      order.irreflexive u (order.transitive u v u one (order.transitive v w u two lower))

  -- words around a letter, each at most another one, give a word that is at most that with the others
  around : (a front : List ℕ) (x : ℕ) (b back : List ℕ) → ¬ below front a → ¬ below back b
      → ¬ below (front ++ x ∷ back) (a ++ x ∷ b)
  around a front x b back front_least back_least =
      let first = at_most_between [] (x ∷ b) a front (at_most a front front_least) in
      let second = at_most_between (front ++ x ∷ []) [] b back (at_most b back back_least) in
      let from : front ++ x ∷ [] ++ b ++ [] ≡ front ++ x ∷ b = append-nil (front ++ x ∷ [] ++ b) ∙ append_assoc front (x ∷ []) b in
      let to : front ++ x ∷ [] ++ back ++ [] ≡ front ++ x ∷ back =
      append-nil (front ++ x ∷ [] ++ back) ∙ append_assoc front (x ∷ []) back in
      let P : List ℕ → Type 0 = λ w. AtMost w (front ++ x ∷ back) in
      let Q : List ℕ → Type 0 = λ w. AtMost ((front ++ x ∷ []) ++ b ++ []) w in
      not_below (a ++ x ∷ b) (front ++ x ∷ b) (front ++ x ∷ back) first (subst P from (subst Q to second))

  -- a factor of a least word is least
  least_factor : {pairs : List Pair} (before w after : List ℕ) → IsLeastWord below pairs (before ++ w ++ after)
      → IsLeastWord below pairs w
  least_factor before w after least = record {
    congruent = congruent_reflexive w;
    least = λ v congruent lower.
        least.least (before ++ v ++ after) (congruent_between before after congruent) (order.kept before after v w lower);
  }

  module _ (n : ℕ) (pairs : List Pair) (over : (pair : Pair) → OneOf pairs pair → IsOver n pair.0 × IsOver n pair.1) where
    -- least words around a foreign letter give a least word
    least_around : (a : List ℕ) (x : ℕ) (b : List ℕ) → IsForeign n x → IsLeastWord below pairs a → IsLeastWord below pairs b
        → IsLeastWord below pairs (a ++ x ∷ b)
    least_around a x b foreign first second = record {
      congruent = congruent_reflexive (a ++ x ∷ b);
      least = λ v congruent lower.
          let has = stays n pairs over a x b foreign v congruent in
          let P : List ℕ → Type 0 = λ w. below w (a ++ x ∷ b) in
          around a has.front x b has.back (first.least has.front has.front_congruent) (second.least has.back has.back_congruent)
          (subst P has.whole lower);
    }

    -- what stands before a letter is least where the word without its last letter is
    front_least : (front : List ℕ) (x : ℕ) (back : List ℕ) → FromEnd back
        → IsLeastWord below pairs (take (length (front ++ x ∷ back) - 1) (front ++ x ∷ back)) → IsLeastWord below pairs front
    front_least front x back empty least =
        let P : List ℕ → Type 0 = λ w. IsLeastWord below pairs w in
        let long : length front ≡ length (front ++ x ∷ []) - 1 = omega (arith, length-append front (x ∷ [])) in
        subst P (take_at front (x ∷ []) _ long) least
    front_least front x back (last more y) least =
        let P : List ℕ → Type 0 = λ w. IsLeastWord below pairs w in
        let split : front ++ x ∷ (more ++ y ∷ []) ≡ (front ++ x ∷ more) ++ y ∷ [] = sym (append_assoc front (x ∷ more) (y ∷ [])) in
        let long : length (front ++ x ∷ more) ≡ length (front ++ x ∷ (more ++ y ∷ [])) - 1 =
        omega (arith, ap length split, length-append (front ++ x ∷ more) (y ∷ [])) in
        let is : take (length (front ++ x ∷ (more ++ y ∷ [])) - 1) (front ++ x ∷ (more ++ y ∷ [])) ≡ front ++ x ∷ more =
        ap (take (length (front ++ x ∷ (more ++ y ∷ [])) - 1)) split ∙ take_at (front ++ x ∷ more) (y ∷ []) _ long in
        least_factor [] front (x ∷ more) (subst P is least)

    -- what stands behind a letter is least where the word without its first letter is
    back_least : (front : List ℕ) (x : ℕ) (back : List ℕ) → IsLeastWord below pairs (drop 1 (front ++ x ∷ back))
        → IsLeastWord below pairs back
    back_least [] x back least = least
    back_least (y ∷ front) x back least =
        let P : List ℕ → Type 0 = λ w. IsLeastWord below pairs w in
        let is : front ++ x ∷ back ≡ (front ++ x ∷ []) ++ back ++ [] = sym (append-nil _ ∙ append_assoc front (x ∷ []) back) in
        least_factor (front ++ x ∷ []) back [] (subst P is least)

    -- a left side with a foreign letter would be least
    no_foreign : (w front : List ℕ) (x : ℕ) (back : List ℕ) → w ≡ front ++ x ∷ back → IsForeign n x
        → IsLeastWord below pairs (drop 1 w) → IsLeastWord below pairs (take (length w - 1) w) → IsLeastWord below pairs w
    no_foreign w front x back whole foreign behind_first before_last =
        let P : List ℕ → Type 0 = λ v. IsLeastWord below pairs v in
        let Behind : List ℕ → Type 0 = λ v. IsLeastWord below pairs (drop 1 v) in
        let Before : List ℕ → Type 0 = λ v. IsLeastWord below pairs (take (length v - 1) v) in
        let first = front_least front x back (from_end back) (subst Before whole before_last) in
        let second = back_least front x back (subst Behind whole behind_first) in
        subst P (sym whole) (least_around front x back foreign first second)

    -- the left side of a reduced rule has the letters of the pairs
    pub left_side_over : (rule : Pair) → IsReducedRule below pairs rule → IsOver n rule.0
    left_side_over rule is =
        elim (over_or_foreign n rule.0) [
          | inl letters ↦ letters
          | inr has ↦
              absurd (is.not_least (no_foreign rule.0 has.front has.letter has.back has.whole has.foreign is.behind_first is.before_last))
        ]
