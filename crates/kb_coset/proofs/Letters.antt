-- Words over n generators, and where a letter that is no generator stands in a word.
use Rattle.std.proofs.Common.{◌≡◌, ℕ, ◌<◌, ◌≤◌, List, [], ◌∷◌, ◌++◌, refl, sym, ap, subst, arith}
use Rattle.std.specs.List.{All}
use Rattle.std.proofs.lemmas.List.Elements.{All-nil, All-cons, All-head, All-tail, All-append}
use Rattle.std.proofs.lemmas.Option.{slice_get_within, get_or_from_slice_get}
use Rattle.kb_word.specs.Relations.{IsOver}
use Rattle.kb_coset.specs.Subgroups.{IsGenerator}

-- ---- words over n generators

pub over_none : (n : ℕ) → IsOver n []
over_none n = All-nil (λ x. (0 < x) × (x ≤ n))

pub over_first : (n x : ℕ) (w : List ℕ) → IsOver n (x ∷ w) → (0 < x) × (x ≤ n)
over_first n x w over = All-head (λ y. (0 < y) × (y ≤ n)) x w over

pub over_later : (n x : ℕ) (w : List ℕ) → IsOver n (x ∷ w) → IsOver n w
over_later n x w over = All-tail (λ y. (0 < y) × (y ≤ n)) x w over

pub over_append : (n : ℕ) (u v : List ℕ) → IsOver n u → IsOver n v → IsOver n (u ++ v)
over_append n u v first second = All-append (λ y. (0 < y) × (y ≤ n)) u v first second

-- the front and the rest of such a word
pub over_front : (n : ℕ) (u v : List ℕ) → IsOver n (u ++ v) → IsOver n u
over_front n [] v over = over_none n
over_front n (x ∷ u) v over =
    All-cons (λ y. (0 < y) × (y ≤ n)) x u (over_first n x (u ++ v) over) (over_front n u v (over_later n x (u ++ v) over))

pub over_rest : (n : ℕ) (u v : List ℕ) → IsOver n (u ++ v) → IsOver n v
over_rest n [] v over = over
over_rest n (x ∷ u) v over = over_rest n u v (over_later n x (u ++ v) over)

-- a factor is replaced by another
pub over_replaced : (n : ℕ) (before left right after : List ℕ) → IsOver n (before ++ left ++ after) → IsOver n right
    → IsOver n (before ++ right ++ after)
over_replaced n before left right after whole over =
    let front = over_front n before left (over_front n (before ++ left) after whole) in
    over_append n (before ++ right) after (over_append n before right front over) (over_rest n (before ++ left) after whole)

-- each of the words is over n generators
pub generator_over : (n : ℕ) (generators : List (List ℕ)) (h : List ℕ) → All (IsOver n) generators → IsGenerator generators h
    → IsOver n h
generator_over n generators h all is =
    let P : List ℕ → Type 0 = λ w. IsOver n w in
    subst P (get_or_from_slice_get generators is.0 h h is.1) (all is.0 h (slice_get_within generators is.0 h is.1))

-- ---- a letter that is no generator

-- a letter that is no generator, with what stands before and behind it where it stands once
pub record HasOnce (n letter : ℕ) (front back w : List ℕ) : Type 0 where
  pub whole : w ≡ front ++ letter ∷ back
  pub front_over : IsOver n front
  pub back_over : IsOver n back

foreign_head : (n x : ℕ) (w : List ℕ) (P : Type 0) → IsOver n (x ∷ w) → n < x → P
foreign_head n x w P over foreign = let is = over_first n x w over in absurd (omega arith)

-- where it stands first there is nothing in front
pub nothing_in_front : (n letter : ℕ) (front back rest : List ℕ) → n < letter → IsOver n front
    → front ++ letter ∷ back ≡ letter ∷ rest → (front ≡ []) × (back ≡ rest)
nothing_in_front n letter [] back rest foreign over same = (refl, cc same)
nothing_in_front n letter (x ∷ front) back rest foreign over same =
    let first : x ≡ letter = cc same in
    let P : ℕ → Type 0 = λ y. IsOver n (y ∷ front) in
    foreign_head n letter front _ (subst P first over) foreign

-- it stands at one place
pub one_place : (n letter : ℕ) (front back before rest : List ℕ) → n < letter → IsOver n front → IsOver n back
    → front ++ letter ∷ back ≡ before ++ letter ∷ rest → (front ≡ before) × (back ≡ rest)
one_place n letter front back [] rest foreign over behind same = nothing_in_front n letter front back rest foreign over same
one_place n letter [] back (y ∷ before) rest foreign over behind same =
    let inside : back ≡ before ++ letter ∷ rest = cc same in
    let P : List ℕ → Type 0 = λ w. IsOver n w in
    foreign_head n letter rest _ (over_rest n before (letter ∷ rest) (subst P inside behind)) foreign
one_place n letter (x ∷ front) back (y ∷ before) rest foreign over behind same =
    let first : x ≡ y = cc same in
    let later : front ++ letter ∷ back ≡ before ++ letter ∷ rest = cc same in
    let found = one_place n letter front back before rest foreign (over_later n x front over) behind later in
    (cc (first, found.0), found.1)

-- A factor over the generators stands before the letter or behind it.
pub data Side (letter : ℕ) (before left after front back : List ℕ) : Type 0 where
  ahead : (middle : List ℕ) → front ≡ before ++ left ++ middle → after ≡ middle ++ letter ∷ back
      → Side letter before left after front back
  behind : (middle : List ℕ) → before ≡ front ++ letter ∷ middle → back ≡ middle ++ left ++ after
      → Side letter before left after front back

-- the letter stands behind a word over the generators
behind_word : (n letter : ℕ) (left after front back : List ℕ) → n < letter → IsOver n left
    → left ++ after ≡ front ++ letter ∷ back
    → (middle : List ℕ) × (front ≡ left ++ middle) × (after ≡ middle ++ letter ∷ back)
behind_word n letter [] after front back foreign over same = (front, refl, same)
behind_word n letter (x ∷ left) after [] back foreign over same =
    let first : x ≡ letter = cc same in
    let P : ℕ → Type 0 = λ y. IsOver n (y ∷ left) in
    foreign_head n letter left _ (subst P first over) foreign
behind_word n letter (x ∷ left) after (y ∷ front) back foreign over same =
    let first : x ≡ y = cc same in
    let later : left ++ after ≡ front ++ letter ∷ back = cc same in
    let found = behind_word n letter left after front back foreign (over_later n x left over) later in
    (found.0, cc (first, found.1), found.2)

pub side : (n letter : ℕ) (before left after front back : List ℕ) → n < letter → IsOver n left
    → before ++ left ++ after ≡ front ++ letter ∷ back → Side letter before left after front back
side n letter [] left after front back foreign over same =
    let found = behind_word n letter left after front back foreign over same in ahead found.0 found.1 found.2
side n letter (x ∷ before) left after [] back foreign over same =
    let first : x ≡ letter = cc same in
    let later : before ++ left ++ after ≡ back = cc same in
    behind before (ap (λ y. y ∷ before) first) (sym later)
side n letter (x ∷ before) left after (y ∷ front) back foreign over same =
    let first : x ≡ y = cc same in
    let later : before ++ left ++ after ≡ front ++ letter ∷ back = cc same in
    elim (side n letter before left after front back foreign over later) [
      | ahead middle is rest ↦ ahead middle (cc (first, is)) rest
      | behind middle is rest ↦ behind middle (cc (first, is)) rest
    ]
