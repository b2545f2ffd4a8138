-- Letters at a depth of left sides as numbers, where none comes first.
use Rattle.std.proofs.Common.{◌≡◌, ℕ, suc, ◌<◌, List, eqb, ltb, leb, Option, None, Some, Ordering, refl, sym, ◌∙◌, inl, inr, arith}
use Rattle.std.specs.declared.cmp.Ordering.TheVariants.{Less, Equal, Greater}
use Rattle.std.specs.Prelude.{slice_get}
use Rattle.std.specs.List.{filter}
use Rattle.std.specs.Option.{option_eq, option_partial_cmp}
use Rattle.std.specs.Ordering.{MatchOrdering, is_le, is_lt, is_some_and, nat_cmp}
use Rattle.std.proofs.lemmas.Bool.{eq-eqb, ne_eqb, cases_eq, lt-ltb, le-ltb, le-leb, lt-leb}
use Rattle.std.proofs.lemmas.Cmp.{ranked}
use Rattle.std.proofs.lemmas.List.Elements.{filter_agree}
use Rattle.kb_overlap.specs.Sides.{with_letter}
use Rattle.kb_overlap.specs.declared.walk.Side.{Side}

-- a number for each letter, and 0 past the end
abbrev pub key : Option ℕ → ℕ
key None = 0
key (Some letter) = suc letter

abbrev pub key_at : ℕ → List ℕ → ℕ
key_at depth letters = key (slice_get letters depth)

-- the left sides that have this key at the depth
abbrev pub with_key : ℕ → ℕ → List Side → List Side
with_key depth sought = filter (λ side. eqb (key_at depth side.letters.now) sought)

abbrev pub compared : Option ℕ → Option ℕ → Option Ordering
compared = option_partial_cmp (λ x y. Some (nat_cmp x y))

less_number : (x y : ℕ) (o : Ordering) → MatchOrdering o (x < y) (x ≡ y) (y < x) → is_lt o ≡ ltb (suc x) (suc y)
less_number x y Less m = sym (lt-ltb (suc x) (suc y) (omega arith))
less_number x y Equal m = sym (le-ltb (suc x) (suc y) (omega arith))
less_number x y Greater m = sym (le-ltb (suc x) (suc y) (omega arith))

at_most_number : (x y : ℕ) (o : Ordering) → MatchOrdering o (x < y) (x ≡ y) (y < x) → is_le o ≡ leb (suc x) (suc y)
at_most_number x y Less m = sym (le-leb (suc x) (suc y) (omega arith))
at_most_number x y Equal m = sym (le-leb (suc x) (suc y) (omega arith))
at_most_number x y Greater m = sym (lt-leb (suc x) (suc y) (omega arith))

pub less_by_key : (a b : Option ℕ) → is_some_and is_lt (compared a b) ≡ ltb (key a) (key b)
less_by_key None None = sym (le-ltb 0 0 (omega arith))
less_by_key None (Some y) = sym (lt-ltb 0 (suc y) (omega arith))
less_by_key (Some x) None = sym (le-ltb (suc x) 0 (omega arith))
less_by_key (Some x) (Some y) = less_number x y (nat_cmp x y) (ranked x y (nat_cmp x y) refl)

pub at_most_by_key : (a b : Option ℕ) → is_some_and is_le (compared a b) ≡ leb (key a) (key b)
at_most_by_key None None = sym (le-leb 0 0 (omega arith))
at_most_by_key None (Some y) = sym (le-leb 0 (suc y) (omega arith))
at_most_by_key (Some x) None = sym (lt-leb (suc x) 0 (omega arith))
at_most_by_key (Some x) (Some y) = at_most_number x y (nat_cmp x y) (ranked x y (nat_cmp x y) refl)

same_by_key : (a b : Option ℕ) → option_eq eqb a b ≡ eqb (key a) (key b)
same_by_key None None = sym (eq-eqb 0 0 refl)
same_by_key None (Some y) = sym (ne_eqb 0 (suc y) (λ e. omega arith))
same_by_key (Some x) None = sym (ne_eqb (suc x) 0 (λ e. omega arith))
same_by_key (Some x) (Some y) = elim (cases_eq x y) [
  | inl same ↦ eq-eqb x y same ∙ sym (eq-eqb (suc x) (suc y) (omega arith))
  | inr apart ↦ ne_eqb x y apart ∙ sym (ne_eqb (suc x) (suc y) (λ e. apart (omega arith)))
]

pub with_letter_by_key : (depth : ℕ) (letter : Option ℕ) (sides : List Side) → with_letter depth letter sides ≡ with_key depth (key letter) sides
with_letter_by_key depth letter sides =
    filter_agree (λ (side : Side). option_eq eqb (slice_get side.letters.now depth) letter)
    (λ (side : Side). eqb (key_at depth side.letters.now) (key letter)) (λ side. same_by_key (slice_get side.letters.now depth) letter) sides
