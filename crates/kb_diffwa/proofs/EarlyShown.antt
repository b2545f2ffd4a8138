-- Rivals that are led to the first difference as lesser words show it in the whole row.
use Rattle.std.proofs.Common.{◌≡◌, ℕ, zero, suc, ◌-◌, ◌<◌, ◌≤◌, Bool, true, nat_eq, ◌&&◌, List, [], ◌∷◌, length, get_or, None, sym, ap, ◌∙◌, subst, inl, inr, arith}
use Rattle.std.specs.List.{All, Contains, list_any}
use Rattle.std.proofs.lemmas.List.Folds.{list_any_at}
use Rattle.std.proofs.lemmas.Bool.{and_parts, eqb-true, false≢true, lt-ltb, or_cases}
use Rattle.kb_diffwa.proofs.Members.{Contains-here, Contains-there}
use Rattle.kb_diffwa.specs.Rivals.{Rival}
use Rattle.kb_diffwa.specs.declared.rivals.Rivals.{Rivals}
use Rattle.kb_diffwa.specs.RivalMoves.{shows_less}
use Rattle.kb_diffwa.specs.RivalSets.{AreWithin, Steps, all_compared, any_less, first_row, followed, leads_less, pairs_from, row_after, unless_less}
use Rattle.kb_diffwa.proofs.RivalSetRuns.{shown_in_row, some_less, unless_shown}
use Rattle.kb_diffwa.proofs.Rows.{IsLedFromSet, all_now, first_row_length}

-- a pair that leads there settles it
pub leads_less_at : (n a : ℕ) (steps : Steps) (rivals : Rivals) (pairs : List (ℕ × ℕ)) (index : ℕ) (d : ℕ × ℕ)
    → pairs ≡ pairs_from steps rivals.difference → index < length pairs → (get_or pairs index d).1 ≡ 1
    → any_less (all_compared n rivals.comparisons a (get_or pairs index d).0) ≡ true
    → true ≡ leads_less n a steps rivals
leads_less_at n a steps rivals pairs index d are within first less =
    let test = λ (pair : ℕ × ℕ). nat_eq pair.1 1 && any_less (all_compared n rivals.comparisons a pair.0) in
    let P : List (ℕ × ℕ) → Type 0 = λ items. true ≡ list_any test items in
    let both : test (get_or pairs index d) ≡ true =
    ap (λ is. is && any_less (all_compared n rivals.comparisons a (get_or pairs index d).0)) (ap (λ k. nat_eq k 1) first) ∙ less in
    subst P are (sym (list_any_at test pairs index d within both))

-- an element of the list that passes
record Passed {X : Type 0} (p : X → Bool) (xs : List X) : Type 0 where
  one : X
  at : Contains xs one
  passes : p one ≡ true

passed : {X : Type 0} (p : X → Bool) (xs : List X) → list_any p xs ≡ true → Passed p xs
passed p [] any = absurd (false≢true any)
passed p (x ∷ xs) any = elim (or_cases (p x) (list_any p xs) any) [
  | inl is ↦ record { one = x; at = Contains-here x xs; passes = is }
  | inr more ↦
      let later = passed p xs more in
      record { one = later.one; at = Contains-there x xs later.one later.at; passes = later.passes }
]

module _ (n a count : ℕ) (steps : Steps) (members : List Rivals) where
  -- a rival of the row after the letter that shows a lesser word, by a member of the set
  record IsShown : Type 0 where
    rival : Rival
    led : IsLedFromSet n a steps members rival
    shows : shows_less rival ≡ true

  shown : list_any (leads_less n a steps) members ≡ true → IsShown
  shown any =
      let found = passed (leads_less n a steps) members any in
      let member = found.one in
      let test = λ (pair : ℕ × ℕ). nat_eq pair.1 1 && any_less (all_compared n member.comparisons a pair.0) in
      let pairs = pairs_from steps member.difference in
      let pair = passed test pairs found.passes in
      let parts = and_parts (nat_eq pair.one.1 1) (any_less (all_compared n member.comparisons a pair.one.0)) pair.passes in
      let first : pair.one.1 ≡ 1 = eqb-true pair.one.1 1 parts.0 in
      let some = some_less (all_compared n member.comparisons a pair.one.0) parts.1 in
      let P : ℕ → Type 0 = λ target. Contains pairs (pair.one.0, target) in
      record {
        rival = record { difference = 1; comparison = some.0 };
        led = record {
          member = member;
          at = found.at;
          led = record { b = pair.one.0; at = subst P first pair.at; among = some.1.0 };
        };
        shows = some.1.1;
      }

  -- where it is seen early that a lesser word is shown, no set follows
  pub early_shown : AreWithin count steps → 0 < count → list_any (leads_less n a steps) members ≡ true
      → unless_less (row_after n count a steps members) ≡ None
  early_shown within some any =
      let it = shown any in
      let row = first_row count in
      unless_shown (row_after n count a steps members)
      (shown_in_row (row_after n count a steps members) it.rival
      (all_now n a count steps within members row it.rival (first_row_length count) it.led) it.shows)

pub early_none : (n count : ℕ) (letters : List Steps) (members : List Rivals) (letter : ℕ) → 0 < letter → letter ≤ n
    → All (AreWithin count) letters → length letters ≡ n → 0 < count
    → list_any (leads_less n letter (get_or letters (letter - 1) [])) members ≡ true
    → None ≡ followed n count letters members letter
early_none n count letters members zero positive most within long some any = absurd (omega arith)
early_none n count letters members (suc index) positive most within long some any =
    let steps = get_or letters index [] in
    let before : suc index - 1 ≡ index = omega arith in
    let P : ℕ → Type 0 = λ k. list_any (leads_less n (suc index) (get_or letters k [])) members ≡ true in
    rw (lt-ltb index n (omega arith))
    (sym (early_shown n (suc index) count steps members (within index [] (omega arith)) some (subst P before any)))
