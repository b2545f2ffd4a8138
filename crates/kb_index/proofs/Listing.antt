-- The left sides that have the numbers of a list, and their places.
use Rattle.std.proofs.Common.{◌≡◌, ℕ, ◌+◌, ◌-◌, ◌<◌, ◌≤◌, ◌⊎◌, List, [], ◌∷◌, ◌++◌, length, get_or, set, Option, Some, None, unwrap_or, refl, sym, ap, ◌∙◌, subst, inl, inr, arith}
use Rattle.std.proofs.lemmas.List.{ext_get_or, get_or-map, get_or-set_other, get_or_append_left, get_or_push, length-map, length_push, map_push}
use Rattle.std.proofs.lemmas.List.Edits.{length-remove, get_or-remove_below, get_or-remove_above}
use Rattle.std.proofs.lemmas.Bool.{cases_lt}
use Rattle.std.specs.List.{remove}
use Rattle.kb_trie.specs.LeftSides.{HasAt}
use Rattle.kb_trie.proofs.HasAt.{has_before, has_cases, has_left, has_new, has_old, has_within}
use Rattle.kb_index.specs.Automata.{AreNumbers, Rise, listed}

-- the left side with a number, or no letters where there is none
abbrev pub left_of : List (Option (List ℕ)) → ℕ → List ℕ
left_of lefts number = unwrap_or (get_or lefts number None) []

pub listed_length : (lefts : List (Option (List ℕ))) (numbers : List ℕ) → length (listed lefts numbers) ≡ length numbers
listed_length lefts numbers = length-map numbers (left_of lefts)

pub listed_at : (lefts : List (Option (List ℕ))) (numbers : List ℕ) (place : ℕ) → place < length numbers
    → get_or (listed lefts numbers) place [] ≡ left_of lefts (get_or numbers place 0)
listed_at lefts numbers place within = get_or-map (left_of lefts) numbers place 0 [] within

-- the left side with a number that is there
pub left_there : (lefts : List (Option (List ℕ))) (left : List ℕ) (number : ℕ) → HasAt lefts left number → left_of lefts number ≡ left
left_there lefts left number has = ap (λ (o : Option (List ℕ)). unwrap_or o []) has

-- numbers of which each has the same left side as before
listed_same : (lefts lefts' : List (Option (List ℕ))) (numbers : List ℕ)
    → ((place : ℕ) → place < length numbers → left_of lefts' (get_or numbers place 0) ≡ left_of lefts (get_or numbers place 0))
    → listed lefts' numbers ≡ listed lefts numbers
listed_same lefts lefts' numbers same =
    ext_get_or [] (listed lefts' numbers) (listed lefts numbers) (listed_length lefts' numbers ∙ sym (listed_length lefts numbers))
    (λ place within.
    let inside : place < length numbers = omega (arith, within, listed_length lefts' numbers) in
    listed_at lefts' numbers place inside ∙ same place inside ∙ sym (listed_at lefts numbers place inside))

-- with one more at the end
pub listed_pushed : (lefts : List (Option (List ℕ))) (numbers : List ℕ) (left : List ℕ) → AreNumbers lefts numbers
    → listed (lefts ++ Some left ∷ []) (numbers ++ length lefts ∷ []) ≡ listed lefts numbers ++ left ∷ []
listed_pushed lefts numbers left are =
    let more : List (Option (List ℕ)) = lefts ++ Some left ∷ [] in
    map_push (left_of more) numbers (length lefts)
    ∙ ap (λ (ls : List (List ℕ)). ls ++ left_of more (length lefts) ∷ [])
    (listed_same lefts more numbers (λ place within.
    let has = are.has place within in
    left_there more has.0 (get_or numbers place 0) (has_old lefts (Some left) has.0 (get_or numbers place 0) has.1)
    ∙ sym (left_there lefts has.0 (get_or numbers place 0) has.1)))
    ∙ ap (λ (l : List ℕ). listed lefts numbers ++ l ∷ []) (left_there more left (length lefts) (has_new lefts left))

-- the places of the list and the last one
place_cases : (numbers : List ℕ) (number place : ℕ) → place < length (numbers ++ number ∷ [])
    → ((place < length numbers) × (get_or (numbers ++ number ∷ []) place 0 ≡ get_or numbers place 0))
    ⊎ ((place ≡ length numbers) × (get_or (numbers ++ number ∷ []) place 0 ≡ number))
place_cases numbers number place within =
    elim (cases_lt place (length numbers)) [
      | inl old ↦ inl (old, get_or_append_left numbers (number ∷ []) 0 place old)
      | inr new ↦
          let last : length numbers ≡ place = omega (arith, within, length_push numbers number) in
          inr (sym last, get_or_push numbers number 0 place last)
    ]

pub numbers_pushed : (lefts : List (Option (List ℕ))) (numbers : List ℕ) (left : List ℕ) → AreNumbers lefts numbers
    → AreNumbers (lefts ++ Some left ∷ []) (numbers ++ length lefts ∷ [])
numbers_pushed lefts numbers left are =
    let more : List (Option (List ℕ)) = lefts ++ Some left ∷ [] in
    let last : get_or (numbers ++ length lefts ∷ []) (length numbers) 0 ≡ length lefts = get_or_push numbers (length lefts) 0 (length numbers) refl in
    record {
      rise = λ i j less within.
          elim (place_cases numbers (length lefts) j within) [
            | inl old ↦
                omega (arith, old.1, are.rise i j less old.0, get_or_append_left numbers (length lefts ∷ []) 0 i (omega (arith, less, old.0)))
            | inr new ↦
                let early : i < length numbers = omega (arith, less, new.0) in
                let has = are.has i early in
                omega (arith, new.1, has_within lefts has.0 (get_or numbers i 0) has.1, get_or_append_left numbers (length lefts ∷ []) 0 i early)
          ];
      has = λ place within.
          elim (place_cases numbers (length lefts) place within) [
            | inl old ↦
                let has = are.has place old.0 in
                (has.0, subst (HasAt more has.0) (sym old.1) (has_old lefts (Some left) has.0 (get_or numbers place 0) has.1))
            | inr new ↦ (left, subst (HasAt more left) (sym new.1) (has_new lefts left))
          ];
      all = λ number other has.
          elim (has_cases lefts left other number has) [
            | inl old ↦
                let there = are.all number other old in (
                  there.0,
                  omega (arith, there.1, length_push numbers (length lefts)),
                  get_or_append_left numbers (length lefts ∷ []) 0 there.0 there.1 ∙ there.2,
                )
            | inr new ↦ (length numbers, omega (arith, length_push numbers (length lefts)), last ∙ sym new.0)
          ];
    }

-- Where a place is taken out, a place of the rest was another place of the list. The later ones move down.
record Moved (numbers : List ℕ) (gone place : ℕ) : Type 0 where
  was : ℕ
  within : was < length numbers
  before : place < gone → was ≡ place
  behind : gone ≤ place → was ≡ place + 1
  is : get_or (remove numbers gone) place 0 ≡ get_or numbers was 0

moved : (numbers : List ℕ) (gone place : ℕ) → gone < length numbers → place < length (remove numbers gone) → Moved numbers gone place
moved numbers gone place there within =
    let long = length-remove numbers gone there in
    elim (cases_lt place gone) [
      | inl below ↦
          record {
            was = place;
            within = omega (arith, below, there);
            before = λ _. refl;
            behind = λ above. absurd (omega (arith, above, below));
            is = get_or-remove_below numbers gone 0 place below there;
          }
      | inr above ↦
          record {
            was = place + 1;
            within = omega (arith, within, long);
            before = λ below. absurd (omega (arith, above, below));
            behind = λ _. refl;
            is = get_or-remove_above numbers gone 0 place above there;
          }
    ]

-- a number has one place
pub same_place : (numbers : List ℕ) → Rise numbers → (i j : ℕ) → i < length numbers → j < length numbers
    → get_or numbers i 0 ≡ get_or numbers j 0 → i ≡ j
same_place numbers rise i j one two same =
    elim (cases_lt i j) [
      | inl less ↦ absurd (omega (arith, same, rise i j less two))
      | inr more ↦ elim (cases_lt j i) [
        | inl less ↦ absurd (omega (arith, same, rise j i less one))
        | inr equal ↦ omega (arith, more, equal)
      ]
    ]

was_apart : (numbers : List ℕ) (gone place : ℕ) → (m : Moved numbers gone place) → m.was ≡ gone → ⊥
was_apart numbers gone place m same =
    elim (cases_lt place gone) [
      | inl below ↦ omega (arith, same, m.before below)
      | inr above ↦ omega (arith, same, m.behind above)
    ]

pub listed_removed : (lefts : List (Option (List ℕ))) (numbers : List ℕ) (gone : ℕ) → AreNumbers lefts numbers → gone < length numbers
    → listed (set lefts (get_or numbers gone 0) None) (remove numbers gone) ≡ remove (listed lefts numbers) gone
listed_removed lefts numbers gone are there =
    let fewer : List (Option (List ℕ)) = set lefts (get_or numbers gone 0) None in
    let there' : gone < length (listed lefts numbers) = omega (arith, there, listed_length lefts numbers) in
    let long = length-remove (listed lefts numbers) gone there' in
    let long' = length-remove numbers gone there in
    ext_get_or [] (listed fewer (remove numbers gone)) (remove (listed lefts numbers) gone)
    (omega (arith, long, long', listed_length fewer (remove numbers gone), listed_length lefts numbers))
    (λ place within.
    let inside : place < length (remove numbers gone) = omega (arith, within, listed_length fewer (remove numbers gone)) in
    let m : Moved numbers gone place = moved numbers gone place there inside in
    let apart : get_or numbers m.was 0 ≡ get_or numbers gone 0 → ⊥ =
    λ same. was_apart numbers gone place m (same_place numbers are.rise m.was gone m.within there same) in
    let same : left_of fewer (get_or numbers m.was 0) ≡ left_of lefts (get_or numbers m.was 0) =
    ap (λ (o : Option (List ℕ)). unwrap_or o []) (get_or-set_other lefts (get_or numbers gone 0) (get_or numbers m.was 0) None None apart) in
    let back : get_or (remove (listed lefts numbers) gone) place [] ≡ get_or (listed lefts numbers) m.was [] = elim (cases_lt place gone) [
      | inl below ↦
          get_or-remove_below (listed lefts numbers) gone [] place below there'
          ∙ ap (λ (n : ℕ). get_or (listed lefts numbers) n []) (sym (m.before below))
      | inr above ↦
          get_or-remove_above (listed lefts numbers) gone [] place above there'
          ∙ ap (λ (n : ℕ). get_or (listed lefts numbers) n []) (sym (m.behind above))
    ] in
    listed_at fewer (remove numbers gone) place inside ∙ ap (left_of fewer) m.is ∙ same ∙ sym (listed_at lefts numbers m.was m.within) ∙ sym back)

pub numbers_removed : (lefts : List (Option (List ℕ))) (numbers : List ℕ) (gone : ℕ) → AreNumbers lefts numbers → gone < length numbers
    → AreNumbers (set lefts (get_or numbers gone 0) None) (remove numbers gone)
numbers_removed lefts numbers gone are there =
    let fewer : List (Option (List ℕ)) = set lefts (get_or numbers gone 0) None in
    let long = length-remove numbers gone there in
    record {
      rise = λ i j less within.
          let one : Moved numbers gone i = moved numbers gone i there (omega (arith, less, within)) in
          let two : Moved numbers gone j = moved numbers gone j there within in
          let later : one.was < two.was = elim (cases_lt i gone) [
            | inl below ↦ elim (cases_lt j gone) [
              | inl below' ↦ omega (arith, less, one.before below, two.before below')
              | inr above' ↦ omega (arith, less, one.before below, two.behind above')
            ]
            | inr above ↦ omega (arith, less, one.behind above, two.behind (omega (arith, less, above)))
          ] in
          omega (arith, one.is, two.is, are.rise one.was two.was later two.within);
      has = λ place within.
          let m : Moved numbers gone place = moved numbers gone place there within in
          let has = are.has m.was m.within in
          let apart : get_or numbers m.was 0 ≡ get_or numbers gone 0 → ⊥ =
          λ same. was_apart numbers gone place m (same_place numbers are.rise m.was gone m.within there same) in
          (has.0, subst (HasAt fewer has.0) (sym m.is) (has_left lefts (get_or numbers gone 0) has.0 (get_or numbers m.was 0) apart has.1));
      all = λ number left has.
          let old = has_before lefts (get_or numbers gone 0) left number has in
          let at = are.all number left old.0 in
          elim (cases_lt at.0 gone) [
            | inl below ↦ (at.0, omega (arith, below, there, long), get_or-remove_below numbers gone 0 at.0 below there ∙ at.2)
            | inr above ↦
                let behind : gone < at.0 = elim (cases_lt gone at.0) [
                  | inl behind ↦ behind
                  | inr equal ↦
                      let same : gone ≡ at.0 = omega (arith, above, equal) in
                      absurd (old.1 (sym at.2 ∙ ap (λ (n : ℕ). get_or numbers n 0) (sym same)))
                ] in
                let on : (at.0 - 1) + 1 ≡ at.0 = omega (arith, behind) in (
                  at.0 - 1,
                  omega (arith, behind, at.1, long),
                  get_or-remove_above numbers gone 0 (at.0 - 1) (omega (arith, behind)) there ∙ ap (λ (n : ℕ). get_or numbers n 0) on ∙ at.2,
                )
          ];
    }
