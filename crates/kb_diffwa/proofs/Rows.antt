-- Rows: for each difference how its rivals compare. Which rivals are in them, and in the sets that are made of them.
use Rattle.std.proofs.Common.{◌≡◌, ◌≢◌, ◌↔◌, ◌⊎◌, ℕ, zero, suc, ◌+◌, ◌-◌, ◌<◌, ◌≤◌, true, false, not, List, [], ◌∷◌, length, get_or, set, replicate, refl, sym, ap, ◌∙◌, subst, inl, inr, arith}
use Rattle.std.specs.List.{All, Contains, fold}
use Rattle.std.proofs.lemmas.Bool.{cases_Bool, cases_eq, cases_lt, false≢true, or_cases, or_left, or_right}
use Rattle.std.proofs.lemmas.List.{ext_get_or, get_or-replicate, get_or-set_other, get_or-set_same, get_or_past, length-replicate, length-set}
use Rattle.std.proofs.lemmas.List.Elements.{All-head, All-nil, All-tail}
use Rattle.kb_diffwa.proofs.Members.{Contains-cons_cases, Contains-here, Contains-there, Contains-none}
use Rattle.kb_diffwa.specs.Comparing.{Comparison, Ended, Equal, Greater, Less}
use Rattle.kb_diffwa.specs.declared.comparisons.Comparisons.{Comparisons}
use Rattle.kb_diffwa.specs.Rivals.{Rival}
use Rattle.kb_diffwa.specs.declared.rivals.Rivals.{Rivals}
use Rattle.kb_diffwa.specs.RivalMoves.{first_rival}
use Rattle.kb_diffwa.specs.RivalSets.{AreWithin, IsInRow, Steps, all_compared, first_comparisons, first_row, includes, is_none, joined, led_by_pair, led_on, members_from, no_comparisons, pairs_from}
use Rattle.kb_diffwa.proofs.AllCompared.{included_joined, none_included, same_comparisons_of, some_from}

pub first_row_length : (count : ℕ) → length (first_row count) ≡ count
first_row_length count =
    length-set (replicate count no_comparisons) 0 first_comparisons ∙ length-replicate count no_comparisons

-- a row has rivals of no more differences than it is long
pub in_row_within : (row : List Comparisons) (index : ℕ) (c : Comparison)
    → includes (get_or row index no_comparisons) c ≡ true → index < length row
in_row_within row index c among =
    elim (cases_lt index (length row)) [
      | inl within ↦ within
      | inr past ↦
          let P : Comparisons → Type 0 = λ f. includes f c ≡ true in
          absurd (none_included c (subst P (get_or_past row index no_comparisons past) among))
    ]

-- ---- the row of the first rival

same_rival : (one other : Rival) → one.difference ≡ other.difference → one.comparison ≡ other.comparison
    → one ≡ other
same_rival one other difference comparison =
    let Made = λ (d : ℕ) (c : Comparison). let rival : Rival = record { difference = d; comparison = c } in rival in
    ap (λ d. Made d one.comparison) difference ∙ ap (λ c. Made other.difference c) comparison

only_equal : (c : Comparison) → includes first_comparisons c ≡ true → c ≡ Equal
only_equal Equal among = refl
only_equal Less among = absurd (none_included Less among)
only_equal Greater among = absurd (none_included Greater among)
only_equal Ended among = absurd (none_included Ended among)

module _ (count : ℕ) (some : 0 < count) where
  at_first : get_or (first_row count) 0 no_comparisons ≡ first_comparisons
  at_first =
      let long = length-replicate count no_comparisons in
      get_or-set_same (replicate count no_comparisons) 0 first_comparisons no_comparisons (omega arith)

  at_later : (index : ℕ) → index ≢ 0 → get_or (first_row count) index no_comparisons ≡ no_comparisons
  at_later index differ =
      get_or-set_other (replicate count no_comparisons) 0 index first_comparisons no_comparisons differ
      ∙ elim (cases_lt index count) [
        | inl within ↦ get_or-replicate count index no_comparisons no_comparisons within
        | inr past ↦
            let long = length-replicate count no_comparisons in
            get_or_past (replicate count no_comparisons) index no_comparisons (omega arith)
      ]

  pub first_in_row : IsInRow (first_row count) first_rival
  first_in_row =
      let P : Comparisons → Type 0 = λ f. includes f Equal ≡ true in
      record { index = 0; is = refl; among = subst P (sym at_first) refl }

  pub only_first : (rival : Rival) → IsInRow (first_row count) rival → rival ≡ first_rival
  only_first rival at =
      let P : Comparisons → Type 0 = λ f. includes f rival.comparison ≡ true in
      elim (cases_eq at.index 0) [
        | inl start ↦
            let Q : ℕ → Type 0 = λ k. includes (get_or (first_row count) k no_comparisons) rival.comparison ≡ true in
            let among = subst P at_first (subst Q start at.among) in
            let one : rival.difference ≡ 1 = at.is ∙ ap suc start in
            same_rival rival first_rival one (only_equal rival.comparison among)
        | inr differ ↦ absurd (none_included rival.comparison (subst P (at_later at.index differ) at.among))
      ]

-- ---- a row with more rivals of one difference

module _ (row : List Comparisons) (place : ℕ) (more : Comparisons) (within : place < length row) where
  abbrev here : List Comparisons
  here = set row place (joined (get_or row place no_comparisons) more)

  more_here : get_or here place no_comparisons ≡ joined (get_or row place no_comparisons) more
  more_here = get_or-set_same row place (joined (get_or row place no_comparisons) more) no_comparisons within

  as_before : (index : ℕ) → index ≢ place → get_or here index no_comparisons ≡ get_or row index no_comparisons
  as_before index differ =
      get_or-set_other row place index (joined (get_or row place no_comparisons) more) no_comparisons differ

  -- a rival is among them
  record IsAdded (rival : Rival) : Type 0 where
    is : rival.difference ≡ suc place
    among : includes more rival.comparison ≡ true

  added_cases : (rival : Rival) → IsInRow here rival → IsInRow row rival ⊎ IsAdded rival
  added_cases rival at =
      let c = rival.comparison in
      let P : Comparisons → Type 0 = λ f. includes f c ≡ true in
      elim (cases_eq at.index place) [
        | inl same ↦
            let Q : ℕ → Type 0 = λ k. includes (get_or here k no_comparisons) c ≡ true in
            let both = subst P more_here (subst Q same at.among) in
            let either = sym (included_joined (get_or row place no_comparisons) more c) ∙ both in
            elim (or_cases (includes (get_or row place no_comparisons) c) (includes more c) either) [
              | inl old ↦ inl (record { index = place; is = at.is ∙ ap suc same; among = old })
              | inr new ↦ inr (record { is = at.is ∙ ap suc same; among = new })
            ]
        | inr differ ↦
            inl (record { index = at.index; is = at.is; among = subst P (as_before at.index differ) at.among })
      ]

  still_in : (rival : Rival) → IsInRow row rival → IsInRow here rival
  still_in rival at =
      let c = rival.comparison in
      let P : Comparisons → Type 0 = λ f. includes f c ≡ true in
      elim (cases_eq at.index place) [
        | inl same ↦
            let Q : ℕ → Type 0 = λ k. includes (get_or row k no_comparisons) c ≡ true in
            let old = subst Q same at.among in
            let both = included_joined (get_or row place no_comparisons) more c
            ∙ or_left (includes (get_or row place no_comparisons) c) (includes more c) old in
            record { index = place; is = at.is ∙ ap suc same; among = subst P (sym more_here) both }
        | inr differ ↦
            record { index = at.index; is = at.is; among = subst P (sym (as_before at.index differ)) at.among }
      ]

  now_in : (rival : Rival) → IsAdded rival → IsInRow here rival
  now_in rival added =
      let c = rival.comparison in
      let P : Comparisons → Type 0 = λ f. includes f c ≡ true in
      let both = included_joined (get_or row place no_comparisons) more c
      ∙ or_right (includes (get_or row place no_comparisons) c) (includes more c) added.among in
      record { index = place; is = added.is; among = subst P (sym more_here) both }

-- ---- the rivals of one difference led on

-- by some of the pairs
pub record IsLedFrom (n a : ℕ) (comparisons : Comparisons) (pairs : List (ℕ × ℕ)) (rival : Rival) : Type 0 where
  pub b : ℕ
  pub at : Contains pairs (b, rival.difference)
  pub among : includes (all_compared n comparisons a b) rival.comparison ≡ true

module _ (n a : ℕ) (comparisons : Comparisons) (count : ℕ) where
  led_length : (pairs : List (ℕ × ℕ)) (row : List Comparisons)
      → length (fold (led_by_pair n a comparisons) row pairs) ≡ length row
  led_length [] row = refl
  led_length (pair ∷ pairs) row =
      led_length pairs (led_by_pair n a comparisons row pair)
      ∙ length-set row (pair.1 - 1)
      (joined (get_or row (pair.1 - 1) no_comparisons) (all_compared n comparisons a pair.0))

  later_pair : (pair : ℕ × ℕ) (pairs : List (ℕ × ℕ)) (rival : Rival) → IsLedFrom n a comparisons pairs rival
      → IsLedFrom n a comparisons (pair ∷ pairs) rival
  later_pair pair pairs rival led =
      record { b = led.b; at = Contains-there pair pairs (led.b, rival.difference) led.at; among = led.among }

  led_cases : (pairs : List (ℕ × ℕ)) (row : List Comparisons) (rival : Rival) → length row ≡ count
      → All (λ pair. (0 < pair.1) × (pair.1 ≤ count)) pairs
      → IsInRow (fold (led_by_pair n a comparisons) row pairs) rival
      → IsInRow row rival ⊎ IsLedFrom n a comparisons pairs rival
  led_cases [] row rival long within at = inl at
  led_cases (pair ∷ pairs) row rival long within at =
      let first = All-head (λ (pair : ℕ × ℕ). (0 < pair.1) × (pair.1 ≤ count)) pair pairs within in
      let positive = first.0 in
      let most = first.1 in
      let more = all_compared n comparisons a pair.0 in
      let next = led_by_pair n a comparisons row pair in
      let nextlong : length next ≡ count =
      length-set row (pair.1 - 1) (joined (get_or row (pair.1 - 1) no_comparisons) more) ∙ long in
      let rest = All-tail (λ (pair : ℕ × ℕ). (0 < pair.1) × (pair.1 ≤ count)) pair pairs within in
      elim (led_cases pairs next rival nextlong rest at) [
        | inr later ↦ inr (later_pair pair pairs rival later)
        | inl earlier ↦ elim (added_cases row (pair.1 - 1) more (omega arith) rival earlier) [
          | inl old ↦ inl old
          | inr new ↦
              let target : pair.1 ≡ rival.difference = (let is = new.is in omega arith) in
              let P : ℕ → Type 0 = λ z. Contains (pair ∷ pairs) (pair.0, z) in
              inr (record { b = pair.0; at = subst P target (Contains-here pair pairs); among = new.among })
        ]
      ]

  led_still : (pairs : List (ℕ × ℕ)) (row : List Comparisons) (rival : Rival) → length row ≡ count
      → All (λ pair. (0 < pair.1) × (pair.1 ≤ count)) pairs → IsInRow row rival
      → IsInRow (fold (led_by_pair n a comparisons) row pairs) rival
  led_still [] row rival long within at = at
  led_still (pair ∷ pairs) row rival long within at =
      let first = All-head (λ (pair : ℕ × ℕ). (0 < pair.1) × (pair.1 ≤ count)) pair pairs within in
      let positive = first.0 in
      let most = first.1 in
      let more = all_compared n comparisons a pair.0 in
      let next = led_by_pair n a comparisons row pair in
      let nextlong : length next ≡ count =
      length-set row (pair.1 - 1) (joined (get_or row (pair.1 - 1) no_comparisons) more) ∙ long in
      let rest = All-tail (λ (pair : ℕ × ℕ). (0 < pair.1) × (pair.1 ≤ count)) pair pairs within in
      led_still pairs next rival nextlong rest (still_in row (pair.1 - 1) more (omega arith) rival at)

  led_now : (pairs : List (ℕ × ℕ)) (row : List Comparisons) (rival : Rival) → length row ≡ count
      → All (λ pair. (0 < pair.1) × (pair.1 ≤ count)) pairs → IsLedFrom n a comparisons pairs rival
      → IsInRow (fold (led_by_pair n a comparisons) row pairs) rival
  led_now [] row rival long within led = absurd (Contains-none (led.b, rival.difference) led.at)
  led_now (pair ∷ pairs) row rival long within led =
      let first = All-head (λ (pair : ℕ × ℕ). (0 < pair.1) × (pair.1 ≤ count)) pair pairs within in
      let positive = first.0 in
      let most = first.1 in
      let more = all_compared n comparisons a pair.0 in
      let next = led_by_pair n a comparisons row pair in
      let nextlong : length next ≡ count =
      length-set row (pair.1 - 1) (joined (get_or row (pair.1 - 1) no_comparisons) more) ∙ long in
      let rest = All-tail (λ (pair : ℕ × ℕ). (0 < pair.1) × (pair.1 ≤ count)) pair pairs within in
      elim (Contains-cons_cases pair pairs (led.b, rival.difference) led.at) [
        | inl same ↦
            let letter : pair.0 ≡ led.b = ap (λ (m : ℕ × ℕ). m.0) same in
            let target : pair.1 ≡ rival.difference = ap (λ (m : ℕ × ℕ). m.1) same in
            let P : ℕ → Type 0 = λ z. includes (all_compared n comparisons a z) rival.comparison ≡ true in
            led_still pairs next rival nextlong rest (now_in row (pair.1 - 1) more (omega arith) rival (record {
              is = omega arith;
              among = subst P (sym letter) led.among;
            }))
        | inr later ↦ led_now pairs next rival nextlong rest (record { b = led.b; at = later; among = led.among })
      ]

-- ---- all rivals of a set led on

-- by some of its members
pub record IsLedFromSet (n a : ℕ) (steps : Steps) (members : List Rivals) (rival : Rival) : Type 0 where
  pub member : Rivals
  pub at : Contains members member
  pub led : IsLedFrom n a member.comparisons (pairs_from steps member.difference) rival

pub pairs_within : (count : ℕ) (steps : Steps) (difference : ℕ) → AreWithin count steps
    → All (λ pair. (0 < pair.1) × (pair.1 ≤ count)) (pairs_from steps difference)
pairs_within count steps zero within = All-nil (λ (pair : ℕ × ℕ). (0 < pair.1) × (pair.1 ≤ count))
pairs_within count steps (suc index) within =
    elim (cases_lt index (length steps)) [
      | inl among ↦ within index [] among
      | inr past ↦
          let P : List (ℕ × ℕ) → Type 0 = All (λ pair. (0 < pair.1) × (pair.1 ≤ count)) in
          subst P (sym (get_or_past steps index [] past)) (All-nil (λ (pair : ℕ × ℕ). (0 < pair.1) × (pair.1 ≤ count)))
    ]

module _ (n a count : ℕ) (steps : Steps) (within : AreWithin count steps) where
  next_length : (member : Rivals) (row : List Comparisons) → length (led_on n a steps row member) ≡ length row
  next_length member row = led_length n a member.comparisons count (pairs_from steps member.difference) row

  pub all_length : (members : List Rivals) (row : List Comparisons)
      → length (fold (led_on n a steps) row members) ≡ length row
  all_length [] row = refl
  all_length (member ∷ members) row = all_length members (led_on n a steps row member) ∙ next_length member row

  pub all_cases : (members : List Rivals) (row : List Comparisons) (rival : Rival) → length row ≡ count
      → IsInRow (fold (led_on n a steps) row members) rival
      → IsInRow row rival ⊎ IsLedFromSet n a steps members rival
  all_cases [] row rival long at = inl at
  all_cases (member ∷ members) row rival long at =
      let next = led_on n a steps row member in
      elim (all_cases members next rival (next_length member row ∙ long) at) [
        | inr later ↦
            inr (record { member = later.member; at = Contains-there member members later.member later.at; led = later.led })
        | inl earlier ↦
            elim (led_cases n a member.comparisons count (pairs_from steps member.difference) row rival long
            (pairs_within count steps member.difference within) earlier) [
              | inl old ↦ inl old
              | inr new ↦ inr (record { member = member; at = Contains-here member members; led = new })
            ]
      ]

  pub all_still : (members : List Rivals) (row : List Comparisons) (rival : Rival) → length row ≡ count
      → IsInRow row rival → IsInRow (fold (led_on n a steps) row members) rival
  all_still [] row rival long at = at
  all_still (member ∷ members) row rival long at =
      all_still members (led_on n a steps row member) rival (next_length member row ∙ long)
      (led_still n a member.comparisons count (pairs_from steps member.difference) row rival long
      (pairs_within count steps member.difference within) at)

  pub all_now : (members : List Rivals) (row : List Comparisons) (rival : Rival) → length row ≡ count
      → IsLedFromSet n a steps members rival → IsInRow (fold (led_on n a steps) row members) rival
  all_now [] row rival long led = absurd (Contains-none led.member led.at)
  all_now (member ∷ members) row rival long led =
      let next = led_on n a steps row member in
      elim (Contains-cons_cases member members led.member led.at) [
        | inl same ↦
            let P : Rivals → Type 0 = λ m. IsLedFrom n a m.comparisons (pairs_from steps m.difference) rival in
            all_still members next rival (next_length member row ∙ long)
            (led_now n a member.comparisons count (pairs_from steps member.difference) row rival long
            (pairs_within count steps member.difference within) (subst P (sym same) led.led))
        | inr later ↦
            all_now members next rival (next_length member row ∙ long)
            (record { member = led.member; at = later; led = led.led })
      ]

-- ---- the set that is made of a row

-- a rival is in a set
pub record IsInSet (members : List Rivals) (rival : Rival) : Type 0 where
  pub member : Rivals
  pub at : Contains members member
  pub same : member.difference ≡ rival.difference
  pub among : includes member.comparisons rival.comparison ≡ true

-- it is in the row, which begins with a number
record IsInRowFrom (number : ℕ) (row : List Comparisons) (rival : Rival) : Type 0 where
  index : ℕ
  is : rival.difference ≡ number + index
  among : includes (get_or row index no_comparisons) rival.comparison ≡ true

kept : (number : ℕ) (f : Comparisons) (row : List Comparisons) → is_none f ≡ false
    → members_from number (f ∷ row)
    ≡ (let member : Rivals = record { difference = number; comparisons = f } in member) ∷ members_from (suc number) row
kept number f row some = rw some refl

dropped : (number : ℕ) (f : Comparisons) (row : List Comparisons) → is_none f ≡ true
    → members_from number (f ∷ row) ≡ members_from (suc number) row
dropped number f row none = rw none refl

later_in_row : (number : ℕ) (f : Comparisons) (row : List Comparisons) (rival : Rival)
    → IsInRowFrom (suc number) row rival → IsInRowFrom number (f ∷ row) rival
later_in_row number f row rival at =
    let is = at.is in record { index = suc at.index; is = omega arith; among = at.among }

in_row_of_set : (number : ℕ) (row : List Comparisons) (rival : Rival) → IsInSet (members_from number row) rival
    → IsInRowFrom number row rival
in_row_of_set number [] rival at = absurd (Contains-none at.member at.at)
in_row_of_set number (f ∷ row) rival at =
    let S : List Rivals → Type 0 = λ members. IsInSet members rival in
    elim (cases_Bool (is_none f)) [
      | inl none ↦
          later_in_row number f row rival (in_row_of_set (suc number) row rival (subst S (dropped number f row none) at))
      | inr some ↦
          let first : Rivals = record { difference = number; comparisons = f } in
          let into = subst S (kept number f row some) at in
          elim (Contains-cons_cases first (members_from (suc number) row) into.member into.at) [
            | inl same ↦
                let P : Rivals → Type 0 = λ m. m.difference ≡ rival.difference in
                let Q : Rivals → Type 0 = λ m. includes m.comparisons rival.comparison ≡ true in
                let is = subst P (sym same) into.same in
                record { index = 0; is = omega arith; among = subst Q (sym same) into.among }
            | inr later ↦
                later_in_row number f row rival (in_row_of_set (suc number) row rival (record {
                  member = into.member;
                  at = later;
                  same = into.same;
                  among = into.among;
                }))
          ]
    ]

later_in_set : (number : ℕ) (f : Comparisons) (row : List Comparisons) (rival : Rival)
    → IsInSet (members_from (suc number) row) rival → IsInSet (members_from number (f ∷ row)) rival
later_in_set number f row rival at =
    let S : List Rivals → Type 0 = λ members. IsInSet members rival in
    elim (cases_Bool (is_none f)) [
      | inl none ↦ subst S (sym (dropped number f row none)) at
      | inr some ↦
          let first : Rivals = record { difference = number; comparisons = f } in
          subst S (sym (kept number f row some)) (record {
            member = at.member;
            at = Contains-there first (members_from (suc number) row) at.member at.at;
            same = at.same;
            among = at.among;
          })
    ]

first_in_set : (number : ℕ) (f : Comparisons) (row : List Comparisons) (rival : Rival) → rival.difference ≡ number
    → includes f rival.comparison ≡ true → IsInSet (members_from number (f ∷ row)) rival
first_in_set number f row rival is among =
    let S : List Rivals → Type 0 = λ members. IsInSet members rival in
    let first : Rivals = record { difference = number; comparisons = f } in
    let some = not_is_none f (some_from f rival.comparison among) in
    subst S (sym (kept number f row some)) (record {
      member = first;
      at = Contains-here first (members_from (suc number) row);
      same = sym is;
      among = among;
    })
  where
    not_is_none : (f : Comparisons) → not (is_none f) ≡ true → is_none f ≡ false
    not_is_none f some = elim (cases_Bool (is_none f)) [
      | inl none ↦ absurd (false≢true (sym (ap not none) ∙ some))
      | inr there ↦ there
    ]

in_set_at : (number index : ℕ) (row : List Comparisons) (rival : Rival) → rival.difference ≡ number + index
    → includes (get_or row index no_comparisons) rival.comparison ≡ true → IsInSet (members_from number row) rival
in_set_at number index [] rival is among = absurd (none_included rival.comparison among)
in_set_at number zero (f ∷ row) rival is among = first_in_set number f row rival (omega arith) among
in_set_at number (suc index) (f ∷ row) rival is among =
    later_in_set number f row rival (in_set_at (suc number) index row rival (omega arith) among)

pub in_row : (row : List Comparisons) (rival : Rival) → IsInSet (members_from 1 row) rival → IsInRow row rival
in_row row rival at =
    let from = in_row_of_set 1 row rival at in
    let is = from.is in record { index = from.index; is = omega arith; among = from.among }

pub in_set : (row : List Comparisons) (rival : Rival) → IsInRow row rival → IsInSet (members_from 1 row) rival
in_set row rival at = let is = at.is in in_set_at 1 at.index row rival (omega arith) at.among

-- ---- rows are told apart by the rivals in them

pub same_rows : (row other : List Comparisons) → length row ≡ length other
    → ((rival : Rival) → IsInRow row rival ↔ IsInRow other rival) → row ≡ other
same_rows row other long alike =
    ext_get_or no_comparisons row other long (λ index within.
    same_comparisons_of (get_or row index no_comparisons) (get_or other index no_comparisons)
    (λ c among. over row other index c (λ rival. (alike rival).0) among)
    (λ c among. over other row index c (λ rival. (alike rival).1) among))
  where
    over : (row other : List Comparisons) (index : ℕ) (c : Comparison)
        → ((rival : Rival) → IsInRow row rival → IsInRow other rival)
        → includes (get_or row index no_comparisons) c ≡ true → includes (get_or other index no_comparisons) c ≡ true
    over row other index c leads among =
        let at = leads (record { difference = suc index; comparison = c }) (record { index = index; is = refl; among = among }) in
        let is = at.is in
        let same : at.index ≡ index = omega arith in
        let P : ℕ → Type 0 = λ k. includes (get_or other k no_comparisons) c ≡ true in
        subst P same at.among
