-- The merging of two rows.
use Rattle.std.proofs.Common.{◌≡◌, ◌≢◌, ℕ, zero, suc, ◌+◌, ◌<◌, ◌≤◌, min, List, [], ◌∷◌, ◌++◌, length, get_or, slice_get, Some, None, refl, sym, ap, ◌∙◌, subst, inl, inr, append_assoc, arith}
use Rattle.std.specs.List.{All, Contains}
use Rattle.std.proofs.lemmas.Bool.{cases_eq, cases_lt}
use Rattle.std.proofs.lemmas.List.{append-nil}
use Rattle.std.proofs.lemmas.List.Elements.{All-nil, All-cons, All-contains}
use Rattle.std.proofs.lemmas.Option.{none-some, same_Some}
use Rattle.kb_fsa.specs.Table.{Moves, Ascends, IsRow, IsSplit, lookup, target}
use Rattle.kb_fsa.specs.Table.IsSplit.{without, with_move}
use Rattle.kb_fsa.proofs.RowSplits.{IsRest, rest_of_split}
use Rattle.kb_fsa.proofs.Lookups.{lookup_here, lookup_there, lookup_below, lookup_at, target_none, Ascends-head}
use Rattle.kb_fsabool.specs.declared.connective.Connective.{Connective}
use Rattle.kb_fsabool.specs.declared.connective.Connective.TheVariants.{And, Or, Xor}
use Rattle.kb_fsabool.specs.declared.connective.StatePair.{StatePair}
use Rattle.kb_fsabool.specs.Products.{paired, AreMerged, IsMerging, IsLeastSymbol}

-- ---- the least symbol

HasSymbol : Moves → ℕ → Type 0
HasSymbol row symbol = (state : ℕ) × Contains row (symbol, state)

-- the first move has the least symbol
pub first_is_low : (row : Moves) (move : ℕ × ℕ) (symbol : ℕ) → IsRow row → slice_get row 0 ≡ Some move → symbol ≤ move.0
    → All (λ m. symbol ≤ m.0) row
first_is_low [] move symbol is at low = absurd (none-some move at)
first_is_low (entry ∷ rest) move symbol is at low =
    let P = λ (m : ℕ × ℕ). symbol ≤ m.0 in
    let head : symbol ≤ entry.0 = omega (arith, ap (λ m. m.0) (same_Some entry move at)) in
    let above = Ascends-head entry rest is.ascends in
    All-cons P entry rest head (λ k d h. omega (arith, above k d h))

first_has : (row : Moves) (move : ℕ × ℕ) → slice_get row 0 ≡ Some move → HasSymbol row move.0
unfolding HasSymbol
first_has [] move at = absurd (none-some move at)
first_has (entry ∷ rest) move at = (move.1, (0, omega arith, same_Some entry move at))

nil_is_low : (symbol : ℕ) (row : Moves) → slice_get row 0 ≡ None → All (λ m. symbol ≤ m.0) row
nil_is_low symbol [] none = All-nil (λ m. symbol ≤ m.0)
nil_is_low symbol (entry ∷ rest) none = absurd (none-some entry (sym none))

pub least_of_two : (first second : Moves) (one two : ℕ × ℕ) → IsRow first → IsRow second → slice_get first 0 ≡ Some one
    → slice_get second 0 ≡ Some two → IsLeastSymbol first second (min one.0 two.0)
unfolding HasSymbol
least_of_two first second one two is_first is_second at_first at_second = record {
  in_row = elim (cases_lt one.0 two.0) [
    | inl less ↦ let P = λ (x : ℕ). HasSymbol first x in
        inl (subst P (let e : one.0 ≡ min one.0 two.0 = omega arith in e) (first_has first one at_first))
    | inr more ↦ let P = λ (x : ℕ). HasSymbol second x in
        inr (subst P (let e : two.0 ≡ min one.0 two.0 = omega arith in e) (first_has second two at_second))
  ];
  low_first = first_is_low first one (min one.0 two.0) is_first at_first (omega arith);
  low_second = first_is_low second two (min one.0 two.0) is_second at_second (omega arith);
}

pub least_of_first : (first second : Moves) (one : ℕ × ℕ) → IsRow first → slice_get first 0 ≡ Some one → slice_get second 0 ≡ None
    → IsLeastSymbol first second one.0
unfolding HasSymbol
least_of_first first second one is at none = record {
  in_row = inl (first_has first one at);
  low_first = first_is_low first one one.0 is at (omega arith);
  low_second = nil_is_low one.0 second none;
}

pub least_of_second : (first second : Moves) (two : ℕ × ℕ) → IsRow second → slice_get first 0 ≡ None → slice_get second 0 ≡ Some two
    → IsLeastSymbol first second two.0
unfolding HasSymbol
least_of_second first second two is none at = record {
  in_row = inr (first_has second two at);
  low_first = nil_is_low two.0 first none;
  low_second = first_is_low second two two.0 is at (omega arith);
}

-- ---- a row in parts

-- the rest is no longer, and shorter where the row has the symbol
pub split_no_longer : {row : Moves} {symbol state : ℕ} {rest : Moves} → IsSplit row symbol state rest → length rest ≤ length row
split_no_longer (without above) = omega arith
split_no_longer (with_move e) = omega (arith, ap length e)

split_shorter : {row : Moves} {symbol state : ℕ} {rest : Moves} → IsSplit row symbol state rest → HasSymbol row symbol
    → length rest < length row
unfolding HasSymbol
split_shorter {row} {symbol} (without above) has =
    absurd (let no = All-contains (λ (m : ℕ × ℕ). symbol < m.0) row (symbol, has.0) above has.1 in omega arith)
split_shorter (with_move e) has = omega (arith, ap length e)

pub splits_shorter : {first second : Moves} {symbol p q : ℕ} {after_first after_second : Moves} → IsLeastSymbol first second symbol
    → IsSplit first symbol p after_first → IsSplit second symbol q after_second
    → length after_first + length after_second < length first + length second
unfolding HasSymbol
splits_shorter least one two =
    elim least.in_row [
      | inl has ↦ omega (arith, split_shorter one has, split_no_longer two)
      | inr has ↦ omega (arith, split_shorter two has, split_no_longer one)
    ]

-- ---- the merged moves

pub paired_none : (connective : Connective) → paired connective 0 0 ≡ None
paired_none And = refl
paired_none Or = refl
paired_none Xor = refl

pub merged_nil : (connective : Connective) → AreMerged connective [] [] []
merged_nil connective = record {
  ascends = λ i j d less within. absurd (omega arith);
  lookup = λ symbol. sym (paired_none connective);
}

Ascends-cons : {X : Type 0} (entry : ℕ × X) (rest : List (ℕ × X)) → Ascends rest → All (λ later. entry.0 < later.0) rest → Ascends (entry ∷ rest)
Ascends-cons entry rest ascends above zero zero d less within = absurd (let no : ⊥ = omega arith in no)
Ascends-cons entry rest ascends above zero (suc j) d less within = above j d (omega arith)
Ascends-cons entry rest ascends above (suc i) zero d less within = absurd (let no : ⊥ = omega arith in no)
Ascends-cons entry rest ascends above (suc i) (suc j) d less within = ascends i j d (omega arith) (omega arith)

-- symbols that neither row has are none of the merged ones
merged_above : {connective : Connective} {first second : Moves} {moves : List (ℕ × StatePair)} (symbol : ℕ)
    → AreMerged connective first second moves → All (λ m. symbol < m.0) first → All (λ m. symbol < m.0) second
    → All (λ move. symbol < move.0) moves
merged_above {connective} {first} {second} {moves} symbol merged low high = λ k d within.
    let move = get_or moves k d in
    elim (cases_lt symbol move.0) [
      | inl less ↦ less
      | inr no_more ↦
          let below = λ (row : Moves) (above : All (λ m. symbol < m.0) row).
          target_none row move.0 (lookup_below row move.0 (λ i e h. omega (arith, above i e h))) in
          absurd (none-some move.1
          (sym (ap (λ p. paired connective p (target second move.0)) (below first low) ∙ ap (paired connective 0) (below second high) ∙ paired_none connective)
          ∙ sym (merged.lookup move.0) ∙ lookup_at moves k d merged.ascends within))
    ]

module _ {connective : Connective} {first second : Moves} {symbol p q : ℕ} {after_first after_second : Moves}
    (one : IsRest first symbol p after_first) (two : IsRest second symbol q after_second)
    (rest : List (ℕ × StatePair)) (merged : AreMerged connective after_first after_second rest) where
  others : (other : ℕ) → symbol ≢ other → lookup rest other ≡ paired connective (target first other) (target second other)
  others other differ =
      merged.lookup other
      ∙ ap (λ x. paired connective x (target after_second other)) (sym (one.others other differ))
      ∙ ap (paired connective (target first other)) (sym (two.others other differ))

  here : paired connective (target first symbol) (target second symbol) ≡ paired connective p q
  here = ap (λ x. paired connective x (target second symbol)) one.here ∙ ap (paired connective p) two.here

  above : All (λ move. symbol < move.0) rest
  above = merged_above symbol merged one.above two.above

  -- with a move by the symbol, where the two are a state
  pub merged_with : (state : StatePair) → paired connective p q ≡ Some state → AreMerged connective first second ((symbol, state) ∷ rest)
  merged_with state is = record {
    ascends = Ascends-cons (symbol, state) rest merged.ascends above;
    lookup = λ other. elim (cases_eq symbol other) [
      | inl same ↦
          lookup_here (symbol, state) rest other same ∙ sym is ∙ sym here
          ∙ ap (λ x. paired connective (target first x) (target second x)) same
      | inr differ ↦ lookup_there (symbol, state) rest other differ ∙ others other differ
    ];
  }

  -- and without one where they aren't
  pub merged_without : paired connective p q ≡ None → AreMerged connective first second rest
  merged_without none = record {
    ascends = merged.ascends;
    lookup = λ other. elim (cases_eq symbol other) [
      | inl same ↦
          lookup_below rest other (let P = λ (x : ℕ). All (λ (move : ℕ × StatePair). x < move.0) rest in subst P same above) ∙ sym none ∙ sym here
          ∙ ap (λ x. paired connective (target first x) (target second x)) same
      | inr differ ↦ others other differ
    ];
  }

-- ---- the loop

pub merging_starts : (connective : Connective) (first second : Moves) → IsRow first → IsRow second
    → IsMerging connective first second [] first second
merging_starts connective first second one two = record { first_row = one; second_row = two; whole = λ rest merged. merged }

module _ {connective : Connective} {first second : Moves} {moves : List (ℕ × StatePair)} {left_first left_second : Moves}
    (merging : IsMerging connective first second moves left_first left_second)
    {symbol p q : ℕ} {after_first after_second : Moves}
    (one : IsSplit left_first symbol p after_first) (two : IsSplit left_second symbol q after_second) where
  pub merging_with : (state : StatePair) → paired connective p q ≡ Some state
      → IsMerging connective first second (moves ++ (symbol, state) ∷ []) after_first after_second
  merging_with state is =
      let rest_one = rest_of_split merging.first_row one in
      let rest_two = rest_of_split merging.second_row two in
      record {
        first_row = rest_one.is_row;
        second_row = rest_two.is_row;
        whole = λ rest merged.
            subst (AreMerged connective first second) (sym (append_assoc moves ((symbol, state) ∷ []) rest))
            (merging.whole ((symbol, state) ∷ rest) (merged_with rest_one rest_two rest merged state is));
      }

  pub merging_without : paired connective p q ≡ None → IsMerging connective first second moves after_first after_second
  merging_without none =
      let rest_one = rest_of_split merging.first_row one in
      let rest_two = rest_of_split merging.second_row two in
      record {
        first_row = rest_one.is_row;
        second_row = rest_two.is_row;
        whole = λ rest merged. merging.whole rest (merged_without rest_one rest_two rest merged none);
      }

pub merging_ends : {connective : Connective} {first second : Moves} {moves : List (ℕ × StatePair)} {left_first left_second : Moves}
    → IsMerging connective first second moves left_first left_second → left_first ≡ [] → left_second ≡ []
    → AreMerged connective first second moves
merging_ends {connective} {first} {second} {moves} {left_second = left_second} merging one two =
    let left = subst (λ (row : Moves). AreMerged connective row left_second []) (sym one) (subst (λ (row : Moves). AreMerged connective [] row []) (sym two) (merged_nil connective)) in
    subst (AreMerged connective first second) (append-nil moves) (merging.whole [] left)
