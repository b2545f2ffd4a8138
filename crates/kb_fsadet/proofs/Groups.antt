-- Moves in groups, one for each symbol.
use Rattle.std.proofs.Common.{◌≡◌, ◌≢◌, ℕ, ◌+◌, ◌<◌, ◌≤◌, true, false, leb, List, [], ◌∷◌, ◌++◌, length, get_or, slice_get, map, take, drop, Option, Some, None, refl, sym, ap, ◌∙◌, subst, inl, inr, leb-true, arith, append-nil, take-append-drop}
use Rattle.std.specs.List.{All, Contains}
use Rattle.std.specs.List.Sorted.{IsNonDecreasingBy, IsPartitionPoint}
use Rattle.std.specs.Option.{option_or}
use Rattle.std.proofs.lemmas.Bool.{cases_eq, cases_lt, leb-false}
use Rattle.std.proofs.lemmas.List.{length-take-le, length-drop, length-map, get_or-take, get_or-drop}
use Rattle.std.proofs.lemmas.List.Elements.{All-contains_itself, All-push, All-drop}
use Rattle.std.proofs.lemmas.List.Sorted.{IsNonDecreasingBy-drop}
use Rattle.std.proofs.lemmas.Option.{get_or_from_slice_get, slice_get_within, none-some}
use Rattle.kb_fsa.specs.Table.{lookup, Moves}
use Rattle.kb_fsa.proofs.Lookups.{Ascends-push, lookup_above, lookup-push_same, lookup-push_other}
use Rattle.kb_fsadet.specs.SubsetConstruction.{set_of, some_set, targets_by, AreGroups, AreGroupedBefore}
use Rattle.kb_fsadet.proofs.Targets.{targets_by-append, targets_by_all, targets_by_nowhere, some_set_of_some}

option_or-none : (o : Option (List ℕ)) → option_or o None ≡ o
option_or-none None = refl
option_or-none (Some set) = refl

-- ---- the first group

-- the moves up to the place are by the symbol of the first, and those from there on by greater ones
pub record AreParted (rest : Moves) (symbol count : ℕ) : Type 0 where
  pub some : 0 < count
  pub within : count ≤ length rest
  pub group : All (λ move. move.0 ≡ symbol) (take count rest)
  pub others : All (λ move. symbol < move.0) (drop count rest)

pub parted : (first : ℕ × ℕ) (rest : Moves) (count : ℕ) → slice_get rest 0 ≡ Some first → IsNonDecreasingBy (λ move. move.0) rest
    → count ≤ length rest → IsPartitionPoint (λ move. leb move.0 first.0 ≡ true) (λ move. leb move.0 first.0 ≡ false) rest count
    → AreParted rest first.0 count
parted first rest count is in_order within point =
    let at_first = get_or_from_slice_get rest 0 first first is in
    let long = slice_get_within rest 0 first is in record {
      some = elim (cases_lt 0 count) [
        | inl positive ↦ positive
        | inr none ↦
            let greater = leb-false (get_or rest 0 first).0 first.0 (point.1 0 first (omega arith) long) in
            omega (arith, ap (λ move. move.0) at_first)
      ];
      within = within;
      group = λ k d h.
          let less : k < count = omega (arith, length-take-le count rest within) in
          let at = get_or-take count rest k d less in
          let low = leb-true (get_or rest k d).0 first.0 (point.0 k d (omega arith) less) in
          let high = in_order 0 k d (omega arith) (omega arith) in
          let at_zero = get_or_from_slice_get rest 0 first d is in
          omega (arith, ap (λ move. move.0) at, ap (λ move. move.0) at_zero);
      others = λ k d h.
          let below : count + k < length rest = omega (arith, length-drop count rest) in
          let at = get_or-drop count rest k d in
          let more = leb-false (get_or rest (count + k) d).0 first.0 (point.1 (count + k) d (omega arith) below) in
          omega (arith, ap (λ move. move.0) at);
    }

-- ---- the groups of a loop

pub grouped_none : (moves : Moves) → IsNonDecreasingBy (λ move. move.0) moves → AreGroupedBefore moves moves []
grouped_none moves in_order = record {
  ascends = λ i j d low high. absurd (let no : ⊥ = omega arith in no);
  symbols = λ k d h. absurd (let no : ⊥ = omega arith in no);
  in_order = in_order;
  among = All-contains_itself moves;
  below = λ k d h. absurd (let no : ⊥ = omega arith in no);
  each = λ symbol. refl;
}

module _ (moves rest : Moves) (groups : List (ℕ × List ℕ)) (before : AreGroupedBefore moves rest groups)
    (symbol count : ℕ) (parts : AreParted rest symbol count) where
  group : Moves
  group = take count rest

  others : Moves
  others = drop count rest

  -- the rest begin with a move by the symbol
  first : (d : ℕ × ℕ) → (0 < length rest) × ((get_or rest 0 d).0 ≡ symbol)
  first d =
      let some = parts.some in
      let within = parts.within in
      let here = parts.group 0 d (omega (arith, length-take-le count rest within)) in
      (omega arith, sym (ap (λ move. move.0) (get_or-take count rest 0 d some)) ∙ here)

  -- it has no group yet
  groups_below : All (λ earlier. earlier.0 < symbol) groups
  groups_below k d h =
      let start = first (0, 0) in
      let less = before.below k d h 0 (0, 0) start.0 in
      omega (arith, start.1)

  -- at the symbol, where all moves of the group lead
  at_symbol : targets_by rest symbol ≡ map (λ move. move.1) group
  unfolding group others
  at_symbol =
      let split = ap (λ all. targets_by all symbol) (sym (take-append-drop count rest)) ∙ targets_by-append group others symbol in
      let none = targets_by_nowhere others symbol (λ k d h same. omega (arith, parts.others k d h)) in
      split ∙ ap (λ front. front ++ targets_by others symbol) (targets_by_all group symbol parts.group)
      ∙ ap (λ back. map (λ (move : ℕ × ℕ). move.1) group ++ back) none ∙ append-nil (map (λ (move : ℕ × ℕ). move.1) group)

  -- at others, where the other moves lead
  at_others : (z : ℕ) → z ≢ symbol → targets_by rest z ≡ targets_by others z
  unfolding group others
  at_others z differ =
      let split = ap (λ all. targets_by all z) (sym (take-append-drop count rest)) ∙ targets_by-append group others z in
      let none = targets_by_nowhere group z (λ k d h same. differ (sym same ∙ parts.group k d h)) in
      split ∙ ap (λ front. front ++ targets_by others z) none

  group_some : 0 < length (map (λ (move : ℕ × ℕ). move.1) group)
  unfolding group
  group_some =
      let some = parts.some in
      omega (arith, length-map group (λ (move : ℕ × ℕ). move.1), length-take-le count rest parts.within)

  new_group : ℕ × List ℕ
  new_group = (symbol, set_of (map (λ (move : ℕ × ℕ). move.1) group))

  each_more : (z : ℕ) → option_or (lookup (groups ++ new_group ∷ []) z) (some_set (targets_by others z)) ≡ some_set (targets_by moves z)
  unfolding new_group
  each_more z =
      let set = set_of (map (λ (move : ℕ × ℕ). move.1) group) in
      let unknown = lookup_above groups symbol groups_below in
      elim (cases_eq z symbol) [
        | inl same ↦
            let whole : some_set (targets_by rest symbol) ≡ some_set (targets_by moves symbol) =
            sym (ap (λ o. option_or o (some_set (targets_by rest symbol))) unknown) ∙ before.each symbol in
            let found : lookup (groups ++ new_group ∷ []) z ≡ Some set =
            ap (lookup (groups ++ (symbol, set) ∷ [])) same ∙ lookup-push_same groups symbol set unknown in
            ap (λ o. option_or o (some_set (targets_by others z))) found
            ∙ sym (some_set_of_some (map (λ (move : ℕ × ℕ). move.1) group) group_some)
            ∙ ap some_set (sym at_symbol) ∙ whole ∙ ap (λ y. some_set (targets_by moves y)) (sym same)
        | inr differ ↦
            ap (λ o. option_or o (some_set (targets_by others z))) (lookup-push_other groups symbol set z differ)
            ∙ ap (λ back. option_or (lookup groups z) (some_set back)) (sym (at_others z differ)) ∙ before.each z
      ]

  pub grouped_more : AreGroupedBefore moves (drop count rest) (groups ++ (symbol, set_of (map (λ (move : ℕ × ℕ). move.1) (take count rest))) ∷ [])
  unfolding group others new_group
  grouped_more =
      let set = set_of (map (λ (move : ℕ × ℕ). move.1) group) in
      let start = first (0, 0) in record {
        ascends = Ascends-push groups symbol set before.ascends groups_below;
        symbols = All-push (λ (g : ℕ × List ℕ). (target : ℕ) × Contains moves (g.0, target)) groups (symbol, set) before.symbols (
          (get_or rest 0 (0, 0)).1,
          let P : ℕ → Type 0 = λ x. Contains moves (x, (get_or rest 0 (0, 0)).1) in
              subst P start.1 (before.among 0 (0, 0) start.0),
        );
        in_order = IsNonDecreasingBy-drop (λ (move : ℕ × ℕ). move.0) count rest before.in_order;
        among = All-drop (Contains moves) count rest before.among;
        below = All-push (λ (g : ℕ × List ℕ). All (λ (move : ℕ × ℕ). g.0 < move.0) others) groups (symbol, set)
            (λ k d h. All-drop (λ (move : ℕ × ℕ). (get_or groups k d).0 < move.0) count rest (before.below k d h)) parts.others;
        each = each_more;
      }

-- where nothing is left, all moves are grouped
pub grouped_all : (moves rest : Moves) (groups : List (ℕ × List ℕ)) → AreGroupedBefore moves rest groups → slice_get rest 0 ≡ None
    → AreGroups moves groups
grouped_all moves [] groups before none = record {
  ascends = before.ascends;
  symbols = before.symbols;
  each = λ symbol. sym (option_or-none (lookup groups symbol)) ∙ before.each symbol;
}
grouped_all moves (move ∷ rest) groups before none = absurd (none-some move (sym none))
