-- Groups of moves with which word has ended.
use Rattle.std.proofs.Common.{◌≡◌, ◌⊎◌, ℕ, ◌<◌, ◌≤◌, List, [], ◌∷◌, ◌++◌, get_or, map, take, drop, Option, Some, None, refl, sym, ap, ◌∙◌, subst, inl, inr, arith, append-nil}
use Rattle.std.specs.List.{All, cons_option, filter_map}
use Rattle.std.proofs.lemmas.Bool.{cases_eq}
use Rattle.std.proofs.lemmas.List.Elements.{All-nil, All-cons, All-head, All-tail, filter_map-append}
use Rattle.std.proofs.lemmas.List.Kept.{AllPairs-cons}
use Rattle.std.proofs.lemmas.Option.{none-some}
use Rattle.kb_fsa.specs.declared.alphabet.Alphabet.{Alphabet}
use Rattle.kb_fsa.specs.declared.ended.Ended.{Ended}
use Rattle.kb_fsa.specs.EndedWords.{ended_after}
use Rattle.kb_fsa.specs.Table.{Moves, Ascends, lookup}
use Rattle.kb_fsa.specs.Language.{Automaton, generators, symbols}
use Rattle.kb_fsa.proofs.Lookups.{lookup_here, lookup_there, lookup_at, Ascends-tail, Ascends-head}
use Rattle.kb_fsa.proofs.PaddedRuns.{symbol_of_after}
use Rattle.kb_explore.specs.Machine.{AreMovesOf}
use Rattle.kb_fsadet.specs.SubsetConstruction.{set_of, AreGroupedBefore}
use Rattle.std.specs.List.Sorted.{IsPermutation}
use Rattle.kb_fsadet.proofs.Targets.{groups_from_sorted}
use Rattle.kb_fsadet.proofs.Groups.{AreParted, grouped_more}
use Rattle.kb_compose.specs.declared.place.Place.{Place}
use Rattle.kb_compose.specs.StatePairs.{place_of, with_symbol, placed, moves_of_pairs, state_pairs, AreGroupMoves, AreGroupMovesBefore}

-- ---- one group

some_placed : (alphabet : Alphabet) (ended : Ended) (group : ℕ × List ℕ) (next : Ended) → ended_after alphabet ended group.0 ≡ Some next
    → placed alphabet ended group ≡ Some (group.0, record { ended = next; pairs = group.1 })
some_placed alphabet ended group next is = ap (λ o. with_symbol group.0 (place_of o (Some group.1))) is

none_placed : (alphabet : Alphabet) (ended : Ended) (group : ℕ × List ℕ) → ended_after alphabet ended group.0 ≡ None
    → placed alphabet ended group ≡ None
none_placed alphabet ended group is = ap (λ o. with_symbol group.0 (place_of o (Some group.1))) is

option_cases : (o : Option Ended) → (o ≡ None) ⊎ ((ended : Ended) × (o ≡ Some ended))
option_cases None = inl refl
option_cases (Some ended) = inr (ended, refl)

place_of_none : (o : Option Ended) → place_of o None ≡ None
place_of_none None = refl
place_of_none (Some ended) = refl

-- ---- one group after another

pub groups_begun : (alphabet : Alphabet) (ended : Ended) (moves : Moves) → AreGroupedBefore moves moves []
    → AreGroupMovesBefore alphabet ended moves moves []
groups_begun alphabet ended moves none = record { groups = []; grouped = none; are_placed = refl }

module _ (alphabet : Alphabet) (ended : Ended) (moves rest : Moves) (places : List (ℕ × Place))
    (before : AreGroupMovesBefore alphabet ended moves rest places) (symbol count : ℕ) (parts : AreParted rest symbol count) where
  abbrev group : ℕ × List ℕ
  group = (symbol, set_of (map (λ (move : ℕ × ℕ). move.1) (take count rest)))

  one_more : (o : Option (ℕ × Place)) → placed alphabet ended group ≡ o
      → filter_map (placed alphabet ended) (before.groups ++ group ∷ []) ≡ places ++ cons_option o []
  one_more o is =
      filter_map-append (placed alphabet ended) before.groups (group ∷ [])
      ∙ ap (λ front. front ++ cons_option (placed alphabet ended group) []) (sym before.are_placed)
      ∙ ap (λ p. places ++ cons_option p []) is

  pub group_placed : (next : Ended) → ended_after alphabet ended symbol ≡ Some next
      → AreGroupMovesBefore alphabet ended moves (drop count rest)
      (places ++ (symbol, record { ended = next; pairs = set_of (map (λ (move : ℕ × ℕ). move.1) (take count rest)) }) ∷ [])
  group_placed next is = record {
    groups = before.groups ++ group ∷ [];
    grouped = grouped_more moves rest before.groups before.grouped symbol count parts;
    are_placed = sym (one_more (Some (symbol, record { ended = next; pairs = group.1 })) (some_placed alphabet ended group next is));
  }

  pub group_left : ended_after alphabet ended symbol ≡ None → AreGroupMovesBefore alphabet ended moves (drop count rest) places
  group_left is = record {
    groups = before.groups ++ group ∷ [];
    grouped = grouped_more moves rest before.groups before.grouped symbol count parts;
    are_placed = sym (one_more None (none_placed alphabet ended group is) ∙ append-nil places);
  }

-- ---- the moves of the machine

module _ (alphabet : Alphabet) (ended : Ended) where
  place_at : (groups : List (ℕ × List ℕ)) (symbol : ℕ)
      → lookup (filter_map (placed alphabet ended) groups) symbol ≡ place_of (ended_after alphabet ended symbol) (lookup groups symbol)
  place_at [] symbol = sym (place_of_none (ended_after alphabet ended symbol))
  place_at (first ∷ groups) symbol =
      let rest = place_at groups symbol in
      elim (option_cases (ended_after alphabet ended first.0)) [
        | inl none ↦
            ap (λ o. lookup (cons_option o (filter_map (placed alphabet ended) groups)) symbol) (none_placed alphabet ended first none)
            ∙ rest ∙ elim (cases_eq first.0 symbol) [
              | inl same ↦
                  let nowhere : ended_after alphabet ended symbol ≡ None = ap (ended_after alphabet ended) (sym same) ∙ none in
                  ap (λ o. place_of o (lookup groups symbol)) nowhere ∙ sym (ap (λ o. place_of o (lookup (first ∷ groups) symbol)) nowhere)
              | inr differ ↦ ap (place_of (ended_after alphabet ended symbol)) (sym (lookup_there first groups symbol differ))
            ]
        | inr some ↦
            let place : Place = record { ended = some.0; pairs = first.1 } in
            let others = filter_map (placed alphabet ended) groups in
            ap (λ o. lookup (cons_option o others) symbol) (some_placed alphabet ended first some.0 some.1)
            ∙ elim (cases_eq first.0 symbol) [
              | inl same ↦
                  let there : ended_after alphabet ended symbol ≡ Some some.0 = ap (ended_after alphabet ended) (sym same) ∙ some.1 in
                  lookup_here (first.0, place) others symbol same
                  ∙ sym (ap (λ o. place_of o (Some first.1)) there)
                  ∙ ap (place_of (ended_after alphabet ended symbol)) (sym (lookup_here first groups symbol same))
              | inr differ ↦
                  lookup_there (first.0, place) others symbol differ ∙ rest
                  ∙ ap (place_of (ended_after alphabet ended symbol)) (sym (lookup_there first groups symbol differ))
            ]
      ]

  places_above : (low : ℕ) (groups : List (ℕ × List ℕ)) → All (λ group. low < group.0) groups
      → All (λ place. low < place.0) (filter_map (placed alphabet ended) groups)
  places_above low [] above = All-nil (λ (place : ℕ × Place). low < place.0)
  places_above low (first ∷ groups) above =
      let G = λ (group : ℕ × List ℕ). low < group.0 in
      let P = λ (place : ℕ × Place). low < place.0 in
      let rest = places_above low groups (All-tail G first groups above) in
      let Q : Option (ℕ × Place) → Type 0 = λ o. All P (cons_option o (filter_map (placed alphabet ended) groups)) in
      elim (option_cases (ended_after alphabet ended first.0)) [
        | inl none ↦ subst Q (sym (none_placed alphabet ended first none)) rest
        | inr some ↦
            subst Q (sym (some_placed alphabet ended first some.0 some.1))
            (All-cons P (first.0, record { ended = some.0; pairs = first.1 }) (filter_map (placed alphabet ended) groups)
            (All-head G first groups above) rest)
      ]

  places_ascend : (groups : List (ℕ × List ℕ)) → Ascends groups → Ascends (filter_map (placed alphabet ended) groups)
  places_ascend [] ascends = λ i j d low high. absurd (omega arith)
  places_ascend (first ∷ groups) ascends =
      let rest = places_ascend groups (Ascends-tail first groups ascends) in
      let Q : Option (ℕ × Place) → Type 0 = λ o. Ascends (cons_option o (filter_map (placed alphabet ended) groups)) in
      elim (option_cases (ended_after alphabet ended first.0)) [
        | inl none ↦ subst Q (sym (none_placed alphabet ended first none)) rest
        | inr some ↦
            subst Q (sym (some_placed alphabet ended first some.0 some.1))
            (AllPairs-cons (λ (one : ℕ × Place) (other : ℕ × Place). one.0 < other.0) (first.0, record { ended = some.0; pairs = first.1 })
            (filter_map (placed alphabet ended) groups) (places_above first.0 groups (Ascends-head first groups ascends)) rest)
      ]

pub moves_of_groups : (first second : Automaton) (ending : List ℕ) (place : Place) (places : List (ℕ × Place))
    → AreGroupMoves first.alphabet place.ended (moves_of_pairs (generators first.alphabet) first.table second.table place.pairs) places
    → AreMovesOf (state_pairs first second ending) (symbols first.alphabet) place places
moves_of_groups first second ending place places are =
    let alphabet = first.alphabet in
    let found = filter_map (placed alphabet place.ended) are.groups in
    let ascends = places_ascend alphabet place.ended are.groups are.grouped.ascends in
    let P : List (ℕ × Place) → Type 0 = λ l. AreMovesOf (state_pairs first second ending) (symbols first.alphabet) place l in
    subst P (sym are.are_placed) (record {
      ascends = ascends;
      symbols = λ k d h.
          let move = get_or found k d in
          let leads = sym (place_at alphabet place.ended are.groups move.0) ∙ lookup_at found k d ascends h in
          symbol_is move.0 move.1 (lookup are.groups move.0) leads;
      follow = λ symbol. place_at alphabet place.ended are.groups symbol
          ∙ ap (place_of (ended_after alphabet place.ended symbol)) (are.grouped.each symbol);
    })
  where
    symbol_is : (symbol : ℕ) (to : Place) (set : Option (List ℕ)) → place_of (ended_after first.alphabet place.ended symbol) set ≡ Some to
        → (0 < symbol) × (symbol ≤ symbols first.alphabet)
    symbol_is symbol to set is =
        elim (option_cases (ended_after first.alphabet place.ended symbol)) [
          | inl none ↦ absurd (none-some to (sym (ap (λ o. place_of o set) none) ∙ is))
          | inr some ↦ symbol_of_after first.alphabet place.ended symbol some.0 some.1
        ]

-- the groups of the sorted moves are those of the moves
pub groups_of_sorted : (alphabet : Alphabet) (ended : Ended) (moves sorted : Moves) (places : List (ℕ × Place)) → IsPermutation moves sorted
    → AreGroupMoves alphabet ended sorted places → AreGroupMoves alphabet ended moves places
groups_of_sorted alphabet ended moves sorted places permuted are = record {
  groups = are.groups;
  grouped = groups_from_sorted moves sorted are.groups permuted are.grouped;
  are_placed = are.are_placed;
}
