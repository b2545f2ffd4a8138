-- The machine of a composite: sets of pairs of states, with which outer word has ended.
use Rattle.std.specs.Prelude.{◌≡◌, ℕ, ◌+◌, ◌*◌, ◌/◌, ◌%◌, ◌^◌, nat_eq, ◌<◌, ◌≤◌, ◌||◌, List, [], ◌∷◌, ◌++◌, All, Option, Some, None, if◌then◌else◌}
use Rattle.std.specs.List.{flat_map, filter_map, list_any}
use Rattle.kb_fsa.specs.declared.alphabet.Alphabet.{Alphabet}
use Rattle.kb_fsa.specs.declared.ended.Ended.{Ended}
use Rattle.kb_fsa.specs.declared.ended.Ended.TheVariants.{Neither}
use Rattle.kb_fsa.specs.Table.{Table, Moves, moves_of, is_accepting}
use Rattle.kb_fsa.specs.PairSymbols.{pair_symbol, first_letter, second_letter}
use Rattle.kb_fsa.specs.EndedWords.{ended_after}
use Rattle.kb_fsa.specs.Language.{Automaton, generators}
use Rattle.kb_explore.specs.Machine.{Machine}
use Rattle.kb_fsadet.specs.SubsetConstruction.{some_set, targets_by, is_member, AreGroups, AreGroupedBefore}
use Rattle.kb_compose.specs.declared.place.Place.{Place}

-- a pair of states as one number, and its two states
abbrev pub number_of : ℕ → ℕ → ℕ
number_of p q = p * 2 ^ 32 + q

abbrev pub first_state : ℕ → ℕ
first_state pair = pair / 2 ^ 32

abbrev pub second_state : ℕ → ℕ
second_state pair = pair % 2 ^ 32

-- by the pair of two paddings an accepting state stays where it is
abbrev pub stay : ℕ → Table → ℕ → Moves
stay n table state =
    if is_accepting table state then (pair_symbol n (n + 1) (n + 1), state) ∷ [] else []

-- the moves of a state, that one among them
abbrev pub staying_moves : ℕ → Table → ℕ → Moves
staying_moves n table state = moves_of table state ++ stay n table state

-- a move of each automaton, if the second letter of the one is the first letter of the other: the symbol of the two
-- outer letters, with the pair of targets
abbrev pub joined : ℕ → ℕ × ℕ → ℕ × ℕ → Option (ℕ × ℕ)
joined n move other =
    if nat_eq (second_letter n move.0) (first_letter n other.0)
    then Some (pair_symbol n (first_letter n move.0) (second_letter n other.0), number_of move.1 other.1)
    else None

-- all that one move of the first automaton makes with the second one's moves
abbrev pub joined_moves : ℕ → Table → ℕ → ℕ × ℕ → Moves
joined_moves n second q move = filter_map (joined n move) (staying_moves n second q)

-- the moves of a pair of states
abbrev pub pair_moves : ℕ → Table → Table → ℕ → Moves
pair_moves n first second pair =
    flat_map (joined_moves n second (second_state pair)) (staying_moves n first (first_state pair))

-- the moves of pairs, one pair after another
abbrev pub moves_of_pairs : ℕ → Table → Table → List ℕ → Moves
moves_of_pairs n first second pairs = flat_map (pair_moves n first second) pairs

-- the set with which word has ended, if there are both
abbrev pub place_of : Option Ended → Option (List ℕ) → Option Place
place_of None pairs = None
place_of (Some ended) None = None
place_of (Some ended) (Some pairs) = Some (record { ended = ended; pairs = pairs })

-- a symbol with the place to which it leads, if it leads to one
abbrev pub with_symbol : ℕ → Option Place → Option (ℕ × Place)
with_symbol symbol None = None
with_symbol symbol (Some place) = Some (symbol, place)

-- the group of a symbol, if the symbol may follow, with which word has ended then
abbrev pub placed : Alphabet → Ended → ℕ × List ℕ → Option (ℕ × Place)
placed alphabet ended group =
    with_symbol group.0 (place_of (ended_after alphabet ended group.0) (Some group.1))

-- the pair of the initial states, if both automata have one
abbrev pub initial_pairs : ℕ → ℕ → List ℕ
initial_pairs p q = if nat_eq p 0 || nat_eq q 0 then [] else number_of p q ∷ []

-- The machine that goes from the set of pairs to which a text leads to that of the text with a symbol more. A set
-- accepts where it has one of the given pairs.
abbrev pub state_pairs : Automaton → Automaton → List ℕ → Machine Place
state_pairs first second ending = record {
  start = place_of (Some Neither)
      (some_set (initial_pairs first.table.initial second.table.initial));
  follow = λ place symbol. place_of (ended_after first.alphabet place.ended symbol)
      (some_set
      (targets_by (moves_of_pairs (generators first.alphabet) first.table second.table place.pairs)
      symbol));
  accepts = λ place. list_any (is_member ending) place.pairs;
}

-- the moves without those before and behind, whose symbols are outside the bounds
pub record IsBlock (moves : Moves) (low high : ℕ) (block : Moves) : Type 0 where
  pub front : Moves
  pub back : Moves
  pub whole : moves ≡ front ++ (block ++ back)
  pub before : All (λ move. move.0 ≤ low) front
  pub behind : All (λ move. high < move.0) back

-- the places are those of the moves' groups
pub record AreGroupMoves (alphabet : Alphabet) (ended : Ended) (moves : Moves)
    (places : List (ℕ × Place)) : Type 0 where
  pub groups : List (ℕ × List ℕ)
  pub grouped : AreGroups moves groups
  pub are_placed : places ≡ filter_map (placed alphabet ended) groups

-- the moves that aren't among the rest are grouped and placed
pub record AreGroupMovesBefore (alphabet : Alphabet) (ended : Ended) (moves rest : Moves)
    (places : List (ℕ × Place)) : Type 0 where
  pub groups : List (ℕ × List ℕ)
  pub grouped : AreGroupedBefore moves rest groups
  pub are_placed : places ≡ filter_map (placed alphabet ended) groups
