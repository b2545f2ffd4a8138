-- The subset construction: the machine whose states are sets of states. Hopcroft, Ullman, Introduction to Automata
-- Theory, Languages, and Computation, 2.3.
use Rattle.std.specs.Prelude.{◌≡◌, ℕ, ◌<◌, nat_lt, nat_eq, Bool, List, [], ◌∷◌, All, AllPairs, Contains, Option, Some, None, if◌then◌else◌}
use Rattle.std.specs.List.{flat_map, list_any}
use Rattle.std.specs.List.Sorted.{IsNonDecreasingBy}
use Rattle.std.specs.Option.{option_or}
use Rattle.kb_fsa.specs.Table.{lookup, Moves, Ascends}
use Rattle.kb_explore.specs.Machine.{Machine}
use Rattle.kb_fsadet.specs.Nondeterministic.{Nondeterministic, moves_from, accepts_at}

-- sets of numbers are kept as ascending lists
abbrev pub IsAscending : List ℕ → Type 0
IsAscending = AllPairs (λ earlier later. earlier < later)

-- the number, put into an ascending list that may have it
abbrev pub insert : ℕ → List ℕ → List ℕ
insert x [] = x ∷ []
insert x (y ∷ ys) =
    if nat_lt x y then x ∷ y ∷ ys else (if nat_eq x y then y ∷ ys else y ∷ insert x ys)

-- the set of a list's numbers
abbrev pub set_of : List ℕ → List ℕ
set_of [] = []
set_of (x ∷ xs) = insert x (set_of xs)

-- whether the state is one of the members
abbrev pub is_member : List ℕ → ℕ → Bool
is_member members state = list_any (λ member. nat_eq member state) members

-- the set of a list's numbers, and none of no numbers
abbrev pub some_set : List ℕ → Option (List ℕ)
some_set [] = None
some_set (x ∷ xs) = Some (set_of (x ∷ xs))

-- where the moves by the symbol lead
abbrev pub targets_by : Moves → ℕ → List ℕ
targets_by [] symbol = []
targets_by (move ∷ moves) symbol =
    if nat_eq move.0 symbol then move.1 ∷ targets_by moves symbol else targets_by moves symbol

-- the moves of the states, one state after another
abbrev pub moves_of_each : Nondeterministic → List ℕ → Moves
moves_of_each automaton states = flat_map (moves_from automaton) states

-- The machine that goes from the set of initial states to the set of states that the moves by a symbol lead to. A set
-- accepts where one of its states does.
abbrev pub subsets : Nondeterministic → Machine (List ℕ)
subsets automaton = record {
  start = some_set automaton.initial;
  follow = λ states symbol. some_set (targets_by (moves_of_each automaton states) symbol);
  accepts = list_any (accepts_at automaton);
}

-- the moves in groups, one for each symbol, with the set of where they lead
pub record AreGroups (moves : Moves) (groups : List (ℕ × List ℕ)) : Type 0 where
  pub ascends : Ascends groups
  pub symbols : All (λ group. (target : ℕ) × Contains moves (group.0, target)) groups
  pub each : (symbol : ℕ) → lookup groups symbol ≡ some_set (targets_by moves symbol)

-- the moves that aren't among the rest are grouped, and the rest have greater symbols
pub record AreGroupedBefore (moves rest : Moves) (groups : List (ℕ × List ℕ)) : Type 0 where
  pub ascends : Ascends groups
  pub symbols : All (λ group. (target : ℕ) × Contains moves (group.0, target)) groups
  pub in_order : IsNonDecreasingBy (λ move. move.0) rest
  pub among : All (Contains moves) rest
  pub below : All (λ group. All (λ move. group.0 < move.0) rest) groups
  pub each : (symbol : ℕ)
      → option_or (lookup groups symbol) (some_set (targets_by rest symbol))
      ≡ some_set (targets_by moves symbol)
