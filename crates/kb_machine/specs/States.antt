-- What a completion completes, and how far it has come.
use Rattle.std.specs.Prelude.{◌≡◌, ℕ, suc, List, [], ◌∷◌, map, Option, None, Some, unwrap_or}
use Rattle.std.specs.List.{Contains}
use Rattle.kb_word.specs.Words.{Pair}
use Rattle.kb_word.specs.WordOrders.{Below}
use Rattle.kb_word.specs.declared.word_order.WordOrder.{WordOrder}
use Rattle.kb_machine.specs.Lines.{numbered, rules_of, IsPairOf}
use Rattle.kb_machine.specs.declared.line.Line.{Line}
use Rattle.kb_machine.specs.declared.origin.Origin.{Origin}
use Rattle.kb_machine.specs.declared.origin.Origin.TheVariants.{Relation}
use Rattle.kb_machine.specs.declared.halt.Halt.{Halt}

-- an order of words, relations, and the limits within which they are to be completed
pub record Problem : Type 0 where
  pub order : WordOrder
  pub relations : List Pair
  pub most_lines : ℕ
  pub most_letters : ℕ

-- one word is less than another by its order
abbrev pub below : Problem → List ℕ → List ℕ → Type 0
below problem = Below problem.order

-- How far a completion has come: all lines that were made, the numbers of those that are live, the
-- origins of the pairs that are still to be looked at, the live numbers of each version that was
-- published, and why it halted, if it did.
pub record State : Type 0 where
  pub lines : List Line
  pub live : List ℕ
  pub pending : List Origin
  pub versions : List (List ℕ)
  pub halt : Option Halt

-- the rule with this number; nothing is said where there is none
abbrev pub rule_numbered : List Line → ℕ → Pair
rule_numbered lines k = unwrap_or (numbered (rules_of lines) k) ([], [])

-- the live rules, in line order
abbrev pub live_rules : State → List Pair
live_rules state = map (rule_numbered state.lines) state.live

-- the pair is a live rule
abbrev pub IsLiveRule : State → Pair → Type 0
IsLiveRule state pair =
    (k : ℕ) × Contains state.live k × (numbered (rules_of state.lines) k ≡ Some pair)

-- the pair is that of a pending origin
abbrev pub IsPendingPair : Problem → State → Pair → Type 0
IsPendingPair problem state pair =
    (origin : Origin) × Contains state.pending origin
    × IsPairOf problem.relations (rules_of state.lines) origin pair

-- the relations' origins, the first of which has this number
abbrev pub relation_origins : ℕ → List Pair → List Origin
relation_origins k [] = []
relation_origins k (pair ∷ rest) = Relation k ∷ relation_origins (suc k) rest

-- at the start all relations are pending, in order
abbrev pub start : Problem → State
start problem = record {
  lines = [];
  live = [];
  pending = relation_origins 1 problem.relations;
  versions = [];
  halt = None;
}
