-- Where the middle word goes on behind both outer words.
use Rattle.std.specs.Prelude.{◌↔◌, ℕ, ◌+◌, nat_eq, nat_lt, nat_le, ◌||◌, ◌&&◌, Bool, false, IsTrue, List, [], Contains, Option, Some, None, if◌then◌else◌}
use Rattle.kb_word.specs.Relations.{IsOver}
use Rattle.kb_fsa.specs.Table.{Table, AcceptsFrom, step, is_accepting}
use Rattle.kb_fsa.specs.PairSymbols.{pair_symbol}
use Rattle.kb_fsa.specs.Padding.{padded}
use Rattle.kb_explore.specs.Machine.{Machine}
use Rattle.kb_explore.specs.Exploration.{numbered}
use Rattle.kb_fsadet.specs.SubsetConstruction.{is_member}
use Rattle.kb_compose.specs.declared.tail.Tail.{Tail}
use Rattle.kb_compose.specs.declared.tail.Tail.TheVariants.{Begin, At}
use Rattle.kb_compose.specs.StatePairs.{number_of, first_state, second_state}

-- some rest of the middle word, behind both outer words, leads from the pair of states to acceptance
pub record EndsTogether (n : ℕ) (first second : Table) (pair : ℕ) : Type 0 where
  pub rest : List ℕ
  pub over : IsOver n rest
  pub in_first : AcceptsFrom first (first_state pair) (padded n [] rest)
  pub in_second : AcceptsFrom second (second_state pair) (padded n rest [])

-- the set has those of the pairs from which some rest leads to acceptance
pub record AreEnding (n : ℕ) (first second : Table) (pairs ending : List ℕ) : Type 0 where
  pub ends : (pair : ℕ) → Contains pairs pair → IsTrue (is_member ending pair)
      ↔ EndsTogether n first second pair

-- the pair of two states, if both are some
abbrev pub tail_at : ℕ → ℕ → Option Tail
tail_at p q = if nat_eq p 0 || nat_eq q 0 then None else Some (At (number_of p q))

-- one of the pairs, by its place
abbrev pub tail_of : Option ℕ → Option Tail
tail_of None = None
tail_of (Some pair) = Some (At pair)

-- where a letter of the middle word leads
abbrev pub tail_after : ℕ → Table → Table → ℕ → ℕ → Option Tail
tail_after n first second pair letter =
    if nat_lt 0 letter && nat_le letter n
    then tail_at (step first (first_state pair) (pair_symbol n (n + 1) letter))
    (step second (second_state pair) (pair_symbol n letter (n + 1)))
    else None

abbrev pub tail_follow : ℕ → Table → Table → List ℕ → Tail → ℕ → Option Tail
tail_follow n first second pairs Begin symbol = tail_of (numbered pairs symbol)
tail_follow n first second pairs (At pair) symbol = tail_after n first second pair symbol

abbrev pub tail_accepts : Table → Table → Tail → Bool
tail_accepts first second Begin = false
tail_accepts first second (At pair) =
    is_accepting first (first_state pair) && is_accepting second (second_state pair)

-- the machine that goes by a number to the pair at that place, and from pair to pair by letters of the middle word
abbrev pub tails : ℕ → Table → Table → List ℕ → Machine Tail
tails n first second pairs = record {
  start = Some Begin;
  follow = tail_follow n first second pairs;
  accepts = tail_accepts first second;
}
