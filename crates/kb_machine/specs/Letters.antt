-- Words over the letters from 1 to n.
use Rattle.std.specs.Prelude.{ℕ, List, IfSome}
use Rattle.kb_word.specs.Words.{Pair, OneOf}
use Rattle.kb_word.specs.Relations.{IsOver}
use Rattle.kb_machine.specs.Lines.{rules_of}
use Rattle.kb_machine.specs.States.{Problem, State, IsPendingPair}
use Rattle.kb_machine.specs.declared.halt.Halt.{Halt}
use Rattle.kb_machine.specs.declared.halt.Halt.TheVariants.{Rules, Length}

-- both words of the pair are over n letters
abbrev pub IsPairOver : ℕ → Pair → Type 0
IsPairOver n pair = IsOver n pair.0 × IsOver n pair.1

-- so are those of each pair
abbrev pub AreOver : ℕ → List Pair → Type 0
AreOver n pairs = (pair : Pair) → OneOf pairs pair → IsPairOver n pair

-- the words of the pair that waits
abbrev pub halted_pair : Halt → Pair
halted_pair (Rules u v first second) = (u, v)
halted_pair (Length u v first second) = (u, v)

-- all lines, the pending pairs, and the pair that waits are over n letters
pub record IsStateOver (n : ℕ) (problem : Problem) (state : State) : Type 0 where
  pub lines : AreOver n (rules_of state.lines)
  pub pending : (pair : Pair) → IsPendingPair problem state pair → IsPairOver n pair
  pub halted : IfSome state.halt (λ halt. IsPairOver n (halted_pair halt))
