-- Logs that say the same.
use Rattle.std.specs.Prelude.{◌≡◌, Option, None, Some}
use Rattle.std.specs.List.{AllZip}
use Rattle.kb_machine.specs.declared.line.Line.{Line}
use Rattle.kb_proof.specs.declared.log.Log.{Log}

-- the lines have the same origin, sides and derivations
pub record AreSameLines (one other : Line) : Type 0 where
  pub origin : one.origin ≡ other.origin
  pub left : one.left ≡ other.left
  pub right : one.right ≡ other.right
  pub first_steps : one.first_steps.items ≡ other.first_steps.items
  pub second_steps : one.second_steps.items ≡ other.second_steps.items

-- no pair waits in either log, or the same one in both
abbrev pub WaitSame : Option Line → Option Line → Type 0
WaitSame None None = Unit {0}
WaitSame (Some one) (Some other) = AreSameLines one other
WaitSame _ _ = ⊥

-- the logs have one version, the same lines, and the same pair that waits
pub record AreSameLogs (one other : Log) : Type 0 where
  pub version : one.version ≡ other.version
  pub lines : AllZip AreSameLines one.lines.items other.lines.items
  pub waiting : WaitSame one.waiting other.waiting
