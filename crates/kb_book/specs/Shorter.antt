-- A line with a lesser right side in place of a live one.
use Rattle.std.specs.Prelude.{◌≡◌, ◌≢◌, ℕ, ◌<◌, [], length, None, Some, slice_get}
use Rattle.kb_word.specs.Words.{Pair}
use Rattle.kb_word.specs.Rewriting.{NormalForm}
use Rattle.kb_machine.specs.Lines.{numbered, rules_of}
use Rattle.kb_machine.specs.Derivations.{Derives}
use Rattle.kb_machine.specs.declared.line.Line.{Line}
use Rattle.kb_machine.specs.declared.origin.Origin.TheVariants.{Shortened}
use Rattle.kb_machine.specs.States.{live_rules}
use Rattle.kb_machine.specs.Machine.{IsLive}
use Rattle.kb_machine.specs.Course.{Course}

-- line k, which stands at the place among the live ones, may be replaced by the line
pub record IsShorter (course : Course) (k place : ℕ) (line : Line) : Type 0 where
  pub running : course.state.halt ≡ None
  pub room : length course.state.lines < course.problem.most_lines
  pub at : slice_get course.state.live place ≡ Some k
  pub own : Pair
  pub is_own : numbered (rules_of course.state.lines) k ≡ Some own
  pub of_origin : line.origin ≡ Shortened k
  pub left : line.left ≡ own.0
  pub right : Derives (λ j. IsLive course.state j × (j ≢ k)) (rules_of course.state.lines)
      own.1 line.first_steps.items line.right
  pub changed : line.right ≢ own.1
  pub no_second : line.second_steps.items ≡ []
  pub normal : NormalForm (live_rules course.state) own.1 line.right
