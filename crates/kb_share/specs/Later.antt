-- Later stages of a completion.
use Rattle.std.specs.Prelude.{◌≡◌, ℕ, suc, List, [], ◌∷◌, ◌++◌}
use Rattle.kb_machine.specs.declared.line.Line.{Line}
use Rattle.kb_machine.specs.Course.{Course}
use Rattle.kb_machine.specs.declared.event.Event.{Event}
use Rattle.kb_machine.specs.declared.event.Event.TheVariants.{Entered}

-- the completion has the same problem, and the lines that it had before, or more
pub record IsLater (before after : Course) : Type 0 where
  pub problem : after.problem ≡ before.problem
  pub made : List Line
  pub lines : after.state.lines ≡ before.state.lines ++ made

-- how many overlaps were entered
abbrev pub entries : List Event → ℕ
entries [] = 0
entries (Entered worker place first second ∷ events) = suc (entries events)
entries (_ ∷ events) = entries events
