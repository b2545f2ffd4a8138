use Rattle.kb_fsamin.specs.Firsts.{AreFirsts}
use Rattle.kb_fsamin.proofs.classes.first_of_each.Given as goal

abbrev pub invariant-loop-state : goal.invariant-loop-state
invariant-loop-state l = AreFirsts l.table l.classes l.state l.firsts.items l.listed.items
