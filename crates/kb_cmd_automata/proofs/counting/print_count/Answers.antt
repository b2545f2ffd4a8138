use Rattle.std.proofs.Common.{ℕ, List, refl, subst}
use Rattle.kb_task.specs.Lines.{LineIsWritten}
use Rattle.kb_task.specs.declared.status.Status.TheVariants.{Yes}
use Rattle.kb_cmd_automata.specs.Counted.{no_memory}
use Rattle.kb_cmd_automata.proofs.CountLemmas.{count-printed}
use Rattle.kb_cmd_automata.proofs.counting.print_count.Goals as goal

pub returns-in-Ok-clause-printed : goal.returns-in-Ok-clause-printed
returns-in-Ok-clause-printed g c = λ told.
    let before = g.O.Sink.state c.args.out.now in
    let after = g.O.Sink.state c.print_line.new.out in
    count-printed c.args.fsa.now c.args.lengths c.in-Ok.text.items before after c.print_line.result c.in-Ok.ensures
    (subst (λ (text : List ℕ). LineIsWritten text Yes before after c.print_line.result) c.deref.ensures.value
    (c.print_line.ensures.written told))

pub returns-in-Err-clause-printed : goal.returns-in-Err-clause-printed
returns-in-Err-clause-printed g c = λ told. no_memory refl
