use Rattle.std.proofs.Common.{refl, ap, codes, Err}
use Rattle.kb_task.specs.declared.status.Status.TheVariants.{Yes}
use Rattle.kb_cmd_automata.specs.Compare.{same, no_memory}
use Rattle.kb_cmd_automata.proofs.PrintLemmas.{line-printed, limit-printed, difference-printed}
use Rattle.kb_cmd_automata.proofs.compare.print_comparison.Goals as goal

pub returns-in-Ok-Equal-clause-printed : goal.returns-in-Ok-Equal-clause-printed
returns-in-Ok-Equal-clause-printed g c = λ told.
    line-printed c.args.first.now.names c.args.first.now.fsa c.args.second.now c.args.max_states (g.O.Sink.state c.args.out.now)
    (g.O.Sink.state c.print_line.new.out) c.print_line.result (codes "yes\n") Yes
    (same (rw c.in-Ok-Equal.field-0-is at c.in-Ok-Equal.ensures.comparison) (c.in-Ok-Equal.ensures.few refl)) (c.print_line.ensures.written told)

pub returns-in-Ok-Differ-clause-printed : goal.returns-in-Ok-Differ-clause-printed
returns-in-Ok-Differ-clause-printed g c = λ told.
    difference-printed c.args.first.now.names c.args.first.now.fsa c.args.second.now c.args.max_states (g.O.Sink.state c.args.out.now)
    (g.O.Sink.state c.print_difference.new.out) c.print_difference.result _ c.alphabet-alphabet.result c.alphabet-alphabet.ensures.alphabet
    (rw c.in-Ok-Differ.field-0-is at c.in-Ok-Differ.ensures.comparison) (c.in-Ok-Differ.ensures.few refl) (c.print_difference.ensures.printed told)

pub returns-in-Err-TooManyStates-clause-printed : goal.returns-in-Err-TooManyStates-clause-printed
returns-in-Err-TooManyStates-clause-printed g c = λ told.
    limit-printed c.args.first.now.names c.args.first.now.fsa c.args.second.now c.args.max_states (g.O.Sink.state c.args.out.now)
    (g.O.Sink.state c.print_limit.new.out) c.print_limit.result
    (c.in-Err-TooManyStates.ensures.many c.in-Err-TooManyStates.field-0-0 (ap Err c.in-Err-TooManyStates.field-0-is)).1
    (c.print_limit.ensures.written told)

pub returns-in-Err-Memory-clause-printed : goal.returns-in-Err-Memory-clause-printed
returns-in-Err-Memory-clause-printed g c = λ told. no_memory refl
