use Rattle.std.proofs.Common.{refl, ap, Err}
use Rattle.kb_task.specs.declared.status.Limit.TheVariants.{States}
use Rattle.kb_cmd_automata.specs.Make.{ExceedsTransformed, transform_making}
use Rattle.kb_cmd_automata.specs.MakeLaws.{transformed-known}
use Rattle.kb_cmd_automata.proofs.RunLemmas.{run-at_load, run-made, run-limited}
use Rattle.kb_cmd_automata.proofs.transform.Transform.run.Goals as goal

pub returns-in-Err : goal.returns-in-Err
returns-in-Err g c =
    run-at_load c.load_automaton.ensures.only_loads c.in-Err.ensures.fault (rw c.kind.ensures at c.in-Err.ensures.ends)

pub returns-in-Ok-transformed : goal.returns-in-Ok-transformed
returns-in-Ok-transformed g c =
    let task = c.args.self in
    run-made c.load_automaton.ensures.only_loads (transform_making task) (ExceedsTransformed task.operation task.max_states) c.in-Ok.ensures.holds
    (rw c.kind.ensures at c.in-Ok.ensures.kind) c.in-Ok-transformed.made (transformed-known task.operation c.in-Ok.given.fsa)
    c.in-Ok-transformed.ensures.language (λ limit exceeds. c.in-Ok-transformed.ensures.few refl exceeds.1) c.store_canonical.ensures

pub returns-in-Err-TooManyStates : goal.returns-in-Err-TooManyStates
returns-in-Err-TooManyStates g c =
    let task = c.args.self in
    run-limited c.load_automaton.ensures.only_loads (transform_making task) (ExceedsTransformed task.operation task.max_states) c.in-Ok.ensures.holds
    (rw c.kind.ensures at c.in-Ok.ensures.kind) (States c.construction.result) (
      ap States c.construction.ensures,
      c.in-Err-TooManyStates.ensures.many c.in-Err-TooManyStates.field-0-0 (ap Err c.in-Err-TooManyStates.field-0-is),
    )
    c.print_limit.ensures.written c.print_limit.ensures.goes_on c.print_limit.ensures.fault
