use Rattle.std.proofs.Common.{[], List, sym, subst, Some}
use Rattle.kb_machine.specs.declared.line.LogStep.{LogStep}
use Rattle.kb_proof.specs.Printable.{FitsStep}
use Rattle.kb_proof.specs.Printed.{text_of_step}
use Rattle.kb_proof.specs.Reading.{ReadsJoined, parts}
use Rattle.kb_proof.proofs.PartLemmas.{parted_stuck, parted_end}
use Rattle.kb_proof.proofs.TextLemmas.{steps_parts}
use Rattle.kb_proof.proofs.steps.read_some_steps.Goals as goal

pub returns-in_default-read_step-clause-none : goal.returns-in_default-read_step-clause-none
returns-in_default-read_step-clause-none c =
    parted_stuck 44 text_of_step FitsStep c.args.bytes.now c.loop-text.steps.items c.loop-text.rest.now c.in-Some.text.now (parts 44 c.in-Some.behind.now)
    c.loop-text.invariant (c.in-Some.ensures.cut).first c.in_default-read_step.ensures steps_parts

pub returns-in_default-read_step-2-clause-none : goal.returns-in_default-read_step-2-clause-none
returns-in_default-read_step-2-clause-none c =
    parted_stuck 44 text_of_step FitsStep c.args.bytes.now c.loop-text.steps.items c.loop-text.rest.now c.loop-text.rest.now []
    c.loop-text.invariant c.in_default.ensures.none c.in_default-read_step-2.ensures steps_parts

pub returns-clause-steps : goal.returns-clause-steps
returns-clause-steps c =
    let read = c.in-Some-read_step-2.ensures in
    let P : List LogStep → Type 0 = λ steps. ReadsJoined 44 text_of_step FitsStep c.args.bytes.now (Some steps) in
    subst P (sym c.in_ok-push-2.ensures.items)
    (parted_end 44 text_of_step FitsStep c.args.bytes.now c.loop-text.steps.items c.loop-text.rest.now c.in-Some-read_step-2.step
    c.loop-text.invariant c.in_default.ensures.none read.0 read.1)
