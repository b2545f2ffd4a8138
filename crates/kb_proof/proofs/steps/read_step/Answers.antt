use Rattle.std.proofs.Common.{rules, ◌≡◌, ◌∙◌, [], ◌∷◌, decimal, ap}
use Rattle.kb_machine.specs.declared.line.LogStep.{LogStep}
use Rattle.kb_proof.specs.Printable.{FitsStep}
use Rattle.kb_proof.specs.Printed.{text_of_step}
use Rattle.kb_proof.specs.Reading.{parts}
use Rattle.kb_proof.proofs.PartLemmas.{one_part}
use Rattle.kb_proof.proofs.TextLemmas.{reads_none, step_parts}
use Rattle.kb_proof.proofs.steps.read_step.Goals as goal

pub returns-in_err-place : goal.returns-in_err-place
returns-in_err-place c = reads_none text_of_step FitsStep c.args.bytes.now c.from_residual.result (search rules) (λ (step : LogStep) fits e.
    let is = ap (parts 47) e ∙ step_parts step fits in
    let whole = c.in_err-place.ensures.none in
    absurd cc)

pub returns-in_err-read_u32 : goal.returns-in_err-read_u32
returns-in_err-read_u32 c = reads_none text_of_step FitsStep c.args.bytes.now c.from_residual-in_err-read_u32.result (search rules) (λ (step : LogStep) fits e.
    let is = ap (parts 47) e ∙ step_parts step fits in
    let cut = (c.in_ok-place.ensures.cut).first in
    let front : c.in_ok-place.place.now ≡ decimal step.place = cc in
    c.in_err-read_u32.ensures step.place fits.place front)

pub returns-in_err-read_u32-2 : goal.returns-in_err-read_u32-2
returns-in_err-read_u32-2 c = reads_none text_of_step FitsStep c.args.bytes.now c.from_residual-in_err-read_u32-2.result (search rules) (λ (step : LogStep) fits e.
    let is = ap (parts 47) e ∙ step_parts step fits in
    let cut = (c.in_ok-place.ensures.cut).first in
    let back : parts 47 c.in_ok-place.line.now ≡ decimal step.line ∷ [] = cc in
    c.in_err-read_u32-2.ensures step.line fits.line (one_part 47 c.in_ok-place.line.now (decimal step.line) back))
