use Rattle.std.proofs.Common.{inl, inr, refl, length, subst, sym}
use Rattle.kb_word.specs.Presentations.{PresentationParts, parts_of}
use Rattle.kb_word.specs.Relations.{IsPresentation}
use Rattle.kb_fields.specs.Generators.{AreGeneratorNames}
use Rattle.kb_presprint.specs.Printable.{IsPrintable}
use Rattle.kb_proof.specs.Printable.{AreReadableNames}
use Rattle.kb_task.proofs.EquationLemmas.{equations-few}
use Rattle.kb_task.proofs.loading.presentations.presentation_of.Goals as goal

pub returns-in-Ok-clause-few : goal.returns-in-Ok-clause-few
returns-in-Ok-clause-few c = equations-few _ _ _ _ c.in-Ok.ensures.read.holds.equations

-- Names of generators that can be printed can be read in a log.
readable : (parts : PresentationParts) → IsPrintable parts parts.equations → AreGeneratorNames parts.names → AreReadableNames parts.names
readable parts printable generators = record {
  spelled = printable.names;
  free = λ within. generators.free _ (inr (within, inl refl));
}

pub returns-in-Ok-clause-names : goal.returns-in-Ok-clause-names
returns-in-Ok-clause-names c =
    let presentation = c.in-Ok.presentation in
    let parts = parts_of presentation in
    let says = c.in-Ok.ensures.read in
    let law = c.a_presentation_that_is_read_can_be_written.ensures in
    let presents : IsPresentation (length parts.names) parts.order parts.names parts.inverses parts.equations =
    subst (λ n. IsPresentation n parts.order parts.names parts.inverses parts.equations)
    (sym presentation.is_presentation.one_name_each) presentation.is_presentation in
    readable parts (law.printable c.args.bytes.now parts parts.equations says presents) (law.names c.args.bytes.now parts says)
