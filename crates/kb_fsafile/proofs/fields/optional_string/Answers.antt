use Rattle.std.proofs.Common.{refl, sym, ap, ◌∙◌, Some}
use Rattle.std.specs.Option.{option_map}
use Rattle.kb_record.specs.View.{value_view, found_view}
use Rattle.kb_fsafile.proofs.fields.optional_string.Goals as goal

pub returns-clause-fault : goal.returns-clause-fault
returns-clause-fault c = (
  refl,
  value_view c.value.result.now,
  (rw c.name.ensures at c.in_ok-value.ensures) ∙ (ap (option_map found_view) c.in-Some.is ∙ ap Some (sym c.value.ensures)),
  λ kind. let is = c.requires _ kind in c.in-None.ensures.none is.0 is.1,
)
