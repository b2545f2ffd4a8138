use Rattle.std.proofs.Common.{ap, ◌∙◌}
use Rattle.kb_record.specs.View.{value_view}
use Rattle.kb_record.proofs.Views.{view-Record}
use Rattle.kb_fsafile.proofs.fields.record_in.Goals as goal

pub returns-in-Record-clause-found : goal.returns-in-Record-clause-found
returns-in-Record-clause-found c = ap value_view c.in-Record.is ∙ view-Record c.in-Record.inner
