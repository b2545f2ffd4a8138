use Rattle.kb_fields.specs.Fields.{fields_view}
use Rattle.kb_fsafile.proofs.FirstLemmas.{first_repeated}
use Rattle.kb_fsafile.proofs.fields.check_once.Goals as goal

pub returns-in-Some-clause-fault : goal.returns-in-Some-clause-fault
returns-in-Some-clause-fault c = first_repeated (fields_view c.args.fields.now) c.in-Some.field (rw c.in-Some.is at c.in_ok-field.ensures.some)
