use Rattle.std.proofs.lemmas.Option.{MatchOption-at_some}
use Rattle.kb_fields.specs.Fields.{fields_view}
use Rattle.kb_presfile.proofs.FaultLemmas.{repeated_fault}
use Rattle.kb_presfile.proofs.fields.check_once.Goals as goal

pub returns-in-Some-clause-fault : goal.returns-in-Some-clause-fault
returns-in-Some-clause-fault c =
    repeated_fault (fields_view c.args.fields.now) c.in-Some.field (MatchOption-at_some _ _ c.in-Some.field c.in-Some.is c.in_ok-field.ensures.some)
