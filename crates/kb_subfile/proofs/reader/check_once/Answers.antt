use Rattle.std.proofs.lemmas.Option.{MatchOption-at_some}
use Rattle.kb_fields.specs.Fields.{fields_view}
use Rattle.kb_subfile.proofs.FaultLemmas.{repeated_fault}
use Rattle.kb_subfile.proofs.reader.check_once.Goals as goal

pub returns-in-Some-clause-fault : goal.returns-in-Some-clause-fault
returns-in-Some-clause-fault c = λ parts.
    repeated_fault parts (fields_view c.args.fields.now) c.in-Some.field (MatchOption-at_some _ _ c.in-Some.field c.in-Some.is c.in_ok-field.ensures.some)
