use Rattle.kb_cmd_structures.specs.ByLog.{at_log}
use Rattle.kb_cmd_structures.proofs.LoadRuns.{memory_ends}
use Rattle.kb_cmd_structures.proofs.logged.load_justified.Goals as goal

pub load_all-requires-clause-justified : goal.load_all-requires-clause-justified
load_all-requires-clause-justified g c = rw c.in-Ok-Yes.field-0-is at c.in-Ok-Yes.ensures

pub returns-in-Ok-No-clause-holds : goal.returns-in-Ok-No-clause-holds
returns-in-Ok-No-clause-holds g c = λ told held. record {
  presentation = c.args.presentation;
  log = c.args.log;
  holds = held;
  is = rw c.in-Ok-No.field-0-is at c.in-Ok-No.ensures;
}

pub returns-in-Err-clause-ends : goal.returns-in-Err-clause-ends
returns-in-Err-clause-ends g c = λ told held. at_log held.group memory_ends
