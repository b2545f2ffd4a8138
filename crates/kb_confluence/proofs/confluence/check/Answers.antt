use Rattle.kb_confluence.proofs.Verdicts.{answer_confluent, answer_counterexample}
use Rattle.kb_confluence.proofs.confluence.check.Goals as goal

pub returns-clause-confluent : goal.returns-clause-confluent
returns-clause-confluent g c = answer_confluent c.args.rules.now.rules c.verdict_on.result c.verdict_on.ensures

pub returns-clause-counterexample : goal.returns-clause-counterexample
returns-clause-counterexample g c =
    answer_counterexample c.args.rules.now.rules c.verdict_on.result c.verdict_on.ensures
