use Rattle.std.proofs.Common.{◌≡◌, arith, rules}
use Rattle.kb_fsa.specs.Table.{step}
use Rattle.kb_fsa.proofs.Lookups.{step_within}
use Rattle.kb_fsa.proofs.table.Table.step.Goals as goal

pub returns-clause-within : goal.returns-clause-within
returns-clause-within c =
    let is : c.target_of.result ≡ step c.args.self.now c.args.state c.args.symbol = search rules in
    omega (arith, step_within c.args.self.now c.args.state c.args.symbol c.row.ensures.table)
