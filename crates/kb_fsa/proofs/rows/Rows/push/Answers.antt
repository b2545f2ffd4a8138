use Rattle.kb_fsa.proofs.Lookups.{pushed_rows}
use Rattle.kb_fsa.proofs.rows.Rows.push.Goals as goal

pub invariant_of-self : goal.invariant_of-self
invariant_of-self c = pushed_rows c.self.inside.lists c.push.new.self c.args.row.now c.push.result c.self.invariant c.requires c.push.ensures.pushed c.push.ensures.kept
