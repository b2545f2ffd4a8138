use Rattle.kb_trie.proofs.Rows.{steps_root}
use Rattle.kb_trie.proofs.table.Table.root.Goals as goal

pub returns-clause-steps : goal.returns-clause-steps
returns-clause-steps c = steps_root _ _ (c.in_ok-rows.ensures.items_if_clones_equal (λ y same. same))
