use Rattle.std.proofs.Common.{◌≡◌}
use Rattle.kb_trie.proofs.Rows.{Leads}
use Rattle.kb_trie.proofs.table.Table.set_steps.Given as goal

abbrev pub invariant-loop-state : goal.invariant-loop-state
invariant-loop-state l = record {
  width : l.self.width ≡ l.fn.self.width;
  leads : Leads l.fn.self.rows.items l.self.rows.items l.fn.self.width l.states l.letter l.after l.state-index;
}
