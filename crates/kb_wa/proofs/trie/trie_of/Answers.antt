use Rattle.std.proofs.Common.{sym, ◌∙◌}
use Rattle.kb_wa.proofs.Inserting.{left_read, trie_none}
use Rattle.kb_wa.proofs.trie.trie_of.Goals as goal

pub loop-rule-init : goal.loop-rule-init
loop-rule-init c = trie_none c.args.rules.now c.in_ok-trie.trie c.in_ok-trie.ensures.words c.in_ok-trie.ensures.numbers

pub loop-rule-preserved : goal.loop-rule-preserved
loop-rule-preserved c =
    let read = left_read c.args.rules.now c.loop-rule.rule-index c.rule-item.result c.loop-rule-test.true c.rule-item.is in
    c.in_ok-insert_left.ensures c.args.rules.now c.loop-rule.rule-index (read ∙ sym c.left.ensures) c.loop-rule.invariant
