use Rattle.std.proofs.Common.{ℕ, List, set, ap, ◌∙◌}
use Rattle.std.proofs.lemmas.List.{set-set}
use Rattle.kb_trie.proofs.failure_tree.FailureTree.move_to.Goals as goal

pub returns-clause-links : goal.returns-clause-links
returns-clause-links c =
    c.put_first.ensures.links ∙ ap (λ (ls : List ℕ). set ls c.args.state c.args.link) c.take_out.ensures.links
    ∙ set-set c.args.self.now.links.items c.args.state 4294967295 c.args.link
