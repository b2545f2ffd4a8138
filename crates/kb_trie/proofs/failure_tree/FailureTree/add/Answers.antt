use Rattle.std.proofs.Common.{arith, ◌∙◌}
use Rattle.std.proofs.lemmas.List.{set-set}
use Rattle.kb_trie.proofs.FailureLists.{one_more}
use Rattle.kb_trie.proofs.failure_tree.FailureTree.add.Goals as goal

pub put_first-requires-clause-tree : goal.put_first-requires-clause-tree
put_first-requires-clause-tree c =
    one_more c.args.self.now.count c.args.self.now.links.items c.args.self.now.firsts.items c.args.self.now.nexts.items
    c.args.self.now.previous.items 4294967295 c.requires.tree c.requires.within c.requires.link_room c.requires.first_room
    c.requires.next_room c.requires.previous_room (omega arith)

pub returns-clause-links : goal.returns-clause-links
returns-clause-links c = c.put_first.ensures.links ∙ set-set c.args.self.now.links.items c.args.self.now.count 4294967295 c.args.link
