use Rattle.std.proofs.Common.{refl, arith}
use Rattle.kb_trie.proofs.ChildLists.{children_same}
use Rattle.kb_trie.proofs.children.Children.make_room.Goals as goal

pub returns-in_err-make_room-clause-children : goal.returns-in_err-make_room-clause-children
returns-in_err-make_room-clause-children c words has =
    let old = c.args.self.now in
    children_same words old.lasts.items old.earlier.items c.make_room.new.numbers.items old.earlier.items c.make_room.ensures.same (λ place. refl)
    c.make_room.ensures.longer (omega arith) has

pub returns-clause-children : goal.returns-clause-children
returns-clause-children c words has =
    let old = c.args.self.now in
    children_same words old.lasts.items old.earlier.items c.make_room.new.numbers.items c.make_room-2.new.numbers.items c.make_room.ensures.same
    c.make_room-2.ensures.same c.make_room.ensures.longer c.make_room-2.ensures.longer has
