use Rattle.std.proofs.Common.{subst}
use Rattle.kb_trie.specs.LeftSides.{IsLongestLeft, LeftSides}
use Rattle.kb_trie.proofs.Looking.{longest_left}
use Rattle.kb_trie.proofs.lookup.Lookup.end_at.Goals as goal

pub returns : goal.returns
returns c =
    let lookup = c.self.inside in
    let P : LeftSides → Type 0 = λ v. IsLongestLeft v.words v.lefts c.args.state c.end_at.result in
    subst P c.self.view_is (longest_left lookup.trie lookup.entries.items c.self.invariant c.args.state c.end_at.result c.end_at.ensures)
