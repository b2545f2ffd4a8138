use Rattle.std.proofs.Common.{length, ap, subst, arith}
use Rattle.kb_trie.specs.LeftSides.{AreLefts, LeftSides}
use Rattle.kb_trie.proofs.Entries.{are_lefts, lefts_length}
use Rattle.kb_trie.proofs.lookup.Lookup.count.Goals as goal

pub returns-clause-count : goal.returns-clause-count
returns-clause-count c =
    let lookup = c.self.inside in
    omega (arith, c.len.ensures, lookup.entries.ok.0, lefts_length lookup.trie lookup.entries.items, ap (λ (v : LeftSides). length v.lefts) c.self.view_is)

pub returns-clause-few : goal.returns-clause-few
returns-clause-few c =
    let lookup = c.self.inside in
    omega (arith, c.len.ensures, lookup.entries.ok.0, c.self.invariant.few)

pub returns-clause-lefts : goal.returns-clause-lefts
returns-clause-lefts c =
    let lookup = c.self.inside in
    let P : LeftSides → Type 0 = λ v. AreLefts v.words v.lefts in
    subst P c.self.view_is (are_lefts lookup.trie lookup.entries.items c.self.invariant)
