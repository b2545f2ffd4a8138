use Rattle.std.proofs.Common.{◌<◌, length, ap, ◌∙◌, subst, arith}
use Rattle.kb_trie.specs.States.{word}
use Rattle.kb_trie.specs.LeftSides.{HasAt, IsLeastOf, LeftSides}
use Rattle.kb_trie.specs.Lookups.{kept}
use Rattle.kb_trie.proofs.Looking.{first_at}
use Rattle.kb_trie.proofs.lookup.Lookup.first_at.Goals as goal

pub returns : goal.returns
returns c =
    let lookup = c.self.inside in
    let within : c.args.state < length lookup.trie.words =
    omega (arith, ap (λ (v : LeftSides). length v.words) c.self.view_is, c.requires) in
    let P : LeftSides → Type 0 = λ v. IsLeastOf (HasAt v.lefts (word v.words c.args.state)) 0 c.kept.result in
    subst P c.self.view_is
    (first_at lookup.trie lookup.entries.items c.self.invariant c.args.state c.kept.result within (c.kept.ensures ∙ ap kept c.number_at.ensures))
