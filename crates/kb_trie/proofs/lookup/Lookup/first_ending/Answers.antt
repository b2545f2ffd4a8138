use Rattle.std.proofs.Common.{◌≡◌, Some, None, sym, ap, ◌∙◌, subst}
use Rattle.kb_trie.specs.States.{word}
use Rattle.kb_trie.specs.LeftSides.{HasEnding, IsLeastOf, LeftSides}
use Rattle.kb_trie.specs.Lookups.{kept}
use Rattle.kb_trie.proofs.Looking.{looking_all, looking_more, looking_shorter, looking_start}
use Rattle.kb_trie.proofs.lookup.Lookup.first_ending.Goals as goal

pub loop-first-init : goal.loop-first-init
loop-first-init c =
    let lookup = c.self.inside in
    record { looking = looking_start lookup.trie lookup.entries.items c.self.invariant c.args.state c.end_at-end.result c.end_at-end.ensures }

pub loop-first-preserved : goal.loop-first-preserved
loop-first-preserved c =
    let lookup = c.self.inside in
    let same : Some c.in-Some.first ≡ kept c.number_at.result = sym c.in-Some.is ∙ c.kept.ensures in
    record {
      looking = looking_more lookup.trie lookup.entries.items c.self.invariant (word lookup.trie.words c.args.state) c.loop-first.end c.in-Some.first
          c.link.result c.end_at-end-in-Some.result c.loop-first.least c.lesser.result c.loop-first.invariant.looking (same ∙ ap kept c.number_at.ensures)
          c.link.ensures c.end_at-end-in-Some.ensures c.lesser.ensures.low c.lesser.ensures.lower c.lesser.ensures.is;
    }

pub loop-first-smaller : goal.loop-first-smaller
loop-first-smaller c =
    let lookup = c.self.inside in
    let same : Some c.in-Some.first ≡ kept c.number_at.result = sym c.in-Some.is ∙ c.kept.ensures in
    looking_shorter lookup.trie lookup.entries.items c.self.invariant c.loop-first.end c.in-Some.first c.link.result c.end_at-end-in-Some.result
    c.loop-first.invariant.looking.within (same ∙ ap kept c.number_at.ensures) c.link.ensures c.end_at-end-in-Some.ensures

pub returns : goal.returns
returns c =
    let lookup = c.self.inside in
    let none : None ≡ kept c.number_at.result = sym c.in_default.is ∙ c.kept.ensures in
    let P : LeftSides → Type 0 = λ v. IsLeastOf (HasEnding v.lefts (word v.words c.args.state)) 0 c.loop-first.least in
    subst P c.self.view_is
    (looking_all lookup.trie lookup.entries.items c.self.invariant (word lookup.trie.words c.args.state) c.loop-first.end c.loop-first.least
    c.loop-first.invariant.looking (none ∙ ap kept c.number_at.ensures))
