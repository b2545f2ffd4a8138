use Rattle.std.proofs.Common.{◌≡◌, false, nat_eq, length, sym, refl, ◌∙◌, subst, arith}
use Rattle.std.specs.List.{list_any}
use Rattle.std.specs.Cmp.Lexicographic.{pointwise}
use Rattle.kb_word.specs.Words.{OneOf}
use Rattle.kb_word.specs.Relations.{IsOver}
use Rattle.kb_word.specs.Rewriting.{IsIrreducible}
use Rattle.kb_diff.specs.declared.grow.Grow.TheVariants.{Grew, Same, Full}
use Rattle.kb_diff.specs.Kept.{KeptDifferences}
use Rattle.kb_diff.specs.Keeping.{KeepsOne, one_known, one_added, one_too_many}
use Rattle.kb_diff.proofs.Inserting.{has_word, lacks_word, word_added, kept_more}
use Rattle.kb_diff.proofs.differences.Differences.keep.Goals as goal

pub returns-then-contains-clause-ok : goal.returns-then-contains-clause-ok
returns-then-contains-clause-ok g c =
    let keys = c.self.inside.words.keys in
    let P : KeptDifferences → Type 0 = λ kept. KeepsOne kept.most c.args.word c.args.place kept.words kept.words Same in
    subst P c.self.view_is (one_known (has_word keys c.args.word (sym c.contains.ensures ∙ c.if-contains.true)) refl)

pub returns-then-len-self-clause-ok : goal.returns-then-len-self-clause-ok
returns-then-len-self-clause-ok g c =
    let keys = c.self.inside.words.keys in
    let fresh = lacks_word keys c.args.word (sym c.contains.ensures ∙ c.if-contains.false) in
    let count : length keys ≡ c.self.inside.most = omega (arith, c.self.invariant.within, c.if-len-self.true, c.len.ensures.len) in
    let P : KeptDifferences → Type 0 = λ kept. KeepsOne kept.most c.args.word c.args.place kept.words kept.words (Full c.args.word c.args.place) in
    subst P c.self.view_is (one_too_many fresh count refl)

pub invariant_of-self-2 : goal.invariant_of-self-2
invariant_of-self-2 g c =
    let keys = c.self.inside.words.keys in
    let word = c.args.word in
    let missed : list_any (pointwise nat_eq word) keys ≡ false = sym c.contains.ensures ∙ c.if-contains.false in
    let K : KeptDifferences → Type 0 = λ kept. IsOver kept.group.n word in
    let L : KeptDifferences → Type 0 = λ kept. IsIrreducible (OneOf kept.group.rules) word in
    let over = subst K (sym c.self.view_is) c.requires.over in
    let irreducible = subst L (sym c.self.view_is) c.requires.irreducible in
    kept_more _ c.self.inside.most keys c.insert.new.self.keys word c.self.invariant over irreducible (lacks_word keys word missed)
    (omega (arith, c.if-len-self.false, c.len.ensures.len)) (word_added keys c.insert.new.self.keys word missed c.in_ok-insert.ensures.keys)

pub returns-clause-ok : goal.returns-clause-ok
returns-clause-ok g c =
    let keys = c.self.inside.words.keys in
    let word = c.args.word in
    let missed : list_any (pointwise nat_eq word) keys ≡ false = sym c.contains.ensures ∙ c.if-contains.false in
    let longer = word_added keys c.insert.new.self.keys word missed c.in_ok-insert.ensures.keys in
    let P : KeptDifferences → Type 0 = λ kept. KeepsOne kept.most word c.args.place kept.words c.insert.new.self.keys Grew in
    subst P c.self.view_is (one_added (lacks_word keys word missed) (omega (arith, c.if-len-self.false, c.len.ensures.len)) longer)
