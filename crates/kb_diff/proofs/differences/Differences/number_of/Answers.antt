use Rattle.std.proofs.Common.{◌≡◌, ◌+◌, false, nat_eq, sym, ap, ◌∙◌, subst, is_some, arith}
use Rattle.std.specs.Cmp.Lexicographic.{pointwise}
use Rattle.std.specs.List.{list_any}
use Rattle.kb_diff.specs.Kept.{KeptDifferences}
use Rattle.kb_diff.specs.Tables.{IsNumberOf, not_kept}
use Rattle.kb_diff.proofs.Inserting.{found_number, index_fits, lacks_word}
use Rattle.kb_diff.proofs.differences.Differences.number_of.Goals as goal

pub overflow_cast-result : goal.overflow_cast-result
overflow_cast-result g c =
    let fits = index_fits c.self.inside.words.keys c.args.word.now c.in-Some.index c.self.inside.most (sym c.get_index_of.ensures.index ∙ c.in-Some.is)
    c.self.invariant.within in
    let limit = c.self.invariant.limit in omega arith

pub overflow_add-result : goal.overflow_add-result
overflow_add-result g c =
    let fits = index_fits c.self.inside.words.keys c.args.word.now c.in-Some.index c.self.inside.most (sym c.get_index_of.ensures.index ∙ c.in-Some.is)
    c.self.invariant.within in
    let limit = c.self.invariant.limit in omega arith

pub returns-in-Some : goal.returns-in-Some
returns-in-Some g c =
    let P : KeptDifferences → Type 0 = λ kept. IsNumberOf kept.words c.args.word.now (c.in-Some.index + 1) in
    subst P c.self.view_is
    (found_number c.self.inside.words.keys c.args.word.now c.in-Some.index (sym c.get_index_of.ensures.index ∙ c.in-Some.is))

pub returns-in-None : goal.returns-in-None
returns-in-None g c =
    let P : KeptDifferences → Type 0 = λ kept. IsNumberOf kept.words c.args.word.now 0 in
    let missed : list_any (pointwise nat_eq c.args.word.now) c.self.inside.words.keys ≡ false = sym c.get_index_of.ensures.found ∙ ap is_some c.in-None.is in
    subst P c.self.view_is (not_kept (lacks_word c.self.inside.words.keys c.args.word.now missed))
