use Rattle.std.proofs.Common.{List, subst, arith}
use Rattle.std.proofs.lemmas.List.{take_all}
use Rattle.std.proofs.lemmas.Result.{err_from_is_err_and}
use Rattle.kb_word.specs.Presentations.{parts_of}
use Rattle.kb_record.specs.Tree.{Factors}
use Rattle.kb_record.specs.View.{value_view}
use Rattle.kb_subfile.specs.Holds.{Mean}
use Rattle.kb_subfile.proofs.WordLemmas.{mean_more, none_more, word_fault, word_here, words_counted}
use Rattle.kb_subfile.proofs.words.meanings.Goals as goal

pub place-requires : goal.place-requires
place-requires c =
    let count = words_counted (value_view c.args.value.now) c.requires.0 c.requires.2 in
    let counted = c.requires.1 in
    omega (arith, count, counted)

pub meaning_at-requires : goal.meaning_at-requires
meaning_at-requires c =
    let at = word_here (value_view c.args.value.now) c.requires.0 c.loop-place.place _ c.requires.2 c.place.ensures in
    (at.word, at.is)

pub returns-in_err-meaning_at-clause-fault : goal.returns-in_err-meaning_at-clause-fault
returns-in_err-meaning_at-clause-fault c = λ words is.
    let at = word_here (value_view c.args.value.now) words c.loop-place.place _ is c.place.ensures in
    let p = err_from_is_err_and c.from_residual-in_err-meaning_at.result c.from_residual-in_err-meaning_at.ensures.1 in
    rw (p.1, p.2) (word_fault (parts_of c.args.presentation.now) words c.loop-place.place at.word at.at (c.loop-place.invariant.none words is) _
    (c.in_err-meaning_at.ensures.fault at.word at.is))

pub loop-place-preserved : goal.loop-place-preserved
loop-place-preserved c = record {
  mean = λ words is.
      let at = word_here (value_view c.args.value.now) words c.loop-place.place _ is c.place.ensures in
      mean_more (parts_of c.args.presentation.now) words c.loop-place.place at.word at.at c.loop-place.generators.items _ c.in_ok-meaning_at.field-0
      (c.loop-place.invariant.mean words is) (c.in_ok-meaning_at.ensures.read at.word at.is) c.in_ok-push.ensures.items;
  none = λ words is.
      let at = word_here (value_view c.args.value.now) words c.loop-place.place _ is c.place.ensures in
      none_more (parts_of c.args.presentation.now) words c.loop-place.place at.word at.at c.in_ok-meaning_at.field-0
      (c.loop-place.invariant.none words is) (c.in_ok-meaning_at.ensures.read at.word at.is);
}

pub returns-clause-read : goal.returns-clause-read
returns-clause-read c = λ words is.
    let own = words_counted (value_view c.args.value.now) c.requires.0 c.requires.2 in
    let count = words_counted (value_view c.args.value.now) words is in
    let counted = c.requires.1 in
    let whole = take_all c.loop-place.place words (omega (arith, own, count, counted)) in
    let P : List Factors → Type 0 = λ ws. Mean (parts_of c.args.presentation.now) ws c.loop-place.generators.items in
    subst P whole (c.loop-place.invariant.mean words is)
