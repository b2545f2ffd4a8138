use Rattle.std.proofs.Common.{◌≡◌, Ok, sym, subst, ◌∙◌}
use Rattle.std.proofs.lemmas.Result.{err_from_is_err_and}
use Rattle.kb_record.specs.Tree.{Factors}
use Rattle.kb_record.specs.View.{word_view}
use Rattle.kb_record.specs.Meaning.{word_meaning}
use Rattle.kb_subfile.specs.Faults.{IsFaultOf, IsMemoryOr}
use Rattle.kb_subfile.proofs.FaultLemmas.{word_refused}
use Rattle.kb_subfile.proofs.WordLemmas.{same_word}
use Rattle.kb_subfile.proofs.words.meaning_at.Goals as goal

pub unreachable-requires : goal.unreachable-requires
unreachable-requires c = c.in_default.ensures.none c.requires.0 c.requires.1

pub returns-clause-read : goal.returns-clause-read
returns-clause-read c = λ word is.
    let same : word_view c.in-Some.word ≡ word = same_word (sym c.in-Some.ensures.found ∙ is) in
    let P : Factors → Type 0 = λ w. word_meaning c.args.presentation.now.names c.args.presentation.now.inv w ≡ Ok c.in_ok-word_of.field-0 in
    subst P same c.in_ok-word_of.ensures

pub returns-in_err-word_of-clause-fault : goal.returns-in_err-word_of-clause-fault
returns-in_err-word_of-clause-fault c = λ word is.
    let names = c.args.presentation.now.names in
    let inverses = c.args.presentation.now.inv in
    let same : word_view c.in-Some.word ≡ word = same_word (sym c.in-Some.ensures.found ∙ is) in
    let p = err_from_is_err_and c.from_residual.result c.from_residual.ensures.1 in
    let P : Factors → Type 0 = λ w. IsMemoryOr (IsFaultOf (word_meaning names inverses w)) p.0 in
    rw p.1 (subst P same (word_refused (word_meaning names inverses (word_view c.in-Some.word)) _ p.0 c.in_err-word_of.ensures p.2))
