use Rattle.std.proofs.Common.{Some, true≢false, sym, ap, ◌∙◌, arith}
use Rattle.kb_word.specs.Presentations.{parts_of}
use Rattle.kb_record.specs.View.{value_view}
use Rattle.kb_fields.proofs.Outcomes.{IfErr_then, IfOk_then}
use Rattle.kb_subfile.specs.Holds.{AreFew}
use Rattle.kb_subfile.proofs.FaultLemmas.{kind_fault, many_fault, words_fault}
use Rattle.kb_subfile.proofs.WordLemmas.{all_over}
use Rattle.kb_subfile.proofs.reader.generators_in.Goals as goal

pub returns-in_default-clause-fault : goal.returns-in_default-clause-fault
returns-in_default-clause-fault c = λ given is free.
    kind_fault (parts_of c.args.presentation.now) given (value_view c.args.value.now) is c.in_default.ensures.other free

pub returns-then-not-are_few-clause-fault : goal.returns-then-not-are_few-clause-fault
returns-then-not-are_few-clause-fault c = λ given is free.
    let words = c.in-Some.ensures.listed.0 in
    let counted = c.in-Some.ensures.listed.1 in
    many_fault (parts_of c.args.presentation.now) given words (is ∙ ap Some c.in-Some.ensures.listed.2) free
    (λ few. true≢false (sym (c.are_few.ensures.1 (omega (arith, few, counted))) ∙ c.if-not-are_few.true))

pub returns-clause-read : goal.returns-clause-read
returns-clause-read c =
    let words = c.in-Some.ensures.listed.0 in
    let enough = c.are_few.ensures.0 c.if-not-are_few.false in
    let counted = c.in-Some.ensures.listed.1 in
    let few : AreFew (parts_of c.args.presentation.now) words = omega (arith, enough, counted) in
    IfOk_then c.meanings.result (c.meanings.ensures.read words c.in-Some.ensures.listed.2) (λ generators mean. record {
      words = words;
      listed = c.in-Some.ensures.listed.2;
      few = few;
      mean = mean;
    })

pub returns-clause-letters : goal.returns-clause-letters
returns-clause-letters c =
    let parts = parts_of c.args.presentation.now in
    let given = c.args.presentation.now.is_presentation in
    let words = c.in-Some.ensures.listed.0 in
    IfOk_then c.meanings.result (c.meanings.ensures.read words c.in-Some.ensures.listed.2) (λ generators mean.
    all_over parts given.mutual_inverses (given.one_inverse_each ∙ sym given.one_name_each) words generators.items mean)

pub returns-clause-fault : goal.returns-clause-fault
returns-clause-fault c = λ given is.
    let words = c.in-Some.ensures.listed.0 in
    let enough = c.are_few.ensures.0 c.if-not-are_few.false in
    let counted = c.in-Some.ensures.listed.1 in
    let few : AreFew (parts_of c.args.presentation.now) words = omega (arith, enough, counted) in
    IfErr_then c.meanings.result (c.meanings.ensures.fault words c.in-Some.ensures.listed.2) (λ error fault free.
    words_fault (parts_of c.args.presentation.now) given words (is ∙ ap Some c.in-Some.ensures.listed.2) free few error fault)
