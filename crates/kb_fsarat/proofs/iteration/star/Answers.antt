use Rattle.std.proofs.Common.{◌≡◌, Err, sym, ap, ◌∙◌, subst, arith}
use Rattle.std.proofs.lemmas.Bool.{false≢true}
use Rattle.std.proofs.lemmas.Result.{err_from_is_err_and}
use Rattle.kb_fsa.specs.Language.{IsAutomaton}
use Rattle.kb_explore.specs.declared.det.Det.TheVariants.{TooManyStates}
use Rattle.kb_fsarat.proofs.CountedStars.{counted_sets, counted_with_none, few_with_none, few_without_none}
use Rattle.kb_fsarat.proofs.iteration.star.Goals as goal
use Rattle.kb_fsarat.proofs.iteration.star.Goals.{else-len-limit-via-then-len-limit+else-lacks_move, else-len-limit-via-else-len-limit}

pub returns-in_err-answer-clause-many : goal.returns-in_err-answer-clause-many
returns-in_err-answer-clause-many c =
    let p = err_from_is_err_and c.from_residual-in_err-answer.result c.from_residual-in_err-answer.ensures.1 in
    λ most e.
    let same : c.in_err-answer.field-0.0 ≡ TooManyStates most = cc in
    let more = c.in_err-answer.ensures.many most (ap (λ d. Err d) same) in
    (more.0, counted_sets c.args.one.now c.in_ok-products.products c.in_ok-products.ensures.sets c.args.limit more.1)

pub returns-then-lacks_move-clause-many : goal.returns-then-lacks_move-clause-many
returns-then-lacks_move-clause-many c = λ most e.
    let one = c.args.one.now in
    let nfa = c.in_ok-products.products in
    let answer = c.in_ok-answer.answer in
    let is = c.in_ok-answer.ensures in
    let automaton = subst IsAutomaton c.answer.view_is c.answer.invariant in
    let high = c.if-len-limit.true in
    let count = c.len.ensures in
    let many = counted_with_none one nfa c.in_ok-products.ensures.sets answer automaton (is.alphabet ∙ c.in_ok-products.ensures.alphabet)
    c.requires.plain.0 c.requires.plain.1 is.leads is.sets is.reached c.args.limit (omega arith)
    (c.lacks_move.ensures.0 c.if-lacks_move.true) in
    (cc, many)

pub returns-clause-language : goal.returns-clause-language
returns-clause-language c word =
    let same = c.in_ok-answer.ensures.language word in
    let products = c.in_ok-products.ensures.sets.language word in
    (λ accepts. products.0 (same.0 accepts), λ product. same.1 (products.1 product))

pub returns-clause-few : goal.returns-clause-few
returns-clause-few c ok =
    let one = c.args.one.now in
    let nfa = c.in_ok-products.products in
    let answer = c.in_ok-answer.answer in
    let is = c.in_ok-answer.ensures in
    let alphabet = is.alphabet ∙ c.in_ok-products.ensures.alphabet in
    let n = c.requires.plain.0 in
    let plain = c.requires.plain.1 in
    let automaton = subst IsAutomaton c.answer.view_is c.answer.invariant in
    let count = c.len.ensures in
    elim c.else-len-limit.branch [
      | else-len-limit-via-then-len-limit+else-lacks_move w ↦
          few_without_none one nfa c.in_ok-products.ensures.sets answer automaton alphabet n plain is.leads is.sets is.reached c.args.limit
          (λ lacks. false≢true (sym w.if-lacks_move.false ∙ w.lacks_move.ensures.1 lacks)) (is.few ok)
      | else-len-limit-via-else-len-limit w ↦
          let low = w.if-len-limit.false in
          few_with_none one nfa c.in_ok-products.ensures.sets answer automaton alphabet n plain is.leads is.sets is.reached c.args.limit (omega arith)
    ]
