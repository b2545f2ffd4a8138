use Rattle.std.proofs.Common.{◌≡◌, ℕ, Err, [], refl, sym, ap, subst, arith}
use Rattle.std.proofs.lemmas.Option.{slice_get_within}
use Rattle.std.proofs.lemmas.Result.{err_from_is_err_and}
use Rattle.kb_fsa.specs.Language.{Automaton}
use Rattle.kb_explore.specs.declared.det.Det.TheVariants.{TooManyStates}
use Rattle.kb_explore.proofs.ExplorationLemmas.{are_reached}
use Rattle.kb_diff.specs.Languages.{IsDifferenceAcceptor}
use Rattle.kb_diff.specs.Tables.{step_in}
use Rattle.kb_diffwa.specs.RivalMoves.{StepsWithin}
use Rattle.kb_diffwa.proofs.Acceptance.{made_acceptor, made_automaton, made_counts}
use Rattle.kb_diffwa.proofs.RivalWords.{steps_within}
use Rattle.kb_diffwa.proofs.StepPairs.{within_letters}
use Rattle.kb_diffwa.proofs.avoiding_rivals.acceptor.Goals as goal

pub invariant_of-sets : goal.invariant_of-sets
invariant_of-sets g c =
    let given = c.args.differences.now in
    let step = step_in c.args.machine.now in
    let count = c.len-count.ensures.count in
    let letters = c.in_ok-letters.ensures in
    let P : ℕ → Type 0 = λ count. StepsWithin count step in
    let within = subst P (sym count) (steps_within given.group given.words step c.requires.steps) in
    let some = slice_get_within given.words 0 [] c.len-count.ensures.kept.first in record {
      generators = c.generators-n.ensures.most;
      some = omega arith;
      one_each = letters.one_each;
      within = within_letters c.generators-n.result step c.len-count.result c.in_ok-letters.letters.items within letters;
    }

pub returns-in_err-exploration-clause-many : goal.returns-in_err-exploration-clause-many
returns-in_err-exploration-clause-many g c =
    let kept = c.len-count.ensures.kept in
    let p = err_from_is_err_and c.from_residual-in_err-exploration.result c.from_residual-in_err-exploration.ensures.1 in
    λ most e.
    let same : c.in_err-exploration.field-0.0 ≡ TooManyStates most = cc in
    let more = c.in_err-exploration.ensures.many most (ap (λ d. Err d) same) in (
      more.0,
      (made_counts c.generators-n.ensures.count c.len-count.ensures.count c.requires.steps kept.first kept.apart
          c.requires.order c.in_ok-letters.ensures c.args.limit).0
          more.1,
    )

pub new-requires : goal.new-requires
new-requires g c =
    let kept = c.len-count.ensures.kept in
    made_automaton c.generators-n.ensures.count c.len-count.ensures.count c.requires.steps kept.first kept.apart
    c.requires.order c.in_ok-letters.ensures c.in_ok-exploration.ensures.explored c.generators-n.ensures.most
    c.in_ok-exploration.ensures.symbols

pub returns-clause-language : goal.returns-clause-language
returns-clause-language g c =
    let given = c.args.differences.now in
    let kept = c.len-count.ensures.kept in
    let P : Automaton → Type 0 = IsDifferenceAcceptor given.group given.words in
    subst P (sym c.new.ensures)
    (made_acceptor c.generators-n.ensures.count c.len-count.ensures.count c.requires.steps kept.first kept.apart
    c.requires.order c.in_ok-letters.ensures c.in_ok-exploration.ensures.explored)

pub returns-clause-reached : goal.returns-clause-reached
returns-clause-reached g c =
    let reached = are_reached c.in_ok-exploration.ensures.explored in
    rw c.new.ensures reached

pub returns-clause-few : goal.returns-clause-few
returns-clause-few g c =
    let kept = c.len-count.ensures.kept in
    λ made counted.
    c.in_ok-exploration.ensures.few refl
    ((made_counts c.generators-n.ensures.count c.len-count.ensures.count c.requires.steps kept.first kept.apart
    c.requires.order c.in_ok-letters.ensures c.args.limit).1
    counted)
