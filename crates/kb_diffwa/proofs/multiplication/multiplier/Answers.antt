use Rattle.std.proofs.Common.{◌≡◌, [], ◌∷◌, Err, refl, sym, ap, ◌∙◌, subst}
use Rattle.std.proofs.lemmas.Result.{err_from_is_err_and}
use Rattle.kb_fsa.specs.Language.{Automaton, generators}
use Rattle.kb_explore.specs.declared.det.Det.TheVariants.{TooManyStates}
use Rattle.kb_diffwa.specs.Multipliers.{IsMultiplier}
use Rattle.kb_diffwa.proofs.Multiplying.{made_automaton, made_counts}
use Rattle.kb_diffwa.proofs.AllGenerators.{made_multiplier}
use Rattle.kb_diffwa.proofs.multiplication.multiplier.Goals as goal

pub returns-in_err-exploration-clause-many : goal.returns-in_err-exploration-clause-many
returns-in_err-exploration-clause-many g c =
    let n = c.generators-n.ensures ∙ ap generators (c.alphabet.ensures.alphabet ∙ c.requires.alphabet) in
    let kept = c.len-kept.ensures.kept in
    let p = err_from_is_err_and c.from_residual.result c.from_residual.ensures.1 in
    λ most e.
    let same : c.in_err-exploration.field-0.0 ≡ TooManyStates most = cc in
    let more = c.in_err-exploration.ensures.many most (ap (λ d. Err d) same) in (
      more.0,
      (made_counts n c.requires.alphabet c.alphabet.ensures.automaton c.requires.steps kept.apart kept.first (c.step-target.result ∷ []) c.args.limit).0
          more.1,
    )

pub new-requires : goal.new-requires
new-requires g c =
    let n = c.generators-n.ensures ∙ ap generators (c.alphabet.ensures.alphabet ∙ c.requires.alphabet) in
    let kept = c.len-kept.ensures.kept in
    made_automaton n c.requires.alphabet c.alphabet.ensures.automaton c.requires.steps kept.apart kept.first (c.step-target.result ∷ [])
    c.in_ok-exploration.ensures.explored c.in_ok-exploration.ensures.symbols

pub returns-clause-language : goal.returns-clause-language
returns-clause-language g c =
    let n = c.generators-n.ensures ∙ ap generators (c.alphabet.ensures.alphabet ∙ c.requires.alphabet) in
    let kept = c.len-kept.ensures.kept in
    let given = c.args.differences.now in
    let P : Automaton → Type 0 = λ fsa. IsMultiplier given.group given.words c.args.acceptor.now c.args.x fsa in
    subst P (sym c.new.ensures)
    (made_multiplier n c.requires.alphabet c.alphabet.ensures.automaton c.requires.steps kept.apart kept.first c.step-target.result c.args.x
    c.requires.positive c.requires.letter c.step-target.ensures c.in_ok-exploration.ensures.explored)

pub returns-clause-few : goal.returns-clause-few
returns-clause-few g c =
    let n = c.generators-n.ensures ∙ ap generators (c.alphabet.ensures.alphabet ∙ c.requires.alphabet) in
    let kept = c.len-kept.ensures.kept in
    λ _ more.
    c.in_ok-exploration.ensures.few refl
    ((made_counts n c.requires.alphabet c.alphabet.ensures.automaton c.requires.steps kept.apart kept.first (c.step-target.result ∷ []) c.args.limit).1
    more)
