use Rattle.std.proofs.Common.{◌≡◌, ℕ, List, Err, length, map, refl, sym, ap, ◌∙◌, subst}
use Rattle.std.proofs.lemmas.List.{length-map}
use Rattle.std.proofs.lemmas.Result.{err_from_is_err_and}
use Rattle.kb_fsa.specs.Language.{Automaton, generators}
use Rattle.kb_explore.specs.declared.det.Det.TheVariants.{TooManyStates}
use Rattle.kb_explore.specs.Exploration.{IsExploration}
use Rattle.kb_fsa.specs.declared.alphabet.Alphabet.TheVariants.{Pair}
use Rattle.kb_diff.specs.Tables.{step_in}
use Rattle.kb_diffwa.specs.declared.place.Place.{Place}
use Rattle.kb_diffwa.specs.Pairs.{pairs}
use Rattle.kb_diffwa.proofs.Multiplying.{made_automaton, made_counts}
use Rattle.kb_diffwa.proofs.AllGenerators.{has_multipliers}
use Rattle.kb_diffwa.proofs.multiplication.multipliers.Goals as goal

pub returns-in_err-exploration-clause-many : goal.returns-in_err-exploration-clause-many
returns-in_err-exploration-clause-many g c =
    let n = c.generators-n.ensures ∙ ap generators (c.alphabet.ensures.alphabet ∙ c.requires.alphabet) in
    let kept = c.len-kept.ensures.kept in
    let p = err_from_is_err_and c.from_residual-in_err-exploration.result c.from_residual-in_err-exploration.ensures.1 in
    λ most e.
    let same : c.in_err-exploration.field-0.0 ≡ TooManyStates most = cc in
    let more = c.in_err-exploration.ensures.many most (ap (λ d. Err d) same) in (
      more.0,
      (made_counts n c.requires.alphabet c.alphabet.ensures.automaton c.requires.steps kept.apart kept.first c.as_slice.result.now c.args.limit).0
          more.1,
    )

pub returns-clause-few : goal.returns-clause-few
returns-clause-few g c =
    let n = c.generators-n.ensures ∙ ap generators (c.alphabet.ensures.alphabet ∙ c.requires.alphabet) in
    let kept = c.len-kept.ensures.kept in
    λ _ more.
    c.in_ok-exploration.ensures.few refl
    ((made_counts n c.requires.alphabet c.alphabet.ensures.automaton c.requires.steps kept.apart kept.first c.as_slice.result.now c.args.limit).1
    more)

pub new-automaton-requires : goal.new-automaton-requires
new-automaton-requires g c =
    let n = c.generators-n.ensures ∙ ap generators (c.alphabet.ensures.alphabet ∙ c.requires.alphabet) in
    let kept = c.len-kept.ensures.kept in
    made_automaton n c.requires.alphabet c.alphabet.ensures.automaton c.requires.steps kept.apart kept.first c.as_slice.result.now
    c.in_ok-exploration.ensures.explored c.in_ok-exploration.ensures.symbols

pub new-requires : goal.new-requires
new-requires g c =
    let explored = c.in_ok-exploration.ensures.explored in
    ap length c.in_ok-labels.ensures ∙ length-map c.as_slice-2.result.now (λ (place : Place). place.difference)
    ∙ ap length c.as_slice-2.ensures.keys ∙ explored.one_state_each ∙ sym (ap (λ (fsa : Automaton). length fsa.table.rows) c.new-automaton.ensures)

pub returns-clause-multipliers : goal.returns-clause-multipliers
returns-clause-multipliers g c =
    let n = c.generators-n.ensures ∙ ap generators (c.alphabet.ensures.alphabet ∙ c.requires.alphabet) in
    let kept = c.len-kept.ensures.kept in
    let made = c.in_ok-exploration.exploration in
    let labels = c.in_ok-labels.labels.items in
    let E : List ℕ → Type 0 = λ targets.
    IsExploration (pairs c.args.acceptor.now.table c.generators-n.result (step_in c.args.machine.now) targets) made.table made.states.keys
    made.origins.items in
    let is = c.new.ensures
    ∙ ap (λ (fsa : Automaton). record { automaton = fsa; labels = labels }) c.new-automaton.ensures
    ∙ ap (λ (l : List ℕ). record {
      automaton = record { alphabet = Pair c.generators-n.result; table = made.table };
      labels = l;
    }) (c.in_ok-labels.ensures ∙ ap (map (λ (place : Place). place.difference)) c.as_slice-2.ensures.keys) in
    has_multipliers n c.requires.alphabet c.alphabet.ensures.automaton c.requires.steps kept.apart kept.first c.in_ok-targets.targets.items
    c.in_ok-targets.ensures (subst E c.as_slice.ensures.value c.in_ok-exploration.ensures.explored) c.new.result is
