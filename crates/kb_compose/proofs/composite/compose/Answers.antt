use Rattle.std.proofs.Common.{◌≡◌, List, Err, sym, ap, ◌∙◌, subst}
use Rattle.std.specs.List.{flat_map}
use Rattle.std.proofs.lemmas.Result.{err_from_is_err_and}
use Rattle.kb_fsa.specs.declared.alphabet.Alphabet.{Alphabet}
use Rattle.kb_fsa.specs.Language.{Automaton, IsAutomaton, generators, symbols}
use Rattle.kb_explore.specs.declared.det.Det.TheVariants.{TooManyStates}
use Rattle.kb_fsadet.specs.SubsetConstruction.{set_of}
use Rattle.kb_compose.specs.declared.place.Place.{Place}
use Rattle.kb_compose.specs.Composition.{IsComposite}
use Rattle.kb_compose.specs.Tails.{AreEnding}
use Rattle.kb_compose.specs.Progress.{HaveFewSets, HaveMoreSets}
use Rattle.kb_compose.proofs.Whole.{ending_along, places_counted, sets_counted, sets_few, composed_automaton, composed_language, symbols_along}
use Rattle.kb_compose.proofs.composite.compose.Goals as goal

pub returns-in_err-exploration-clause-many : goal.returns-in_err-exploration-clause-many
returns-in_err-exploration-clause-many c =
    let p = err_from_is_err_and c.from_residual.result c.from_residual.ensures.1 in
    λ most e.
    let same : c.in_err-exploration.field-0.0 ≡ TooManyStates most = cc in
    let more = c.in_err-exploration.ensures.many most (ap (λ d. Err d) same) in (
      more.0,
      places_counted c.args.first.now c.args.second.now c.requires.pairs c.requires.alike c.table-one.ensures.automaton
          c.table-two.ensures.automaton c.new.result c.args.limit more.1,
    )

pub returns-then-branch-clause-many : goal.returns-then-branch-clause-many
returns-then-branch-clause-many c = λ most e.
    let same : most ≡ c.args.limit = cc in
    let P : List Place → Type 0 = λ l. HaveMoreSets l c.args.limit in (
      same,
      sets_counted c.args.first.now c.args.second.now c.requires.pairs c.requires.alike c.table-one.ensures.automaton
          c.table-two.ensures.automaton _ c.in_ok-exploration.ensures.explored c.args.limit
          (subst P c.as_slice.ensures.keys (c.in_ok-have_more_sets.ensures.more c.if-branch.true)),
    )

pub returns-clause-few : goal.returns-clause-few
returns-clause-few c = λ _ counted.
    let P : List Place → Type 0 = λ l. HaveFewSets l c.args.limit in
    sets_few c.args.first.now c.args.second.now c.requires.pairs c.requires.alike c.table-one.ensures.automaton
    c.table-two.ensures.automaton _ c.in_ok-exploration.ensures.explored c.args.limit
    (subst P c.as_slice.ensures.keys (c.in_ok-have_more_sets.ensures.few c.if-branch.false)) counted

-- the pairs that end
ending : (c : goal.After-alphabet-2) → AreEnding (generators c.args.first.now.alphabet) c.args.first.now.table c.args.second.now.table
    (set_of (flat_map (λ (place : Place). place.pairs) c.in_ok-exploration.exploration.states.keys)) c.in_ok-ending_pairs.field-0
ending c =
    ending_along (c.generators.ensures ∙ ap generators c.alphabet.ensures.alphabet) c.table-one.ensures.table c.table-two.ensures.table
    (c.in_ok-pairs.ensures ∙ ap (λ l. set_of (flat_map (λ (place : Place). place.pairs) l)) c.as_slice-2.ensures.keys)
    c.in_ok-ending_pairs.ensures

pub new-requires-2 : goal.new-requires-2
new-requires-2 c =
    let first = c.args.first.now in
    let table = c.in_ok-table.table in
    let within = symbols_along (symbols first.alphabet) c.in_ok-exploration.exploration.table table c.in_ok-table.ensures.rows
    c.in_ok-exploration.ensures.symbols in
    let is = composed_automaton first c.args.second.now c.requires.pairs c.requires.alike c.table-one.ensures.automaton
    c.table-two.ensures.automaton _ c.in_ok-table.ensures.explored (ending c) within in
    let P : Alphabet → Type 0 = λ alphabet. IsAutomaton (record { alphabet = alphabet; table = table }) in
    subst P (sym c.alphabet-2.ensures.alphabet) is

pub returns-clause-language : goal.returns-clause-language
returns-clause-language c =
    let first = c.args.first.now in
    let second = c.args.second.now in
    let table = c.in_ok-table.table in
    let ends = ending_along (c.generators.ensures ∙ ap generators c.alphabet.ensures.alphabet) c.table-one.ensures.table c.table-two.ensures.table
    (c.in_ok-pairs.ensures ∙ ap (λ l. set_of (flat_map (λ (place : Place). place.pairs) l)) c.as_slice-2.ensures.keys)
    c.in_ok-ending_pairs.ensures in
    let is = composed_language first second c.requires.pairs c.requires.alike c.table-one.ensures.automaton c.table-two.ensures.automaton
    _ c.in_ok-table.ensures.explored ends in
    let P : Automaton → Type 0 = λ automaton. IsComposite first second automaton in
    let whole = c.new-2.ensures ∙ ap (λ (alphabet : Alphabet). record { alphabet = alphabet; table = table }) c.alphabet-2.ensures.alphabet in
    subst P (sym whole) is
