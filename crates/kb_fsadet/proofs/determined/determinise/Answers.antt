use Rattle.std.proofs.Common.{◌≡◌, Err, ap, refl}
use Rattle.std.proofs.lemmas.Result.{err_from_is_err_and}
use Rattle.kb_explore.specs.declared.det.Det.TheVariants.{TooManyStates}
use Rattle.kb_explore.proofs.ExplorationLemmas.{are_reached}
use Rattle.kb_fsadet.specs.Nondeterministic.{LeadsSomehow}
use Rattle.kb_fsadet.specs.SubsetConstruction.{subsets}
use Rattle.kb_fsadet.proofs.ExactSets.{more_sets, more_states, some_state, same_sets, explored_automaton}
use Rattle.kb_fsadet.proofs.Determinised.{exactly, same_texts}
use Rattle.kb_fsadet.proofs.determined.determinise.Goals as goal

pub returns-in_err-exploration-clause-many : goal.returns-in_err-exploration-clause-many
returns-in_err-exploration-clause-many c =
    let nfa = c.args.nfa.now in
    let p = err_from_is_err_and c.from_residual.result c.from_residual.ensures.1 in
    λ most e.
    let same : c.in_err-exploration.field-0.0 ≡ TooManyStates most = cc in
    let more = c.in_err-exploration.ensures.many most (ap (λ d. Err d) same) in
    (more.0, more_sets (subsets nfa) (LeadsSomehow nfa) (exactly nfa) c.args.limit more.1)

pub new-requires : goal.new-requires
new-requires c =
    let nfa = c.args.nfa.now in
    let is = c.alphabet.ensures.automaton in
    let found = c.in_ok-exploration.exploration in
    rw c.alphabet.ensures.alphabet (explored_automaton (subsets nfa) (LeadsSomehow nfa) (exactly nfa)
    found.table found.states.keys found.origins.items c.in_ok-exploration.ensures.explored
    nfa.alphabet is.generators c.in_ok-exploration.ensures.symbols is.texts)

pub returns-clause-language : goal.returns-clause-language
returns-clause-language c =
    let found = c.in_ok-exploration.exploration in
    let same = same_texts c.args.nfa.now found.table found.states.keys found.origins.items
    c.in_ok-exploration.ensures.explored in
    rw c.new.ensures same

pub returns-clause-leads : goal.returns-clause-leads
returns-clause-leads c =
    let nfa = c.args.nfa.now in
    let found = c.in_ok-exploration.exploration in
    let some = some_state (subsets nfa) (LeadsSomehow nfa) (exactly nfa)
    found.table found.states.keys found.origins.items c.in_ok-exploration.ensures.explored in
    rw c.new.ensures some

pub returns-clause-sets : goal.returns-clause-sets
returns-clause-sets c =
    let nfa = c.args.nfa.now in
    let found = c.in_ok-exploration.exploration in
    let same = same_sets (subsets nfa) (LeadsSomehow nfa) (exactly nfa)
    found.table found.states.keys found.origins.items c.in_ok-exploration.ensures.explored in
    rw c.new.ensures same

pub returns-clause-reached : goal.returns-clause-reached
returns-clause-reached c =
    let reached = are_reached c.in_ok-exploration.ensures.explored in
    rw c.new.ensures reached

pub returns-clause-few : goal.returns-clause-few
returns-clause-few c = λ _ more.
    let nfa = c.args.nfa.now in
    let many = more_states (subsets nfa) (LeadsSomehow nfa) (exactly nfa) c.args.limit more in
    c.in_ok-exploration.ensures.few refl many
