use Rattle.std.proofs.Common.{◌≡◌, ℕ, List, Err, ap, refl}
use Rattle.std.proofs.lemmas.Result.{err_from_is_err_and}
use Rattle.kb_explore.specs.declared.det.Det.TheVariants.{TooManyStates}
use Rattle.kb_explore.proofs.ExplorationLemmas.{are_reached}
use Rattle.kb_fsadet.specs.Avoidance.{LeadsAvoiding, avoiding}
use Rattle.kb_fsadet.proofs.ExactSets.{more_sets, more_states, explored_automaton}
use Rattle.kb_fsadet.proofs.Avoided.{exactly, same_texts}
use Rattle.kb_fsadet.proofs.avoidance.avoiding.Goals as goal

pub returns-in_err-exploration-clause-many : goal.returns-in_err-exploration-clause-many
returns-in_err-exploration-clause-many c =
    let nfa = c.args.nfa.now in
    let p = err_from_is_err_and c.from_residual.result c.from_residual.ensures.1 in
    λ most e.
    let same : c.in_err-exploration.field-0.0 ≡ TooManyStates most = cc in
    let more = c.in_err-exploration.ensures.many most (ap (λ d. Err d) same) in
    (more.0, more_sets (avoiding nfa) (LeadsAvoiding nfa) (exactly nfa) c.args.limit more.1)

pub new-requires : goal.new-requires
new-requires c =
    let nfa = c.args.nfa.now in
    let is = c.alphabet.ensures.automaton in
    let found = c.in_ok-exploration.exploration in
    let texts = λ (text : List ℕ) (state : ℕ) (among : LeadsAvoiding nfa text state). is.texts text state among.leads in
    rw c.alphabet.ensures.alphabet (explored_automaton (avoiding nfa) (LeadsAvoiding nfa) (exactly nfa)
    found.table found.states.keys found.origins.items c.in_ok-exploration.ensures.explored
    nfa.alphabet is.generators c.in_ok-exploration.ensures.symbols texts)

pub returns-clause-language : goal.returns-clause-language
returns-clause-language c =
    let found = c.in_ok-exploration.exploration in
    let same = same_texts c.args.nfa.now found.table found.states.keys found.origins.items
    c.in_ok-exploration.ensures.explored in
    rw c.new.ensures same

pub returns-clause-reached : goal.returns-clause-reached
returns-clause-reached c =
    let reached = are_reached c.in_ok-exploration.ensures.explored in
    rw c.new.ensures reached

pub returns-clause-few : goal.returns-clause-few
returns-clause-few c = λ _ more.
    let nfa = c.args.nfa.now in
    let many = more_states (avoiding nfa) (LeadsAvoiding nfa) (exactly nfa) c.args.limit more in
    c.in_ok-exploration.ensures.few refl many
