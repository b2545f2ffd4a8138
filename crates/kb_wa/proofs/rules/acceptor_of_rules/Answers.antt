use Rattle.std.proofs.Common.{◌≡◌, Err, refl, sym, ap}
use Rattle.std.proofs.lemmas.Result.{err_from_is_err_and}
use Rattle.kb_explore.specs.declared.det.Det.TheVariants.{TooManyStates}
use Rattle.kb_explore.proofs.ExplorationLemmas.{are_reached}
use Rattle.kb_wa.specs.Dictionary.{LeftSides}
use Rattle.kb_wa.proofs.Reading.{dictionary_of, lefts_of}
use Rattle.kb_wa.proofs.Counting.{prefixes_from_states, states_from_prefixes}
use Rattle.kb_wa.proofs.Accepting.{is_acceptor, language}
use Rattle.kb_wa.proofs.rules.acceptor_of_rules.Goals as goal

pub returns-in_err-exploration-clause-many : goal.returns-in_err-exploration-clause-many
returns-in_err-exploration-clause-many c =
    let lefts = lefts_of c.args.rules.now.order c.args.rules.now.rules c.as_slice.ensures.decreasing in
    let given = dictionary_of c.as_slice.ensures.rules lefts c.in_ok-trie.ensures c.requires.letters c.requires.apart
    c.new-dictionary.ensures in
    let p = err_from_is_err_and c.from_residual-in_err-exploration.result c.from_residual-in_err-exploration.ensures.1 in
    λ most e.
    let same : c.in_err-exploration.field-0.0 ≡ TooManyStates most = cc in
    let more = c.in_err-exploration.ensures.many most (ap (λ d. Err d) same) in
    (more.0, prefixes_from_states given c.args.limit more.1)

pub new-requires : goal.new-requires
new-requires c =
    let lefts = lefts_of c.args.rules.now.order c.args.rules.now.rules c.as_slice.ensures.decreasing in
    let given = dictionary_of c.as_slice.ensures.rules lefts c.in_ok-trie.ensures c.requires.letters c.requires.apart
    c.new-dictionary.ensures in
    let n : c.new-dictionary.result.n ≡ c.args.n = ap (λ (sides : LeftSides). sides.n) c.new-dictionary.ensures in
    let made = is_acceptor given c.in_ok-exploration.ensures.explored (rw n c.requires.generators) c.in_ok-exploration.ensures.symbols in
    rw (sym n) made

pub returns-clause-language : goal.returns-clause-language
returns-clause-language c =
    let lefts = lefts_of c.args.rules.now.order c.args.rules.now.rules c.as_slice.ensures.decreasing in
    let given = dictionary_of c.as_slice.ensures.rules lefts c.in_ok-trie.ensures c.requires.letters c.requires.apart
    c.new-dictionary.ensures in
    let n : c.new-dictionary.result.n ≡ c.args.n = ap (λ (sides : LeftSides). sides.n) c.new-dictionary.ensures in
    let same = language given c.in_ok-exploration.ensures.explored in
    rw (c.new.ensures, sym n) same

pub returns-clause-reached : goal.returns-clause-reached
returns-clause-reached c = let reached = are_reached c.in_ok-exploration.ensures.explored in rw c.new.ensures reached

pub returns-clause-few : goal.returns-clause-few
returns-clause-few c =
    let lefts = lefts_of c.args.rules.now.order c.args.rules.now.rules c.as_slice.ensures.decreasing in
    let given = dictionary_of c.as_slice.ensures.rules lefts c.in_ok-trie.ensures c.requires.letters c.requires.apart
    c.new-dictionary.ensures in
    λ _ more. c.in_ok-exploration.ensures.few refl (states_from_prefixes given c.args.limit more)
