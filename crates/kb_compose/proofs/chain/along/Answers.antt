use Rattle.std.proofs.Common.{◌≡◌, ℕ, suc, ◌-◌, ◌<◌, ◌≤◌, List, [], ◌∷◌, ◌++◌, length, get_or, take, drop, Err, Some, refl, sym, ap, ◌∙◌, subst, arith}
use Rattle.std.proofs.lemmas.List.{take_all, take_more}
use Rattle.std.proofs.lemmas.Result.{err_from_is_err_and}
use Rattle.kb_word.specs.Relations.{IsOver}
use Rattle.kb_fsa.specs.declared.alphabet.Alphabet.TheVariants.{Plain, Pair}
use Rattle.kb_fsa.specs.Language.{Automaton, generators}
use Rattle.kb_explore.specs.declared.det.Det.TheVariants.{TooManyStates}
use Rattle.kb_explore.specs.Exploration.{numbered}
use Rattle.kb_fsamin.proofs.Uniqueness.{one_canonical}
use Rattle.kb_compose.specs.Along.{CountedAlong, identity_on}
use Rattle.kb_compose.proofs.Chains.{IsChain, ended, chain_more, counted_behind, few_along, chain_canonical, along_language, multiplier_at, word_split}
use Rattle.kb_compose.proofs.chain.along.Goals as goal

-- the multiplier of a letter that stands in the word
letter_multiplier : (multipliers : List Automaton) (word : List ℕ) (index x place : ℕ) (multiplier : Automaton) → IsOver (length multipliers) word
    → index < length word → x ≡ get_or word index x → place ≡ x → multiplier ≡ get_or multipliers (place - 1) multiplier
    → numbered multipliers x ≡ Some multiplier
letter_multiplier multipliers word index x place multiplier over within is same at =
    let P : ℕ → Type 0 = λ z. (0 < z) × (z ≤ length multipliers) in
    let letter = subst P (sym is) (over index x within) in
    multiplier_at multipliers x multiplier letter.0 letter.1 (at ∙ ap (λ k. get_or multipliers (k - 1) multiplier) same)

plain_alphabet : (acceptor : Automaton) (n : ℕ) → acceptor.alphabet ≡ Plain n → acceptor.alphabet ≡ Plain (generators acceptor.alphabet)
plain_alphabet acceptor n plain = plain ∙ ap (λ m. Plain m) (sym (ap generators plain))

pub loop-letter-init : goal.loop-letter-init
loop-letter-init c = record {
  chain = ended (sym c.in_ok-along.ensures.identity);
  alphabet = ap (λ (a : Automaton). a.alphabet) c.in_ok-along.ensures.identity ∙ ap (λ a. Pair (generators a)) c.requires.plain;
}

pub returns-in_err-along-2-clause-many : goal.returns-in_err-along-2-clause-many
returns-in_err-along-2-clause-many c =
    let p = err_from_is_err_and c.from_residual-in_err-along-2.result c.from_residual-in_err-along-2.ensures.1 in
    λ most e.
    let same : c.in_err-along-2.field-0.0 ≡ TooManyStates most = cc in
    let more = c.in_err-along-2.ensures.many most (ap (λ d. Err d) same) in
    let multipliers = c.args.multipliers.now in
    let start = identity_on c.args.acceptor.now in
    let items = c.letters-letter-items.result.now in
    let index = c.loop-letter.letter-index in
    let x = c.letter-item.result in
    let within = c.loop-letter-test.true in
    let over = subst (IsOver (length multipliers)) (sym c.letters-letter-items.ensures.letters) c.requires.letters in
    let is = letter_multiplier multipliers items index x c.from.result c.index-multipliers-from.result over within c.letter-item.is
    (c.from.ensures ∙ c.number.ensures) c.index-multipliers-from.is in
    let counted = counted_behind multipliers c.args.limit x (drop (suc index) items) c.loop-letter.invariant.chain is more.1 in
    let whole = ap (λ z. take index items ++ z ∷ drop (suc index) items) c.letter-item.is ∙ word_split items index x within
    ∙ c.letters-letter-items.ensures.letters in
    (more.0, subst (CountedAlong multipliers c.args.limit start) whole counted)

pub loop-letter-preserved : goal.loop-letter-preserved
loop-letter-preserved c =
    let multipliers = c.args.multipliers.now in
    let start = identity_on c.args.acceptor.now in
    let items = c.letters-letter-items.result.now in
    let index = c.loop-letter.letter-index in
    let x = c.letter-item.result in
    let within = c.loop-letter-test.true in
    let over = subst (IsOver (length multipliers)) (sym c.letters-letter-items.ensures.letters) c.requires.letters in
    let is = letter_multiplier multipliers items index x c.from.result c.index-multipliers-from.result over within c.letter-item.is
    (c.from.ensures ∙ c.number.ensures) c.index-multipliers-from.is in
    let composite = c.in_ok-along-2.ensures.composite in
    let more = chain_more multipliers c.args.limit x c.loop-letter.invariant.chain is (c.in_ok-along-2.ensures.few refl) composite in
    let passed = ap (λ z. take index items ++ z ∷ []) c.letter-item.is ∙ sym (take_more items index x within) in
    let P : List ℕ → Type 0 = λ w. IsChain multipliers c.args.limit start w c.in_ok-along-2.along in
    record { chain = subst P passed more; alphabet = composite.alphabet ∙ c.loop-letter.invariant.alphabet }

-- the chain along the whole word
whole_chain : (c : goal.After-loop-letter) → IsChain c.args.multipliers.now c.args.limit (identity_on c.args.acceptor.now) c.args.word.now c.loop-letter.along
whole_chain c =
    let items = c.letters-letter-items.result.now in
    let all = take_all c.loop-letter.letter-index items (omega (arith, c.loop-letter-test.false)) ∙ c.letters-letter-items.ensures.letters in
    let P : List ℕ → Type 0 = λ w. IsChain c.args.multipliers.now c.args.limit (identity_on c.args.acceptor.now) w c.loop-letter.along in
    subst P all c.loop-letter.invariant.chain

pub returns-clause-language : goal.returns-clause-language
returns-clause-language c =
    let acceptor = c.args.acceptor.now in
    let plain = plain_alphabet acceptor (length c.args.multipliers.now) c.requires.plain in
    let alphabet = c.loop-letter.invariant.alphabet ∙ ap (λ m. Pair m) (sym (ap generators c.requires.plain)) in
    along_language c.args.multipliers.now c.args.limit acceptor c.loop-letter.along c.args.word.now plain c.in_ok-along.ensures.automaton alphabet
    (whole_chain c)

pub returns-clause-canonical : goal.returns-clause-canonical
returns-clause-canonical c = λ some. chain_canonical c.args.multipliers.now c.args.limit (whole_chain c) some

pub returns-clause-few : goal.returns-clause-few
returns-clause-few c = λ _ counted.
    few_along c.args.multipliers.now c.args.limit (generators c.args.acceptor.now.alphabet) one_canonical refl (whole_chain c) counted
