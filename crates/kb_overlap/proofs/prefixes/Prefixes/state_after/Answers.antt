use Rattle.std.proofs.Common.{◌≡◌, ℕ, ◌+◌, ◌<◌, List, [], ◌∷◌, ◌++◌, get_or, take, drop, length, refl, sym, ◌∙◌, subst, arith}
use Rattle.std.proofs.lemmas.List.{get_or_read, take-append-drop}
use Rattle.kb_word.specs.Words.{Pair, OneOf}
use Rattle.kb_word.specs.Rewriting.{IsIrreducible}
use Rattle.kb_rules.proofs.Endings.{irreducible_more, irreducible_front}
use Rattle.kb_trie.specs.States.{word}
use Rattle.kb_trie.proofs.Longest.{longest_nil}
use Rattle.kb_index.specs.Automata.{StandsFor}
use Rattle.kb_overlap.proofs.Suffixed.{none_of_state, nothing_irreducible, read_more, stands_step}
use Rattle.kb_overlap.proofs.Reached.{none_in_irreducible}
use Rattle.kb_overlap.proofs.prefixes.Prefixes.state_after.Goals as goal

pub loop-letter-init : goal.loop-letter-init
loop-letter-init c =
    let known = c.requires.states in
    record {
      stands = record { within = known.are.some; longest = longest_nil c.args.self.now.automaton.now.words known.are };
      irreducible = nothing_irreducible known;
    }

pub loop-letter-preserved : goal.loop-letter-preserved
loop-letter-preserved c =
    let prefixes = c.args.self.now in
    let rules : List Pair = prefixes.rules.now in
    let words : List (List ℕ) = prefixes.automaton.now.words in
    let letters : List ℕ = c.args.letters.now in
    let i : ℕ = c.loop-letter.letter-index in
    let within : i < length letters = omega (arith, c.loop-letter-test.true) in
    let x : ℕ = c.number.result in
    let read : x ≡ get_or letters i 0 = c.number.ensures ∙ get_or_read letters i c.letter-item.result within c.letter-item.is 0 in
    let whole : take i letters ++ x ∷ [] ≡ take (i + 1) letters = read_more letters i x within read in
    let next : ℕ = c.step-state.result in
    let stands : StandsFor words (take i letters ++ x ∷ []) next =
    stands_step c.requires.states (take i letters) x c.loop-letter.state next c.loop-letter.invariant.stands c.step-state.ensures in
    let S : List ℕ → Type 0 = λ w. StandsFor words w next in
    let I : List ℕ → Type 0 = λ w. IsIrreducible (OneOf rules) w in
    record {
      stands = subst S whole stands;
      irreducible =
          subst I whole
          (irreducible_more rules (take i letters) x c.loop-letter.invariant.irreducible
          (none_of_state c.requires.states (take i letters ++ x ∷ []) next stands (c.if-is_ended.ensures.no refl)));
    }

pub returns-then-is_ended-clause-none : goal.returns-then-is_ended-clause-none
returns-then-is_ended-clause-none c =
    let prefixes = c.args.self.now in
    let rules : List Pair = prefixes.rules.now in
    let words : List (List ℕ) = prefixes.automaton.now.words in
    let letters : List ℕ = c.args.letters.now in
    let i : ℕ = c.loop-letter.letter-index in
    let within : i < length letters = omega (arith, c.loop-letter-test.true) in
    let x : ℕ = c.number.result in
    let read : x ≡ get_or letters i 0 = c.number.ensures ∙ get_or_read letters i c.letter-item.result within c.letter-item.is 0 in
    let whole : take i letters ++ x ∷ [] ≡ take (i + 1) letters = read_more letters i x within read in
    let next : ℕ = c.step-state.result in
    let stands : StandsFor words (take i letters ++ x ∷ []) next =
    stands_step c.requires.states (take i letters) x c.loop-letter.state next c.loop-letter.invariant.stands c.step-state.ensures in
    let I : List ℕ → Type 0 = λ w. IsIrreducible (OneOf rules) w in
    λ good.
    let front : IsIrreducible (OneOf rules) (take (i + 1) letters) =
    irreducible_front rules (take (i + 1) letters) (drop (i + 1) letters) (subst I (sym (take-append-drop (i + 1) letters)) good) in
    c.if-is_ended.ensures.yes refl
    (none_in_irreducible rules (take i letters ++ x ∷ []) (subst I (sym whole) front) (word words next) stands.longest.ends)
