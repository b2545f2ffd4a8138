-- A presentation has one completion.
use Rattle.std.proofs.Common.{◌≡◌, ◌∙◌, List, sym, subst}
use Rattle.kb_word.specs.Words.{Pair}
use Rattle.kb_word.specs.Presentations.{PresentationParts}
use Rattle.kb_word.specs.WordOrderLaws.{word_orders}
use Rattle.kb_fsa.specs.Language.{Automaton}
use Rattle.kb_fsamin.proofs.Uniqueness.{one_canonical}
use Rattle.kb_machine.specs.declared.line.Line.{Line}
use Rattle.kb_reduced.proofs.Sorted.{sorted_same}
use Rattle.kb_wa.specs.Prefixes.{CountedPrefixes}
use Rattle.kb_system.specs.Completed.{IsCompletion, IsReducedSystem, below}
use Rattle.kb_system.specs.Ended.{IsCompletionWithin}
use Rattle.kb_system.specs.Evidence.{Limits, IsTooLarge}

-- it has one reduced complete system
pub one_system : (parts : PresentationParts) (rules others : List Pair) → IsReducedSystem parts rules
    → IsReducedSystem parts others → rules ≡ others
one_system parts rules others one other =
    let laws = word_orders parts.order in
    sorted_same (λ (p q : Pair). below parts p.0 q.0) (λ x. laws.irreflexive x.0)
    (λ x y z. laws.transitive x.0 y.0 z.0) rules others one.sorted other.sorted
    (λ rule is. other.all rule (one.each rule is)) (λ rule is. one.all rule (other.each rule is))

module _ (parts : PresentationParts) {rules others : List Pair} {acceptor other : Automaton}
    (one : IsCompletion parts rules acceptor) (also : IsCompletion parts others other) where
  -- so its completions have the same rules
  pub one_rules : rules ≡ others
  one_rules = one_system parts rules others one.reduced also.reduced

  -- and the same word acceptor
  pub one_acceptor : acceptor ≡ other
  one_acceptor =
      one_canonical acceptor other one.acceptor.automaton also.acceptor.automaton
      (one.acceptor.alphabet ∙ sym also.acceptor.alphabet)
      one.acceptor.canonical also.acceptor.canonical
      (λ w. (
        λ accepts. (also.acceptor.language w).1 ((one.acceptor.language w).0 accepts),
        λ accepts. (one.acceptor.language w).1 ((also.acceptor.language w).0 accepts),
      ))

-- Where it is completed within limits, its word acceptor isn't too large for them: the rules are the same, and either
-- more of their words are counted than there may be states, or not.
pub never_both : (limits : Limits) (parts : PresentationParts) {rules others : List Pair}
    {acceptor : Automaton} {lines : List Line} → IsCompletionWithin limits parts rules acceptor
    → ¬ IsTooLarge limits parts lines others
never_both limits parts {rules} {others} one large =
    let Few : List Pair → Type 0 = λ list. ¬ CountedPrefixes list limits.states in
    subst Few (one_system parts rules others one.completion.reduced large.reduced) one.few
    large.counted
