-- What rules show of multipliers, and what follows for automata that pass by themselves.
use Rattle.std.proofs.Common.{◌≡◌, ℕ, List, length, sym, ap, subst}
use Rattle.kb_word.specs.Words.{Pair as Sides, OneOf}
use Rattle.kb_word.specs.Congruence.{Congruent}
use Rattle.kb_word.specs.Presentations.{parts_of}
use Rattle.kb_word.specs.Relations.{IsOver, relations_of}
use Rattle.kb_word.specs.declared.presentation.Presentation.{Presentation}
use Rattle.kb_word.specs.declared.word_order.WordOrder.{WordOrder}
use Rattle.kb_word.specs.declared.word_order.WordOrder.TheVariants.{ShortLex}
use Rattle.kb_fsa.specs.Language.{Automaton, generators}
use Rattle.kb_fsa.specs.declared.alphabet.Alphabet.TheVariants.{Plain, Pair}
use Rattle.kb_machine.specs.States.{Problem, State, below, live_rules}
use Rattle.kb_machine.specs.Course.{Course, IsSound}
use Rattle.kb_machine.proofs.Relations.{relations_over}
use Rattle.kb_rules.specs.OrderedRules.{OrderedRules}
use Rattle.kb_share.proofs.LiveRules.{live_rule_is}
use Rattle.kb_complete.specs.Completing.{IsCompleted}
use Rattle.kb_reduced.specs.Reduced.{IsReducedComplete}
use Rattle.kb_structure.specs.StructureOf.{FitTogether, structure_of}
use Rattle.kb_structure.specs.Certificates.{IsTrueToGroup, PairOfDifferentElements}
use Rattle.kb_certificates.specs.First.{IsFirstPair}
use Rattle.kb_labels.specs.Labels.{AreEqualSides}
use Rattle.kb_relations.specs.Acts.{AreOver}
use Rattle.kb_axioms.specs.Answered.{checked_in}
use Rattle.kb_axioms.specs.Checked.{own_structure}
use Rattle.kb_axioms.specs.Truth.{AreMultipliers, IsFirstDifferent}
use Rattle.kb_system.specs.Completed.{IsReducedSystem}
use Rattle.kb_system.specs.Evidence.{Limits}
use Rattle.kb_system.specs.Problems.{problem_of}
use Rattle.kb_auto.specs.Rounds.{AreTrue}

-- ---- the rules of a completion

-- the relations of a completion of the presentation
pub given_relations : (limits : Limits) (presentation : Presentation) (problem : Problem)
    → problem ≡ problem_of limits (parts_of presentation) → problem.relations ≡ relations_of presentation.inv presentation.eqs
given_relations limits presentation problem same = ap (λ (p : Problem). p.relations) same

-- both sides of each live rule are congruent by the relations
pub live_sides_are_equal : (problem : Problem) (state : State) (relations : List Sides) → IsSound problem state
    → problem.relations ≡ relations → AreEqualSides relations (live_rules state)
live_sides_are_equal problem state relations sound same rule one =
    let P : List Sides → Type 0 = λ r. Congruent (OneOf r) rule.0 rule.1 in
    subst P same (sound.congruence.rules_hold rule (live_rule_is problem state rule sound one))

-- the rules of a completion at its end are the presentation's reduced complete system
pub is_reduced_system : (limits : Limits) (presentation : Presentation) (course : Course) (rules : OrderedRules)
    → course.problem ≡ problem_of limits (parts_of presentation) → IsCompleted course rules
    → IsReducedSystem (parts_of presentation) rules.rules
is_reduced_system limits presentation course rules same completed =
    let P : Problem → Type 0 = λ p. IsReducedComplete (below p) p.relations rules.rules in
    subst P same completed.reduced

-- ---- automata that pass by themselves

module _ (presentation : Presentation) (acceptor : Automaton) (multipliers : List Automaton)
    (words : acceptor.alphabet ≡ Plain presentation.n) where
  -- they are over the presentation's generators
  pub same_generators : generators acceptor.alphabet ≡ presentation.n
  same_generators = ap generators words

  pub relations_are_over : AreOver acceptor (relations_of presentation.inv presentation.eqs)
  relations_are_over relation one =
      let N : ℕ → Type 0 = λ n. IsOver n relation.0 × IsOver n relation.1 in
      subst N (sym same_generators) (relations_over presentation.is_presentation relation one)

  pub they_fit : AreMultipliers presentation.n multipliers → FitTogether acceptor multipliers
  they_fit are = record {
    words = subst (λ (n : ℕ). acceptor.alphabet ≡ Plain n) (sym same_generators) words;
    one_each = subst (λ (n : ℕ). length multipliers ≡ n) (sym same_generators) are.one_each;
    pairs = λ x multiplier is.
        subst (λ (n : ℕ). multiplier.alphabet ≡ Pair n) (sym same_generators) (are.pairs x multiplier is);
  }

  -- and their structure has the shortlex order
  pub are_true_to_group : (limit : ℕ) → presentation.order ≡ ShortLex → AreTrue presentation multipliers
      → IsTrueToGroup (own_structure (checked_in presentation acceptor multipliers limit))
  are_true_to_group limit shortlex true_ones =
      let P : WordOrder → Type 0 = λ order. IsTrueToGroup (structure_of order (relations_of presentation.inv presentation.eqs) acceptor multipliers) in
      subst P shortlex (true_ones acceptor same_generators)

  pub first_different : (limit x : ℕ) (u v : List ℕ) → presentation.order ≡ ShortLex
      → IsFirstDifferent presentation multipliers x u v
      → IsFirstPair (PairOfDifferentElements (own_structure (checked_in presentation acceptor multipliers limit))) x u v
  first_different limit x u v shortlex first =
      let P : WordOrder → Type 0 = λ order. IsFirstPair (PairOfDifferentElements
      (structure_of order (relations_of presentation.inv presentation.eqs) acceptor multipliers)) x u v in
      subst P shortlex (first acceptor same_generators)
