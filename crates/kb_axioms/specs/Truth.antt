-- What rules of the group show of multipliers.
-- Epstein et al., Word Processing in Groups, 2.3; Holt, Eick, O'Brien, Handbook of Computational Group Theory, 13.2.
use Rattle.std.specs.Prelude.{◌≡◌, ℕ, ◌<◌, ◌≤◌, Bool, IsTrue, List, [], ◌∷◌, ◌++◌, length, Some}
use Rattle.kb_word.specs.Words.{OneOf, Pair as Sides}
use Rattle.kb_word.specs.Congruence.{Congruent, SameCongruence}
use Rattle.kb_word.specs.Overlap.{IsConfluent}
use Rattle.kb_word.specs.Relations.{IsOver, relations_of}
use Rattle.kb_word.specs.declared.presentation.Presentation.{Presentation}
use Rattle.kb_fsa.specs.declared.alphabet.Alphabet.TheVariants.{Pair}
use Rattle.kb_fsa.specs.Language.{AcceptsPair, Automaton, generators}
use Rattle.kb_diff.specs.Groups.{group_of}
use Rattle.kb_structure.specs.Certificates.{PairOfDifferentElements}
use Rattle.kb_structure.specs.StructureOf.{multiplier_of, structure_of}
use Rattle.kb_certificates.specs.First.{IsFirstPair}
use Rattle.kb_labels.specs.Labels.{IsAnswered}
use Rattle.kb_labels.specs.declared.labels.Labels.TheVariants.{Agree, Differ}
use Rattle.kb_axioms.specs.declared.answers.Truth.{Truth}
use Rattle.kb_axioms.specs.declared.answers.Truth.TheVariants.{True, Different, Unresolved}

-- there is a multiplier for each of n generators, which reads pairs of words over them
pub record AreMultipliers (n : ℕ) (multipliers : List Automaton) : Type 0 where
  pub one_each : length multipliers ≡ n
  pub pairs : (x : ℕ) (multiplier : Automaton) → multiplier_of multipliers x ≡ Some multiplier
      → multiplier.alphabet ≡ Pair n

-- the label words of each state of the multipliers up to this generator's have one normal form
abbrev pub AgreeUpTo : Presentation → List Sides → List Automaton → ℕ → Type 0
AgreeUpTo presentation rules multipliers most = (x : ℕ) (multiplier : Automaton) → x ≤ most
    → multiplier_of multipliers x ≡ Some multiplier
    → IsAnswered (group_of presentation rules) presentation x multiplier Agree

-- the generator is the first whose multiplier has a state with two label words of different normal forms: the first
-- such state, with its label, and the least other one
pub record IsFirstUnresolved (presentation : Presentation) (rules : List Sides)
    (multipliers : List Automaton) (x state : ℕ) (label other : List ℕ) : Type 0 where
  pub multiplier : Automaton
  pub is_multiplier : multiplier_of multipliers x ≡ Some multiplier
  pub answered : IsAnswered (group_of presentation rules) presentation x multiplier
      (Differ state label other)
  pub earlier : (y : ℕ) (before : Automaton) → y < x → multiplier_of multipliers y ≡ Some before
      → IsAnswered (group_of presentation rules) presentation y before Agree

-- the rules are confluent, and generate the congruence of the group's relations
pub record AreConfluentRulesOf (presentation : Presentation) (rules : List Sides) : Type 0 where
  pub confluent : IsConfluent rules
  pub same : SameCongruence (relations_of presentation.inv presentation.eqs) rules

-- the multiplier of x has the pair of words over the generators, and they don't differ by x
pub record IsDifferentPair (presentation : Presentation) (multiplier : Automaton) (x : ℕ)
    (u v : List ℕ) : Type 0 where
  pub first_over : IsOver presentation.n u
  pub second_over : IsOver presentation.n v
  pub accepted : AcceptsPair multiplier u v
  pub different :
      ¬ Congruent (OneOf (relations_of presentation.inv presentation.eqs)) (u ++ x ∷ []) v

-- the first pair of the first multiplier whose words don't differ by its generator; by no word acceptor is that another
abbrev pub IsFirstDifferent : Presentation → List Automaton → ℕ → List ℕ → List ℕ → Type 0
IsFirstDifferent presentation multipliers x u v = (acceptor : Automaton)
    → generators acceptor.alphabet ≡ presentation.n
    → IsFirstPair (PairOfDifferentElements (structure_of presentation.order
    (relations_of presentation.inv presentation.eqs) acceptor multipliers)) x u v

-- what each answer says, by rules that may be known to be confluent
abbrev pub TruthSays : Presentation → List Sides → Bool → List Automaton → Truth → Type 0
TruthSays presentation rules confluent multipliers True =
    AgreeUpTo presentation rules multipliers (length multipliers)
TruthSays presentation rules confluent multipliers (Different x u v) =
    IsTrue confluent × IsFirstDifferent presentation multipliers x u v
TruthSays presentation rules confluent multipliers (Unresolved x state label other) =
    (¬ IsTrue confluent)
    × IsFirstUnresolved presentation rules multipliers x state label other
