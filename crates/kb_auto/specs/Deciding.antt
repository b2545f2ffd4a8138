-- What is found of automata that may be a group's own automatic structure.
-- Epstein et al., Word Processing in Groups, chapter 5; Holt, Eick, O'Brien, Handbook of Computational Group Theory,
-- chapter 13.
use Rattle.std.specs.Prelude.{ℕ, List}
use Rattle.kb_word.specs.Presentations.{parts_of}
use Rattle.kb_word.specs.Words.{Pair as Sides}
use Rattle.kb_word.specs.declared.presentation.Presentation.{Presentation}
use Rattle.kb_fsa.specs.Language.{Automaton}
use Rattle.kb_structure.specs.Structure.{IsAutomaticStructure}
use Rattle.kb_axioms.specs.Answered.{IsFirstOfAll, checked_in}
use Rattle.kb_axioms.specs.Checked.{IsFirstCount, PassesRelations, own_structure}
use Rattle.kb_axioms.specs.Truth.{IsFirstUnresolved}
use Rattle.kb_system.specs.Evidence.{Limits}
use Rattle.kb_system.specs.Ended.{ShowsHalt}
use Rattle.kb_auto.specs.declared.answers.Checked.{Checked}
use Rattle.kb_auto.specs.declared.answers.Checked.TheVariants.{Yes, No, TooManyStates, Halted}

-- by the rules, label words of a state of a multiplier have different normal forms
pub record AreUnresolvedBy (presentation : Presentation) (rules : List Sides)
    (multipliers : List Automaton) : Type 0 where
  pub x : ℕ
  pub state : ℕ
  pub label : List ℕ
  pub other : List ℕ
  pub first : IsFirstUnresolved presentation rules multipliers x state label other

-- Yes: the automata pass, and are the group's own. No: the first certificate. Too many states: the first count above
-- the limit, before which there is no certificate. Halted: there is no certificate but perhaps of the kind N3, the
-- completion reached a limit, as its log shows, and by its live rules the multipliers are unresolved.
abbrev pub CheckedSays : Limits → Presentation → Automaton → List Automaton → Checked → Type 0
CheckedSays limits presentation acceptor multipliers Yes =
    PassesRelations (checked_in presentation acceptor multipliers limits.states)
    × IsAutomaticStructure
    (own_structure (checked_in presentation acceptor multipliers limits.states))
CheckedSays limits presentation acceptor multipliers (No cert) =
    IsFirstOfAll (checked_in presentation acceptor multipliers limits.states) cert
CheckedSays limits presentation acceptor multipliers (TooManyStates which) =
    IsFirstCount (checked_in presentation acceptor multipliers limits.states) which
CheckedSays limits presentation acceptor multipliers (Halted halted) =
    PassesRelations (checked_in presentation acceptor multipliers limits.states)
    × ShowsHalt limits (parts_of presentation) halted
    × AreUnresolvedBy presentation halted.rules.rules multipliers
