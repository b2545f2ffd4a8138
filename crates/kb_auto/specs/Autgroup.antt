-- What the search for a group's automatic structure comes to.
-- Epstein et al., Word Processing in Groups, chapter 6; Holt, Eick, O'Brien, Handbook of Computational Group Theory,
-- chapter 13.
use Rattle.std.specs.Prelude.{◌≡◌, ◌≢◌, ℕ, Bool, true, false, List, ◌++◌, length, None}
use Rattle.kb_word.specs.Congruence.{SameCongruence}
use Rattle.kb_word.specs.Overlap.{IsConfluent}
use Rattle.kb_word.specs.Words.{Pair}
use Rattle.kb_word.specs.Presentations.{PresentationParts, parts_of}
use Rattle.kb_word.specs.declared.presentation.Presentation.{Presentation}
use Rattle.kb_diff.specs.Groups.{group_of}
use Rattle.kb_diff.specs.declared.grow.Grow.{Grow}
use Rattle.kb_kept.specs.Listed.{Lists, rule_equalities}
use Rattle.kb_kept.specs.declared.equality.Equality.{Equality}
use Rattle.kb_kept.specs.declared.listing.Listing.{Listing}
use Rattle.kb_machine.specs.Justified.{IsJustified}
use Rattle.kb_machine.specs.Lines.{rules_of}
use Rattle.kb_machine.specs.declared.line.Line.{Line}
use Rattle.kb_round.specs.Rounds.{IsCounted, IsOwnStructure, RefutesBy}
use Rattle.kb_round.specs.declared.answers.Construction.{Construction}
use Rattle.kb_system.specs.Completed.{IsReducedSystem, below, relations}
use Rattle.kb_system.specs.Evidence.{AreLiveRules, Limits}
use Rattle.kb_system.specs.Ended.{ShowsHalt}
use Rattle.kb_auto.specs.Kept.{IsKept, KeepsRules, NeedsMore, Tried}
use Rattle.kb_auto.specs.declared.answers.Autgroup.{Autgroup}
use Rattle.kb_auto.specs.declared.answers.Autgroup.TheVariants.{Own, Halted, TooManyDifferences, TooManyStates}

-- rules of the group that are tried within limits
abbrev pub tried_by : Limits → ℕ → Presentation → List Pair → Tried
tried_by limits most presentation rules = record {
  presentation = presentation;
  rules = rules;
  most = most;
  states = limits.states;
}

-- The log is justified, and the rules are its live ones, which generate the congruence of the relations. Or, where they
-- are said to be confluent, they are the reduced complete system, and the rules of all lines of the log are confluent
-- and generate that congruence.
pub data AreRulesOfLog (parts : PresentationParts) (lines : List Line) (rules : List Pair) : Bool
    → Type 0 where
  live : IsJustified (below parts) (relations parts) lines → AreLiveRules lines rules
      → SameCongruence (relations parts) rules
      → AreRulesOfLog parts lines rules false
  complete : IsJustified (below parts) (relations parts) lines → IsConfluent (rules_of lines)
      → SameCongruence (relations parts) (rules_of lines) → IsReducedSystem parts rules
      → AreRulesOfLog parts lines rules true

-- The automata of these differences were tried, and aren't known to be the group's own: there is a certificate against
-- them, or a construction counts too many states.
pub data HasFailed (tried : Tried) (words : List (List ℕ)) : Type 0 where
  refuted : {equality : Equality}
      → RefutesBy tried.presentation tried.rules words tried.states equality
      → HasFailed tried words
  counted : {which : Construction}
      → IsCounted tried.presentation tried.rules words tried.states which
      → HasFailed tried words

-- The differences of the rules, as far as there is room, are these; and their automata were tried.
pub record IsTriedAtHalt (tried : Tried) (listing : Listing) : Type 0 where
  pub words : List (List ℕ)
  pub answer : Grow
  pub keeps : KeepsRules tried words answer
  pub equalities : listing.equalities.items ≡ rule_equalities tried.rules
  pub lists : Lists (group_of tried.presentation tried.rules) words listing
  pub failed : HasFailed tried words

-- as many differences are kept as may be, and another one is needed
pub record IsShort (tried : Tried) (listing : Listing) : Type 0 where
  pub rounds : List Equality
  pub words : List (List ℕ)
  pub needs : NeedsMore tried rounds words
  pub equalities : listing.equalities.items ≡ rule_equalities tried.rules ++ rounds
  pub lists : Lists (group_of tried.presentation tried.rules) words listing
  pub full : length words ≡ tried.most
  pub needed : listing.needed ≢ None

-- the automata of the differences that are kept have too many states
pub record IsTooLarge (tried : Tried) (listing : Listing) (which : Construction) : Type 0 where
  pub words : List (List ℕ)
  pub kept : IsKept tried words listing
  pub counted : IsCounted tried.presentation tried.rules words tried.states which

-- Own: the automata are the group's own. Halted: the completion reached a limit, as its log shows, and the automata of
-- its live rules were tried. Too many differences, and too many states: a limit of the automata was reached, of which
-- the last may be only where the rules are the reduced complete system.
abbrev pub AutgroupSays : Limits → ℕ → Presentation → Autgroup → Type 0
AutgroupSays limits most presentation (Own structure) =
    IsOwnStructure presentation limits.states structure.acceptor structure.multipliers.items
AutgroupSays limits most presentation (Halted halted listing) =
    ShowsHalt limits (parts_of presentation) halted
    × IsTriedAtHalt (tried_by limits most presentation halted.rules.rules) listing
AutgroupSays limits most presentation (TooManyDifferences lines rules confluent listing) =
    (rules.order ≡ presentation.order)
    × AreRulesOfLog (parts_of presentation) lines.items rules.rules confluent
    × IsShort (tried_by limits most presentation rules.rules) listing
AutgroupSays limits most presentation (TooManyStates which lines rules listing) =
    (rules.order ≡ presentation.order)
    × AreRulesOfLog (parts_of presentation) lines.items rules.rules true
    × IsTooLarge (tried_by limits most presentation rules.rules) listing which
