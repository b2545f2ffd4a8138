-- What a completion shows of multipliers, round after round.
-- Epstein et al., Word Processing in Groups, chapter 5; Holt, Eick, O'Brien, Handbook of Computational Group Theory,
-- chapter 13.
use Rattle.std.specs.Prelude.{◌≡◌, List}
use Rattle.kb_word.specs.Presentations.{parts_of}
use Rattle.kb_word.specs.Relations.{relations_of}
use Rattle.kb_word.specs.declared.presentation.Presentation.{Presentation}
use Rattle.kb_fsa.specs.Language.{Automaton, generators}
use Rattle.kb_machine.specs.Course.{Course}
use Rattle.kb_share.specs.Finding.{Knows}
use Rattle.kb_share.specs.declared.finding.Finder.{Finder}
use Rattle.kb_complete.specs.Completing.{AreReduced}
use Rattle.kb_structure.specs.StructureOf.{structure_of}
use Rattle.kb_structure.specs.Certificates.{IsTrueToGroup}
use Rattle.kb_axioms.specs.Truth.{IsFirstDifferent}
use Rattle.kb_system.specs.Evidence.{Limits}
use Rattle.kb_system.specs.Ended.{ShowsHalt}
use Rattle.kb_system.specs.Problems.{problem_of}
use Rattle.kb_auto.specs.Deciding.{AreUnresolvedBy}
use Rattle.kb_auto.specs.declared.answers.Decision.{Decision}
use Rattle.kb_auto.specs.declared.answers.Decision.TheVariants.{True, Different, Halted}

-- the multipliers relate only words that differ by their generators, whatever the word acceptor is
abbrev pub AreTrue : Presentation → List Automaton → Type 0
AreTrue presentation multipliers = (acceptor : Automaton)
    → generators acceptor.alphabet ≡ presentation.n
    → IsTrueToGroup (structure_of presentation.order
    (relations_of presentation.inv presentation.eqs) acceptor multipliers)

-- how a completion within limits decides
abbrev pub Decides : Limits → Presentation → List Automaton → Decision → Type 0
Decides limits presentation multipliers True = AreTrue presentation multipliers
Decides limits presentation multipliers (Different x u v) =
    IsFirstDifferent presentation multipliers x u v
Decides limits presentation multipliers (Halted halted) =
    ShowsHalt limits (parts_of presentation) halted
    × AreUnresolvedBy presentation halted.rules.rules multipliers

-- Between rounds the book completes the presentation within the limits, its live rules are interreduced, and the finder
-- knows it.
pub record IsUnderWay (limits : Limits) (presentation : Presentation) (course : Course)
    (finder : Finder) : Type 0 where
  pub problem : course.problem ≡ problem_of limits (parts_of presentation)
  pub reduced : AreReduced course
  pub known : Knows finder course.state
