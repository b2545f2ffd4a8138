-- A completed presentation: its rules and its word acceptor.
use Rattle.std.specs.Prelude.{◌≡◌, ◌↔◌, ℕ, List, length}
use Rattle.kb_word.specs.Words.{Pair}
use Rattle.kb_word.specs.Congruence.{IsLeast}
use Rattle.kb_word.specs.Relations.{relations_of, IsOver}
use Rattle.kb_word.specs.Presentations.{PresentationParts}
use Rattle.kb_word.specs.WordOrders.{Below}
use Rattle.kb_fsa.specs.declared.alphabet.Alphabet.TheVariants.{Plain}
use Rattle.kb_fsa.specs.Language.{Automaton, IsAutomaton, Accepts}
use Rattle.kb_fsa.specs.Canonical.{IsCanonical}
use Rattle.kb_reduced.specs.Reduced.{IsLeastWord, IsReducedComplete}

-- the defining relations of the presentation
abbrev pub relations : PresentationParts → List Pair
relations parts = relations_of parts.inverses parts.equations

-- the order of the presentation
abbrev pub below : PresentationParts → List ℕ → List ℕ → Type 0
below parts = Below parts.order

-- the second word is the least by the presentation's order that the relations make congruent to the first
abbrev pub IsLeastIn : PresentationParts → List ℕ → List ℕ → Type 0
IsLeastIn parts = IsLeast (below parts) (relations parts)

-- the rules are the presentation's reduced complete system
abbrev pub IsReducedSystem : PresentationParts → List Pair → Type 0
IsReducedSystem parts = IsReducedComplete (below parts) (relations parts)

-- The canonical automaton of the presentation's least words, its word acceptor.
-- Epstein et al., Word Processing in Groups, 2.5.
pub record IsWordAcceptor (parts : PresentationParts) (acceptor : Automaton) : Type 0 where
  pub automaton : IsAutomaton acceptor
  pub alphabet : acceptor.alphabet ≡ Plain (length parts.names)
  pub language : (w : List ℕ) → Accepts acceptor w
      ↔ (IsOver (length parts.names) w × IsLeastWord (below parts) (relations parts) w)
  pub canonical : IsCanonical acceptor.table

-- the rules are the presentation's reduced complete system, and the automaton is its word acceptor
pub record IsCompletion (parts : PresentationParts) (rules : List Pair)
    (automaton : Automaton) : Type 0 where
  pub reduced : IsReducedSystem parts rules
  pub acceptor : IsWordAcceptor parts automaton
