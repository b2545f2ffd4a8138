-- Automata that are made of word differences, and what a round finds of them.
-- Epstein et al., Word Processing in Groups, chapters 5 and 6; Holt, Eick, O'Brien, Handbook of Computational Group
-- Theory, chapter 13.
use Rattle.std.specs.Prelude.{◌≡◌, ℕ, All, List, [], ◌∷◌, ◌++◌, Some, None}
use Rattle.kb_word.specs.Words.{Pair as Sides}
use Rattle.kb_word.specs.Rewriting.{NormalForm}
use Rattle.kb_word.specs.declared.presentation.Presentation.{Presentation}
use Rattle.kb_fsa.specs.Canonical.{IsCanonical}
use Rattle.kb_fsa.specs.Language.{Automaton}
use Rattle.kb_fsa.specs.declared.alphabet.Alphabet.TheVariants.{Plain}
use Rattle.kb_diff.specs.Groups.{Group, group_of}
use Rattle.kb_diff.specs.Languages.{IsDifferenceAcceptor}
use Rattle.kb_diffwa.specs.Multipliers.{AreMultipliers, CountedPlaces}
use Rattle.kb_diffwa.specs.Rivals.{CountedRivals}
use Rattle.kb_kept.specs.Listed.{equality_of}
use Rattle.kb_kept.specs.declared.equality.Equality.{Equality}
use Rattle.kb_structure.specs.Structure.{IsAutomaticStructure}
use Rattle.kb_structure.specs.declared.cert.Cert.{Cert}
use Rattle.kb_structure.specs.declared.cert.Cert.TheVariants.{N4, N5, N6, N7, N8}
use Rattle.kb_axioms.specs.Answered.{checked_in}
use Rattle.kb_axioms.specs.Checked.{IsFirstCertificate, IsFirstCount, PassesRelations, own_structure}
use Rattle.kb_axioms.specs.Truth.{AreMultipliers as ReadPairs}
use Rattle.kb_axioms.specs.declared.answers.Construction.{Construction as CheckConstruction}
use Rattle.kb_round.specs.declared.answers.Construction.{Construction}
use Rattle.kb_round.specs.declared.answers.Construction.TheVariants.{Acceptor, Multipliers, Check}
use Rattle.kb_round.specs.declared.answers.Round.{Round}
use Rattle.kb_round.specs.declared.answers.Round.TheVariants.{Own, Refuted, TooManyStates}

-- the canonical word acceptor of the differences
pub record IsAcceptorOf (group : Group) (words : List (List ℕ))
    (acceptor : Automaton) : Type 0 where
  pub alphabet : acceptor.alphabet ≡ Plain group.n
  pub language : IsDifferenceAcceptor group words acceptor
  pub canonical : IsCanonical acceptor.table

-- the canonical word acceptor and the canonical multipliers of the differences
pub record AreMadeOf (group : Group) (words : List (List ℕ)) (acceptor : Automaton)
    (multipliers : List Automaton) : Type 0 where
  pub accepts : IsAcceptorOf group words acceptor
  pub multiply : AreMultipliers group words acceptor group.n multipliers
  pub canonical : All (λ multiplier. IsCanonical multiplier.table) multipliers

-- The automata are the canonical automatic structure of the group that is presented. That they pass the check says
-- besides that each accepted word has an image, so that words can be followed.
pub record IsOwnStructure (presentation : Presentation) (limit : ℕ) (acceptor : Automaton)
    (multipliers : List Automaton) : Type 0 where
  pub words : acceptor.alphabet ≡ Plain presentation.n
  pub pairs : ReadPairs presentation.n multipliers
  pub passes : PassesRelations (checked_in presentation acceptor multipliers limit)
  pub own : IsAutomaticStructure
      (own_structure (checked_in presentation acceptor multipliers limit))
  pub acceptor_is_canonical : IsCanonical acceptor.table
  pub multipliers_are_canonical : All (λ multiplier. IsCanonical multiplier.table) multipliers

-- The certificate is the first against the automata of the differences.
pub record IsRefuted (presentation : Presentation) (rules : List Sides) (words : List (List ℕ))
    (limit : ℕ) (cert : Cert) : Type 0 where
  pub acceptor : Automaton
  pub multipliers : List Automaton
  pub made : AreMadeOf (group_of presentation rules) words acceptor multipliers
  pub first : IsFirstCertificate (checked_in presentation acceptor multipliers limit) cert

-- The words of a certificate that are the same element, the first one perhaps with the generator behind it. Their
-- differences are what the automata lack.
pub data ShowsEquality (rules : List Sides) : Cert → Equality → Type 0 where
  no_image : {x : ℕ} {u v : List ℕ} → NormalForm rules (u ++ x ∷ []) v
      → ShowsEquality rules (N4 x u) (equality_of u v (Some x))
  two_images : {x : ℕ} {u v other : List ℕ}
      → ShowsEquality rules (N5 x u v other) (equality_of v other None)
  no_extension : {x : ℕ} {u : List ℕ}
      → ShowsEquality rules (N6 x u) (equality_of u (u ++ x ∷ []) (Some x))
  not_least : {x : ℕ} {u v w : List ℕ} → NormalForm rules (u ++ x ∷ []) w
      → ShowsEquality rules (N7 x u v) (equality_of v w None)
  broken : {number : ℕ} {u a b : List ℕ}
      → ShowsEquality rules (N8 number u a b) (equality_of a b None)

-- the first certificate against the automata of the differences has this equality
pub record RefutesBy (presentation : Presentation) (rules : List Sides) (words : List (List ℕ))
    (limit : ℕ) (equality : Equality) : Type 0 where
  pub cert : Cert
  pub refuted : IsRefuted presentation rules words limit cert
  pub shows : ShowsEquality rules cert equality

-- a construction of the round counts more states than the limit
pub data IsCounted (presentation : Presentation) (rules : List Sides) (words : List (List ℕ))
    (limit : ℕ) : Construction → Type 0 where
  acceptor : CountedRivals (group_of presentation rules) words limit
      → IsCounted presentation rules words limit Acceptor
  multipliers : {acceptor : Automaton} → IsAcceptorOf (group_of presentation rules) words acceptor
      → CountedPlaces (group_of presentation rules) words acceptor.table limit
      → IsCounted presentation rules words limit Multipliers
  check : {acceptor : Automaton} {multipliers : List Automaton} {which : CheckConstruction}
      → AreMadeOf (group_of presentation rules) words acceptor multipliers
      → IsFirstCount (checked_in presentation acceptor multipliers limit) which
      → IsCounted presentation rules words limit (Check which)

-- what each answer of a round says
abbrev pub RoundSays : Presentation → List Sides → List (List ℕ) → ℕ → Round → Type 0
RoundSays presentation rules words limit (Own structure) =
    IsOwnStructure presentation limit structure.acceptor structure.multipliers.items
RoundSays presentation rules words limit (Refuted equality) =
    RefutesBy presentation rules words limit equality
RoundSays presentation rules words limit (TooManyStates which) =
    IsCounted presentation rules words limit which
