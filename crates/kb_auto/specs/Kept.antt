-- The equalities whose differences are kept: those of rules, and then those of failed rounds.
-- Epstein et al., Word Processing in Groups, chapter 6; Holt, Eick, O'Brien, Handbook of Computational Group Theory,
-- chapter 13.
use Rattle.std.specs.Prelude.{◌≡◌, ℕ, List, [], ◌∷◌, ◌++◌, None}
use Rattle.kb_word.specs.Words.{Pair, OneOf}
use Rattle.kb_word.specs.Rewriting.{IsIrreducible}
use Rattle.kb_word.specs.declared.presentation.Presentation.{Presentation}
use Rattle.kb_diff.specs.Groups.{group_of}
use Rattle.kb_diff.specs.Keeping.{Adds, AddsPairs}
use Rattle.kb_diff.specs.declared.grow.Grow.{Grow}
use Rattle.kb_diff.specs.declared.grow.Grow.TheVariants.{Grew, Full}
use Rattle.kb_kept.specs.Listed.{Lists, rule_equalities}
use Rattle.kb_kept.specs.declared.equality.Equality.{Equality}
use Rattle.kb_kept.specs.declared.listing.Listing.{Listing}
use Rattle.kb_round.specs.Rounds.{RefutesBy}

-- rules of a group, with how many differences may be kept, and how many states a construction may have
pub record Tried : Type 0 where
  pub presentation : Presentation
  pub rules : List Pair
  pub most : ℕ
  pub states : ℕ

-- the differences of the pair are added to those that are kept
abbrev pub AddsEquality : Tried → Equality → List (List ℕ) → List (List ℕ) → Grow → Type 0
AddsEquality tried equality old new answer =
    Adds (group_of tried.presentation tried.rules) tried.most equality.u equality.v old new answer

-- the differences of the rules are kept, and are these
abbrev pub KeepsRules : Tried → List (List ℕ) → Grow → Type 0
KeepsRules tried words answer =
    AddsPairs (group_of tried.presentation tried.rules) tried.most tried.rules ([] ∷ []) words
    answer

-- The round by these differences failed, and this is the equality of its certificate, whose words are irreducible.
pub record IsEqualityOfRound (tried : Tried) (words : List (List ℕ))
    (equality : Equality) : Type 0 where
  pub refutes : RefutesBy tried.presentation tried.rules words tried.states equality
  pub first : IsIrreducible (OneOf tried.rules) equality.u
  pub second : IsIrreducible (OneOf tried.rules) equality.v

-- The equalities of failed rounds, one after another, and the differences that are kept of the rules and of them: each
-- round is by the differences before it, and its equality has another one.
pub data KeepsRounds (tried : Tried) : List Equality → List (List ℕ) → Type 0 where
  rules_alone : {words : List (List ℕ)} → KeepsRules tried words Grew → KeepsRounds tried [] words
  one_more : {equalities : List Equality} {equality : Equality} {words new : List (List ℕ)}
      → KeepsRounds tried equalities words → IsEqualityOfRound tried words equality
      → AddsEquality tried equality words new Grew
      → KeepsRounds tried (equalities ++ equality ∷ []) new

-- the differences are kept of the rules and of the rounds with these equalities, without one for which there was no
-- room
pub record IsKept (tried : Tried) (words : List (List ℕ)) (listing : Listing) : Type 0 where
  pub rounds : List Equality
  pub keeps : KeepsRounds tried rounds words
  pub equalities : listing.equalities.items ≡ rule_equalities tried.rules ++ rounds
  pub lists : Lists (group_of tried.presentation tried.rules) words listing
  pub complete : listing.needed ≡ None

-- As many differences are kept as may be, and another one is needed: of a rule, or of the last of the rounds.
pub data NeedsMore (tried : Tried) : List Equality → List (List ℕ) → Type 0 where
  of_rule : {words : List (List ℕ)} {needed : List ℕ} {place : ℕ}
      → KeepsRules tried words (Full needed place)
      → NeedsMore tried [] words
  of_round : {equalities : List Equality} {equality : Equality} {words new : List (List ℕ)}
      {needed : List ℕ} {place : ℕ} → KeepsRounds tried equalities words → IsEqualityOfRound tried words equality
      → AddsEquality tried equality words new (Full needed place)
      → NeedsMore tried (equalities ++ equality ∷ []) new
