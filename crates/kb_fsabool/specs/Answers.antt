-- What the boolean operations answer.
use Rattle.std.specs.Prelude.{◌↔◌, ◌⊎◌, ℕ, List}
use Rattle.kb_word.specs.Words.{Less}
use Rattle.kb_fsa.specs.Language.{Automaton, AcceptsText, SameLanguage, IsTextOf}
use Rattle.kb_fsabool.specs.declared.equality.Equality.{Equality}
use Rattle.kb_fsabool.specs.declared.equality.Equality.TheVariants.{Equal, Differ}

-- the automaton accepts what both accept
abbrev pub IsIntersection : Automaton → Automaton → Automaton → Type 0
IsIntersection one two both =
    (text : List ℕ) → AcceptsText both text ↔ (AcceptsText one text × AcceptsText two text)

-- the automaton accepts what either accepts
abbrev pub IsUnion : Automaton → Automaton → Automaton → Type 0
IsUnion one two either =
    (text : List ℕ) → AcceptsText either text ↔ (AcceptsText one text ⊎ AcceptsText two text)

-- the automaton accepts the texts of the alphabet that the other one doesn't
abbrev pub IsComplement : Automaton → Automaton → Type 0
IsComplement automaton rest =
    (text : List ℕ)
    → AcceptsText rest text ↔ (IsTextOf automaton.alphabet text × ¬ AcceptsText automaton text)

-- exactly one of the two accepts the text
abbrev pub IsInOne : Automaton → Automaton → List ℕ → Type 0
IsInOne one two text =
    (AcceptsText one text × ¬ AcceptsText two text)
    ⊎ (AcceptsText two text × ¬ AcceptsText one text)

-- the automaton accepts what exactly one accepts
abbrev pub IsSymmetricDifference : Automaton → Automaton → Automaton → Type 0
IsSymmetricDifference one two difference =
    (text : List ℕ) → AcceptsText difference text ↔ IsInOne one two text

-- the least text that exactly one of the two accepts
pub record IsLeastDifference (one two : Automaton) (text : List ℕ) : Type 0 where
  pub differs : IsInOne one two text
  pub least : (other : List ℕ) → IsInOne one two other → ¬ Less other text

-- `Equal` says that the languages are the same, `Differ` gives the least text in exactly one
abbrev pub IsComparison : Automaton → Automaton → Equality → Type 0
IsComparison one two Equal = SameLanguage one two
IsComparison one two (Differ text) = IsLeastDifference one two text
