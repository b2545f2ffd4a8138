-- Whether the oriented relations of a presentation are confluent.
use Rattle.std.specs.Prelude.{ℕ, List, [], ◌∷◌, ◌++◌, codes}
use Rattle.kb_io.specs.Bytes.{newline}
use Rattle.kb_word.specs.Words.{Pair, OneOf}
use Rattle.kb_word.specs.Relations.{relations_of, AreOriented}
use Rattle.kb_word.specs.Congruence.{Congruent, IsLeast}
use Rattle.kb_word.specs.Overlap.{IsConfluent}
use Rattle.kb_word.specs.WordOrders.{Below}
use Rattle.kb_word.specs.Presentations.{PresentationParts}
use Rattle.kb_word.specs.Printed.{text_of_word}
use Rattle.kb_confluence.specs.FirstApart.{IsFirstApart, IsCounterexample}

-- the defining relations of the presentation
abbrev pub relations : PresentationParts → List Pair
relations parts = relations_of parts.inverses parts.equations

-- the second word is the least by the presentation's order that the relations make congruent to the first
abbrev pub IsLeastIn : PresentationParts → List ℕ → List ℕ → Type 0
IsLeastIn parts = IsLeast (Below parts.order) (relations parts)

-- the oriented relations of the presentation are confluent
pub record OrientedAreConfluent (parts : PresentationParts) : Type 0 where
  pub rules : List Pair
  pub oriented : AreOriented (Below parts.order) (relations parts) rules
  pub confluent : IsConfluent rules

-- The oriented relations of the presentation aren't confluent: the first overlap that is apart leads to
-- u and v, which are different, irreducible and congruent in the presentation.
pub record OrientedAreNotConfluent (parts : PresentationParts) (u v : List ℕ) : Type 0 where
  pub rules : List Pair
  pub oriented : AreOriented (Below parts.order) (relations parts) rules
  pub i : ℕ
  pub j : ℕ
  pub place : ℕ
  pub first : IsFirstApart rules i j place u v
  pub counterexample : IsCounterexample rules u v
  pub congruent : Congruent (OneOf (relations parts)) u v

-- the line that shows it
abbrev pub no_line : List (List ℕ) → List ℕ → List ℕ → List ℕ
no_line names u v =
    codes "no confluent " ++ (text_of_word names u ++ 32 ∷ (text_of_word names v ++ newline ∷ []))
