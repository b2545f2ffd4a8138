-- Labels of a multiplier's states, by which its words are seen to differ by its generator. They are word differences:
-- Epstein et al., Word Processing in Groups, 2.3; Holt, Eick, O'Brien, Handbook of Computational Group Theory, 13.2.
use Rattle.std.specs.Prelude.{◌≡◌, ℕ, ◌<◌, ◌≤◌, IsTrue, List, [], ◌∷◌, ◌++◌, Option, Some}
use Rattle.kb_word.specs.Words.{Pair, OneOf}
use Rattle.kb_word.specs.Congruence.{Congruent}
use Rattle.kb_word.specs.Relations.{IsOver, inverse_letter, inverse_word, relations_of}
use Rattle.kb_fsa.specs.Table.{Table, step, state_after, is_accepting, IsLive}
use Rattle.kb_fsa.specs.PairSymbols.{first_letter, second_letter}
use Rattle.kb_fsa.specs.Padding.{letters_of, first_letters, second_letters}
use Rattle.kb_fsa.specs.Language.{Automaton, AcceptsPair, generators}

-- a multiplier of the generator x, with a word for each state as its label, and the presentation of the group
pub record Labelling : Type 0 where
  pub inverses : List (Option ℕ)
  pub equations : List Pair
  pub x : ℕ
  pub multiplier : Automaton
  pub label : ℕ → List ℕ

-- the relations of the group
abbrev pub relations : Labelling → List Pair
relations labelling = relations_of labelling.inverses labelling.equations

-- how many generators it has
abbrev pub generators_of : Labelling → ℕ
generators_of labelling = generators labelling.multiplier.alphabet

-- the presentation is that of a group: each generator has an inverse, whose inverse it is
pub record IsGroup (labelling : Labelling) : Type 0 where
  pub each : (a : ℕ) → 0 < a → a ≤ generators_of labelling
      → (b : ℕ) × (inverse_letter labelling.inverses a ≡ Some b)
  pub mutual_inverses : (a b : ℕ) → inverse_letter labelling.inverses a ≡ Some b
      → inverse_letter labelling.inverses b ≡ Some a

-- the words of each pair that the multiplier accepts differ by x
abbrev pub RelatesProducts : Labelling → Type 0
RelatesProducts labelling =
    (u v : List ℕ) → IsOver (generators_of labelling) u → IsOver (generators_of labelling) v
    → AcceptsPair labelling.multiplier u v
    → Congruent (OneOf (relations labelling)) (u ++ labelling.x ∷ []) v

-- the letter that a symbol has of the first word, and of the second; padding counts as nothing
abbrev pub first_of : Labelling → ℕ → List ℕ
first_of labelling symbol =
    letters_of (generators_of labelling) (first_letter (generators_of labelling) symbol)

abbrev pub second_of : Labelling → ℕ → List ℕ
second_of labelling symbol =
    letters_of (generators_of labelling) (second_letter (generators_of labelling) symbol)

-- the state lies on an accepted text: one leads to it, and another leads on from it to acceptance
pub record LiesOnAcceptedText (table : Table) (state : ℕ) : Type 0 where
  pub text : List ℕ
  pub leads : state_after table text ≡ state
  pub live : IsLive table state

-- The label words of a state: its label; the empty word at the initial state; x at an accepting one; and a^-1 d b for
-- each move into it, by letters a and b, from a state with label d that lies on an accepted text.
pub data IsLabelWord (labelling : Labelling) (state : ℕ) : List ℕ → Type 0 where
  own : IsLabelWord labelling state (labelling.label state)
  at_start : state ≡ labelling.multiplier.table.initial → IsLabelWord labelling state []
  at_end : IsTrue (is_accepting labelling.multiplier.table state)
      → IsLabelWord labelling state (labelling.x ∷ [])
  along : {from : ℕ} (symbol : ℕ) {inverse : List ℕ}
      → LiesOnAcceptedText labelling.multiplier.table from
      → step labelling.multiplier.table from symbol ≡ state
      → inverse_word labelling.inverses (first_of labelling symbol) ≡ Some inverse
      → IsLabelWord labelling state (inverse ++ labelling.label from ++ second_of labelling symbol)

-- the label words of each state that lies on an accepted text are the same element
abbrev pub LabelWordsAgree : Labelling → Type 0
LabelWordsAgree labelling =
    (state : ℕ) → LiesOnAcceptedText labelling.multiplier.table state → (word other : List ℕ)
    → IsLabelWord labelling state word → IsLabelWord labelling state other
    → Congruent (OneOf (relations labelling)) word other

-- the label of the state is the difference of the words of some text that leads to it
pub record IsDifferenceLabel (labelling : Labelling) (state : ℕ) : Type 0 where
  pub text : List ℕ
  pub leads : state_after labelling.multiplier.table text ≡ state
  pub differs : Congruent (OneOf (relations labelling))
      (first_letters (generators_of labelling) text ++ labelling.label state)
      (second_letters (generators_of labelling) text)

-- the label of each state that lies on an accepted text is such a difference
abbrev pub LabelsAreDifferences : Labelling → Type 0
LabelsAreDifferences labelling = (state : ℕ)
    → LiesOnAcceptedText labelling.multiplier.table state → IsDifferenceLabel labelling state
