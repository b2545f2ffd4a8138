-- Rules that a word acceptor and multipliers have, and what is counted on the way to them.
use Rattle.std.specs.Prelude.{◌≡◌, ◌≢◌, ℕ, ◌≤◌, nat_eq, not, Bool, IsTrue, List, [], ◌∷◌, ◌++◌, length, map, Some}
use Rattle.std.specs.List.{list_any}
use Rattle.kb_word.specs.Relations.{IsOver}
use Rattle.kb_fsa.specs.Table.{state_after}
use Rattle.kb_fsa.specs.Padding.{IsTextOfPair}
use Rattle.kb_fsa.specs.Language.{Automaton, Accepts, AcceptsPair, generators}
use Rattle.kb_fsa.specs.Counted.{MoreSetsThan}
use Rattle.kb_structure.specs.StructureOf.{multiplier_of}
use Rattle.kb_minkb.specs.declared.place.LeftPlace.{LeftPlace}
use Rattle.kb_minkb.specs.declared.place.LeftPlace.TheVariants.{End}
use Rattle.kb_minkb.specs.declared.pair_place.PairPlace.{PairPlace}
use Rattle.kb_minkb.specs.LeftSides.{IsJustOutside, LeadsSomewhere, HasPlace}

-- The left side is just outside of the given words. Without its last letter it is a word from which this letter's
-- multiplier leads to the right side, which isn't longer than the left one.
pub record IsRuleOf (n : ℕ) (Given : List ℕ → Type 0) (multipliers : List Automaton)
    (left right : List ℕ) : Type 0 where
  pub left_side : IsJustOutside n Given left
  pub right_letters : IsOver n right
  pub no_longer : length right ≤ length left
  pub front : List ℕ
  pub letter : ℕ
  pub multiplier : Automaton
  pub is_left : left ≡ front ++ letter ∷ []
  pub of_letter : multiplier_of multipliers letter ≡ Some multiplier
  pub multiplied : AcceptsPair multiplier front right

-- the pair has a left side, and the word to which the multipliers lead from it
abbrev pub IsRule : Automaton → List Automaton → List ℕ → List ℕ → Type 0
IsRule acceptor = IsRuleOf (generators acceptor.alphabet) (Accepts acceptor)

-- the multipliers' states after the text, 0 for none
abbrev pub states_after : List Automaton → List ℕ → List ℕ
states_after multipliers text =
    map (λ multiplier. state_after multiplier.table text) multipliers

-- whether one of them is a state
abbrev pub has_state : List ℕ → Bool
has_state states = list_any (λ state. not (nat_eq state 0)) states

-- What is counted of the text of a pair whose second word is no longer: the place of the first word among those of left
-- sides, with the multipliers' states after the text, unless there is none; or that the pair is a rule.
pub data HasPairPlace (acceptor : Automaton) (multipliers : List Automaton)
    (text : List ℕ) : PairPlace → Type 0 where
  on_the_way : {u v : List ℕ} {left : LeftPlace}
      → IsTextOfPair (generators acceptor.alphabet) text u v → length v ≤ length u
      → HasPlace acceptor u left
      → left ≢ End → IsTrue (has_state (states_after multipliers text))
      → HasPairPlace acceptor multipliers text
      (record { left = left; states = states_after multipliers text })
  at_rule : {left right : List ℕ}
      → IsTextOfPair (generators acceptor.alphabet) text left right
      → IsRuleOf (generators acceptor.alphabet) (LeadsSomewhere acceptor) multipliers left right
      → HasPairPlace acceptor multipliers text (record { left = End; states = [] })

-- `minkb` counts these places of texts
abbrev pub CountedMinkb : Automaton → List Automaton → ℕ → Type 0
CountedMinkb acceptor multipliers = MoreSetsThan (HasPairPlace acceptor multipliers)
