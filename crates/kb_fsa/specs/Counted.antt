-- Counted states: how many states a construction of an automaton has, said of words and languages alone. A
-- construction tells words apart by what they lead to, and has more than m states where more than m words lead
-- to different things.
use Rattle.std.specs.Prelude.{◌≡◌, ◌≢◌, ◌↔◌, ◌⊎◌, ℕ, ◌<◌, ◌≤◌, List, [], ◌++◌, length, reverse, All, AllPairs}
use Rattle.kb_word.specs.Relations.{IsOver}
use Rattle.kb_fsa.specs.declared.alphabet.Alphabet.{Alphabet}
use Rattle.kb_fsa.specs.declared.alphabet.Alphabet.TheVariants.{Plain, Pair}
use Rattle.kb_fsa.specs.Table.{Table, AcceptsFrom, state_after}
use Rattle.kb_fsa.specs.Padding.{padded}
use Rattle.kb_fsa.specs.Language.{Automaton, AcceptsText, IsTextOf, generators}
use Rattle.kb_fsa.specs.Canonical.{IsState}

-- more than m texts that count lead to different things
pub record MoreThan (Counts : List ℕ → Type 0) (Same : List ℕ → List ℕ → Type 0)
    (m : ℕ) : Type 0 where
  pub texts : List (List ℕ)
  pub many : m < length texts
  pub count : All Counts texts
  pub differ : AllPairs (λ text other. ¬ Same text other) texts

-- more than m texts lead to different sets, which aren't empty
abbrev pub MoreSetsThan : {X : Type 0} → (List ℕ → X → Type 0) → ℕ → Type 0
MoreSetsThan {X} Member =
    MoreThan (λ text. (x : X) × Member text x)
    (λ text other. (x : X) → Member text x ↔ Member other x)

-- the texts lead to the same two states, or to none in the same automata
abbrev pub SameTwo : Table → Table → List ℕ → List ℕ → Type 0
SameTwo one two text other =
    (state_after one text ≡ state_after one other) × (state_after two text ≡ state_after two other)

-- `and` counts pairs of states to which one text leads
abbrev pub CountedAnd : Table → Table → ℕ → Type 0
CountedAnd one two =
    MoreThan (λ text. (state_after one text ≢ 0) × (state_after two text ≢ 0)) (SameTwo one two)

-- `or` and `equal` count pairs of states, one of which may be lacking, to which one text leads
abbrev pub CountedOr : Table → Table → ℕ → Type 0
CountedOr one two =
    MoreThan (λ text. (state_after one text ≢ 0) ⊎ (state_after two text ≢ 0)) (SameTwo one two)

-- the text is that of a pair whose first word is the shorter
pub record FirstEnds (n : ℕ) (text : List ℕ) : Type 0 where
  pub first : List ℕ
  pub second : List ℕ
  pub first_over : IsOver n first
  pub second_over : IsOver n second
  pub is_text : text ≡ padded n first second
  pub shorter : length first < length second

-- the text is that of a pair whose second word is the shorter
pub record SecondEnds (n : ℕ) (text : List ℕ) : Type 0 where
  pub first : List ℕ
  pub second : List ℕ
  pub first_over : IsOver n first
  pub second_over : IsOver n second
  pub is_text : text ≡ padded n first second
  pub shorter : length second < length first

-- in texts of pairs the same word has ended
abbrev pub EndAlike : Alphabet → List ℕ → List ℕ → Type 0
EndAlike (Plain n) text other = Unit {0}
EndAlike (Pair n) text other =
    (FirstEnds n text ↔ FirstEnds n other) × (SecondEnds n text ↔ SecondEnds n other)

-- `not` counts the states to which texts of the alphabet lead, no state among them, for pairs with which word has ended
abbrev pub CountedNot : Automaton → ℕ → Type 0
CountedNot automaton = MoreThan (IsTextOf automaton.alphabet)
    (λ text other.
    (state_after automaton.table text ≡ state_after automaton.table other)
    × EndAlike automaton.alphabet text other)

-- the word, as the first of a pair whose second is no longer, leads to the state
pub record IsAfterFirst (automaton : Automaton) (word : List ℕ) (state : ℕ) : Type 0 where
  pub second : List ℕ
  pub first_over : IsOver (generators automaton.alphabet) word
  pub second_over : IsOver (generators automaton.alphabet) second
  pub no_longer : length second ≤ length word
  pub leads : state_after automaton.table (padded (generators automaton.alphabet) word second)
      ≡ state
  pub some : state ≢ 0

-- `exists` counts the sets of states to which one first word leads
abbrev pub CountedExists : Automaton → ℕ → Type 0
CountedExists automaton = MoreSetsThan (IsAfterFirst automaton)

-- a state of the first or of the second automaton
pub data OfTwo : Type 0 where
  of_first : ℕ → OfTwo
  of_second : ℕ → OfTwo

-- a state of either automaton, after the word: that of the first after the whole word, and those of the second after
-- each suffix whose rest the first accepts
pub data IsAfterConcat (one two : Automaton) (word : List ℕ) : OfTwo → Type 0 where
  in_first : {state : ℕ} → state_after one.table word ≡ state → state ≢ 0
      → IsAfterConcat one two word (of_first state)
  in_second : (front back : List ℕ) {state : ℕ} → word ≡ front ++ back → AcceptsText one front
      → state_after two.table back ≡ state → state ≢ 0
      → IsAfterConcat one two word (of_second state)

-- `concat` counts the sets of states of both automata to which one word leads
abbrev pub CountedConcat : Automaton → Automaton → ℕ → Type 0
CountedConcat one two = MoreSetsThan (IsAfterConcat one two)

-- the word is a product of accepted words
pub data IsProduct (automaton : Automaton) : List ℕ → Type 0 where
  empty : IsProduct automaton []
  longer : (front back : List ℕ) {word : List ℕ} → word ≡ front ++ back → IsProduct automaton front
      → AcceptsText automaton back → IsProduct automaton word

-- the state after a suffix of the word whose rest is a product of accepted words
pub record IsAfterProduct (automaton : Automaton) (word : List ℕ) (state : ℕ) : Type 0 where
  pub front : List ℕ
  pub back : List ℕ
  pub whole : word ≡ front ++ back
  pub product : IsProduct automaton front
  pub leads : state_after automaton.table back ≡ state
  pub some : state ≢ 0

-- `star` counts the sets of states to which one word leads, the empty set too, with whether the word is a product
abbrev pub CountedStar : Automaton → ℕ → Type 0
CountedStar automaton = MoreThan (IsOver (generators automaton.alphabet))
    (λ word other.
    ((state : ℕ) → IsAfterProduct automaton word state ↔ IsAfterProduct automaton other state)
    × (IsProduct automaton word ↔ IsProduct automaton other))

-- the word, read backwards, leads from the state to acceptance
pub record IsBefore (automaton : Automaton) (word : List ℕ) (state : ℕ) : Type 0 where
  pub is_state : IsState automaton.table state
  pub accepts : AcceptsFrom automaton.table state (reverse word)

-- `reverse` counts the sets of states from which one word, read backwards, leads to acceptance
abbrev pub CountedReverse : Automaton → ℕ → Type 0
CountedReverse automaton = MoreSetsThan (IsBefore automaton)
