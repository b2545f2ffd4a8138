-- Languages made of others by products and by reading backwards. Kleene, Representation of Events in Nerve Nets (1956).
use Rattle.std.specs.Prelude.{◌≡◌, ◌↔◌, ℕ, List, ◌++◌, reverse}
use Rattle.kb_fsa.specs.Language.{Automaton, Accepts}
use Rattle.kb_fsa.specs.Counted.{IsProduct}

-- the word is a word of the first automaton followed by one of the second
pub record IsSplit (one two : Automaton) (word : List ℕ) : Type 0 where
  pub front : List ℕ
  pub back : List ℕ
  pub whole : word ≡ front ++ back
  pub in_first : Accepts one front
  pub in_second : Accepts two back

-- the automaton accepts the products of a word of the first and a word of the second
abbrev pub IsConcatenation : Automaton → Automaton → Automaton → Type 0
IsConcatenation one two product = (word : List ℕ) → Accepts product word ↔ IsSplit one two word

-- the automaton accepts all products of accepted words, the empty word among them
abbrev pub IsStar : Automaton → Automaton → Type 0
IsStar automaton star = (word : List ℕ) → Accepts star word ↔ IsProduct automaton word

-- the automaton accepts the words that read backwards are accepted
abbrev pub IsReversal : Automaton → Automaton → Type 0
IsReversal automaton reversed =
    (word : List ℕ) → Accepts reversed word ↔ Accepts automaton (reverse word)
