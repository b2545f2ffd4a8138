-- Automata over an alphabet, and their languages.
use Rattle.std.specs.Prelude.{◌≢◌, ◌↔◌, ℕ, ◌≤◌, List}
use Rattle.kb_word.specs.Relations.{IsOver}
use Rattle.kb_fsa.specs.declared.alphabet.Alphabet.{Alphabet}
use Rattle.kb_fsa.specs.declared.alphabet.Alphabet.TheVariants.{Plain, Pair}
use Rattle.kb_fsa.specs.Table.{Table, IsTable, HasSymbols, AcceptsFrom, state_after}
use Rattle.kb_fsa.specs.PairSymbols.{pair_symbols}
use Rattle.kb_fsa.specs.Padding.{padded, IsPadded}

-- the generators of the alphabet's words
abbrev pub generators : Alphabet → ℕ
generators (Plain n) = n
generators (Pair n) = n

-- how many symbols there are: the letters, or the pairs of letters and padding without the pair of two paddings
abbrev pub symbols : Alphabet → ℕ
symbols (Plain n) = n
symbols (Pair n) = pair_symbols n

-- the text is one of the alphabet: a word over its generators, or that of a pair of words
abbrev pub IsTextOf : Alphabet → List ℕ → Type 0
IsTextOf (Plain n) text = IsOver n text
IsTextOf (Pair n) text = IsPadded n text

-- A deterministic automaton that reads words, or pairs of words as padded texts.
pub record Automaton : Type 0 where
  pub alphabet : Alphabet
  pub table : Table

-- what every automaton keeps: an automaton of pairs has no move that a text could take and no padded one can
pub record IsAutomaton (automaton : Automaton) : Type 0 where
  pub generators : generators automaton.alphabet ≤ 65534
  pub table : IsTable automaton.table
  pub symbols : HasSymbols (symbols automaton.alphabet) automaton.table
  pub texts : (text : List ℕ) → state_after automaton.table text ≢ 0
      → IsTextOf automaton.alphabet text

-- the automaton accepts the text
abbrev pub AcceptsText : Automaton → List ℕ → Type 0
AcceptsText automaton text = AcceptsFrom automaton.table automaton.table.initial text

-- the automaton accepts the word, whose letters are the symbols of a plain alphabet
abbrev pub Accepts : Automaton → List ℕ → Type 0
Accepts = AcceptsText

-- the automaton accepts the pair of words
abbrev pub AcceptsPair : Automaton → List ℕ → List ℕ → Type 0
AcceptsPair automaton u v = AcceptsText automaton (padded (generators automaton.alphabet) u v)

-- the automata accept the same texts, and so the same words or pairs
abbrev pub SameLanguage : Automaton → Automaton → Type 0
SameLanguage one other = (text : List ℕ) → AcceptsText one text ↔ AcceptsText other text
