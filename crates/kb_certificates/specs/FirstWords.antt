-- The first words of the pairs that a nondeterministic automaton accepts.
use Rattle.std.specs.Prelude.{◌≡◌, ◌↔◌, ℕ, suc, Bool, false, true, IsTrue, List, [], length, map, get_or}
use Rattle.std.specs.List.{filter_map}
use Rattle.kb_word.specs.Relations.{IsOver}
use Rattle.kb_fsa.specs.declared.alphabet.Alphabet.TheVariants.{Plain}
use Rattle.kb_fsa.specs.Padding.{padded}
use Rattle.kb_fsa.specs.Language.{generators}
use Rattle.kb_fsadet.specs.Nondeterministic.{Nondeterministic, AcceptsSomehow, LeadsFrom, accepts_at}
use Rattle.kb_fsadet.specs.FirstWords.{by_first}

-- a second word that the automaton of pairs accepts, in some way, beside the word
pub record HasSecond (pairs : Nondeterministic) (word : List ℕ) : Type 0 where
  pub second : List ℕ
  pub first_over : IsOver (generators pairs.alphabet) word
  pub second_over : IsOver (generators pairs.alphabet) second
  pub accepts : AcceptsSomehow pairs (padded (generators pairs.alphabet) word second)

-- from the state the text leads to acceptance in some way
abbrev pub AcceptsFrom : Nondeterministic → ℕ → List ℕ → Type 0
AcceptsFrom automaton state text =
    (last : ℕ) × LeadsFrom automaton state text last × IsTrue (accepts_at automaton last)

-- from the state the rest of some second word, after the first word, leads to acceptance
abbrev pub EndsFrom : ℕ → Nondeterministic → ℕ → Type 0
EndsFrom n pairs state =
    (second : List ℕ) × (IsOver n second × AcceptsFrom pairs state (padded n [] second))

-- which of states 1, 2, and so on are such
pub record AreEnds (n : ℕ) (pairs : Nondeterministic) (marks : List Bool) : Type 0 where
  pub one_each : length marks ≡ length pairs.rows
  pub ends : (place : ℕ) → (get_or marks place false ≡ true) ↔ EndsFrom n pairs (suc place)

-- The automaton without the second words: it moves by the first letters, and accepts where a second word may end the
-- pair.
abbrev pub without_second : ℕ → Nondeterministic → List Bool → Nondeterministic
without_second n pairs ends = record {
  alphabet = Plain n;
  initial = pairs.initial;
  rows = map (filter_map (by_first n)) pairs.rows;
  accepting = ends;
}
