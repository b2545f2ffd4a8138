-- Left sides that a word acceptor has, and what is counted on the way to them.
use Rattle.std.specs.Prelude.{◌≡◌, ◌≢◌, ℕ, ◌-◌, List, [], length, take, drop}
use Rattle.kb_word.specs.Relations.{IsOver}
use Rattle.kb_fsa.specs.Table.{state_after}
use Rattle.kb_fsa.specs.Language.{Automaton, Accepts, generators}
use Rattle.kb_fsa.specs.Counted.{MoreSetsThan}
use Rattle.kb_minkb.specs.declared.place.LeftPlace.{LeftPlace}
use Rattle.kb_minkb.specs.declared.place.LeftPlace.TheVariants.{Start, Inside, End}

-- A word over n letters that isn't one of the given words, but is without its first letter, and without its last.
pub record IsJustOutside (n : ℕ) (Given : List ℕ → Type 0) (w : List ℕ) : Type 0 where
  pub letters : IsOver n w
  pub outside : ¬ Given w
  pub behind_first : Given (drop 1 w)
  pub before_last : Given (take (length w - 1) w)

-- the acceptor doesn't accept the word, but accepts it without its first letter, and without its last
abbrev pub IsLeftSide : Automaton → List ℕ → Type 0
IsLeftSide acceptor = IsJustOutside (generators acceptor.alphabet) (Accepts acceptor)

-- the word leads to a state
abbrev pub LeadsSomewhere : Automaton → List ℕ → Type 0
LeadsSomewhere automaton w = state_after automaton.table w ≢ 0

-- Each word that leads to a state is accepted. So it is with the canonical acceptor of words that are closed under
-- prefixes.
abbrev pub AcceptsEachState : Automaton → Type 0
AcceptsEachState acceptor = (w : List ℕ) → LeadsSomewhere acceptor w → Accepts acceptor w

-- What is counted of a word: that it is the empty one; or the two states to which it leads, itself and without its
-- first letter; or that it leads to none, but does without its first letter, and without its last.
pub data HasPlace (acceptor : Automaton) (w : List ℕ) : LeftPlace → Type 0 where
  at_start : w ≡ [] → HasPlace acceptor w Start
  inside : {own behind : ℕ} → w ≢ [] → state_after acceptor.table w ≡ own
      → state_after acceptor.table (drop 1 w) ≡ behind
      → own ≢ 0
      → behind ≢ 0 → HasPlace acceptor w (Inside own behind)
  at_end : IsJustOutside (generators acceptor.alphabet) (LeadsSomewhere acceptor) w
      → HasPlace acceptor w End

-- `minred` counts these places of words
abbrev pub CountedMinred : Automaton → ℕ → Type 0
CountedMinred acceptor = MoreSetsThan (HasPlace acceptor)
