-- The machine of left sides: a word leads to its place.
use Rattle.std.specs.Prelude.{ℕ, zero, suc, Bool, true, false, Option, Some, None, if◌then◌else◌}
use Rattle.kb_fsa.specs.declared.alphabet.Alphabet.TheVariants.{Plain}
use Rattle.kb_fsa.specs.Table.{Table, step}
use Rattle.kb_fsa.specs.EndedWords.{is_symbol}
use Rattle.kb_fsa.specs.Language.{Automaton, generators}
use Rattle.kb_explore.specs.Machine.{Machine}
use Rattle.kb_minkb.specs.declared.place.LeftPlace.{LeftPlace}
use Rattle.kb_minkb.specs.declared.place.LeftPlace.TheVariants.{Start, Inside, End}

-- the place of a word that leads to these two states, itself and without its first letter
abbrev pub place_of : ℕ → ℕ → Option LeftPlace
place_of own zero = None
place_of zero (suc behind) = Some End
place_of (suc own) (suc behind) = Some (Inside (suc own) (suc behind))

-- the place after a letter more
abbrev pub next_place : Table → LeftPlace → ℕ → Option LeftPlace
next_place table Start letter = place_of (step table table.initial letter) table.initial
next_place table (Inside own behind) letter =
    place_of (step table own letter) (step table behind letter)
next_place table End letter = None

abbrev pub is_end : LeftPlace → Bool
is_end Start = false
is_end (Inside own behind) = false
is_end End = true

-- the machine that leads each word to its place
abbrev pub left_sides : Automaton → Machine LeftPlace
left_sides acceptor = record {
  start = Some Start;
  follow = λ place letter. if is_symbol (Plain (generators acceptor.alphabet)) letter
      then next_place acceptor.table place letter
      else None;
  accepts = is_end;
}
