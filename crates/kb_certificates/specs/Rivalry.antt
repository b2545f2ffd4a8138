-- The branching machine that reads a pair, and guesses a lesser second word, its rival, beside the same first word.
use Rattle.std.specs.Prelude.{ℕ, zero, suc, ◌+◌, Bool, true, false, not, ◌&&◌, nat_eq, nat_le, nat_lt, List, [], ◌∷◌, ◌++◌, map, Option, Some, None, if◌then◌else◌}
use Rattle.std.specs.List.{filter_map, flat_map}
use Rattle.kb_fsa.specs.declared.alphabet.Alphabet.TheVariants.{Pair}
use Rattle.kb_fsa.specs.Table.{Table, is_accepting, moves_of, step}
use Rattle.kb_fsa.specs.PairSymbols.{first_letter, pair_symbol, pads_second, second_letter}
use Rattle.kb_branching.specs.Branching.{Branching}
use Rattle.kb_certificates.specs.declared.later_pairs.relation.Relation.{Relation}
use Rattle.kb_certificates.specs.declared.later_pairs.relation.Relation.TheVariants.{Same, Earlier, Later, Ended}
use Rattle.kb_certificates.specs.declared.later_pairs.rivals.Rivals.{Rivals}

-- how the rival compares with the second word after a letter more of each
abbrev pub compared : Relation → ℕ → ℕ → Relation
compared Same a b = if nat_lt a b then Earlier else (if nat_eq a b then Same else Later)
compared relation a b = relation

-- whether it is less, where both end
abbrev pub is_less : Relation → Bool
is_less Earlier = true
is_less Ended = true
is_less relation = false

-- whether it may have a letter beside the second word's letter or padding
abbrev pub goes_on : ℕ → Relation → ℕ → Bool
goes_on n Ended b = false
goes_on n relation b = not (nat_eq b (n + 1))

-- the state, if it is one, with the relation
abbrev pub rival_at : ℕ → Relation → List (ℕ × Relation)
rival_at zero relation = []
rival_at (suc state) relation = (suc state, relation) ∷ []

-- where the rival's padding leads beside a letter; beside padding the pair has ended, and its state stays
abbrev pub paused : ℕ → Table → ℕ → ℕ → ℕ
paused n table state a = if nat_le a n then step table state (pair_symbol n a (n + 1)) else state

-- where a move leads, if it has the first letter a and a letter of the rival, which is beside b
abbrev pub rival_by : ℕ → Relation → ℕ → ℕ → ℕ × ℕ → Option (ℕ × Relation)
rival_by n relation a b move =
    if nat_eq (first_letter n move.0) a && not (pads_second n move.0)
    then Some (move.1, compared relation (second_letter n move.0) b) else None

-- where the rival may be after the letters a and b of the pair
abbrev pub rivals_by : ℕ → Table → ℕ → Relation → ℕ → ℕ → List (ℕ × Relation)
rivals_by n table rival relation a b = if goes_on n relation b
    then rival_at (paused n table rival a) Ended ++ filter_map (rival_by n relation a b) (moves_of table rival)
    else rival_at (paused n table rival a) relation

-- a move by the symbol to the state, with where the rival may be
abbrev pub with_rival : ℕ → ℕ → ℕ × Relation → ℕ × Rivals
with_rival symbol own rival =
    (symbol, record { own = own; rival = rival.0; relation = rival.1 })

-- the moves by one move of the pair
abbrev pub moves_by : ℕ → Table → Rivals → ℕ × ℕ → List (ℕ × Rivals)
moves_by n table rivals move = map (with_rival move.0 move.1)
    (rivals_by n table rivals.rival rivals.relation (first_letter n move.0) (second_letter n move.0))

-- both begin together
abbrev pub starts_at : ℕ → List Rivals
starts_at zero = []
starts_at (suc state) = record { own = suc state; rival = suc state; relation = Same } ∷ []

abbrev pub rivalry : ℕ → Table → Branching Rivals
rivalry n table = record {
  alphabet = Pair n;
  starts = starts_at table.initial;
  moves = λ rivals. flat_map (moves_by n table rivals) (moves_of table rivals.own);
  accepts = λ rivals. is_accepting table rivals.own && is_accepting table rivals.rival
      && is_less rivals.relation;
}
