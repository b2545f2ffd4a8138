use Rattle.std.proofs.Common.{◌+◌, ◌*◌, ◌≤◌, length}
use Rattle.kb_record.specs.Meaning.{most_letters}
use Rattle.kb_wordreader.specs.Factors.{Adds}
use Rattle.kb_wordreader.proofs.FactorLemmas.{Going}
use Rattle.kb_wordreader.proofs.factors.+factors.Given as goal

abbrev pub decreases-take_factors : goal.decreases-take_factors
decreases-take_factors l = 4 * l.depth + 3

abbrev pub decreases-take_factor : goal.decreases-take_factor
decreases-take_factor l = 4 * l.depth + 2

abbrev pub decreases-take_base : goal.decreases-take_base
decreases-take_base l = 4 * l.depth + 1

abbrev pub decreases-take_group : goal.decreases-take_group
decreases-take_group l = 4 * l.depth

abbrev pub invariant-take_factors-loop-rest : goal.invariant-take_factors-loop-rest
invariant-take_factors-loop-rest l = record {
  going : Adds (Going l.presentation.names l.presentation.inv l.depth l.fn.text l.text) l.initial.word l.word;
  few : length l.word ≤ most_letters;
  shorter : length l.text ≤ length l.initial.text;
}

abbrev pub decreases-take_factors-loop-rest : goal.decreases-take_factors-loop-rest
decreases-take_factors-loop-rest l = length l.text
