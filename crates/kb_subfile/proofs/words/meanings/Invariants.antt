use Rattle.std.proofs.Common.{◌≡◌, List, take}
use Rattle.kb_word.specs.Presentations.{parts_of}
use Rattle.kb_record.specs.Tree.{Factors, list_value}
use Rattle.kb_record.specs.View.{value_view}
use Rattle.kb_subfile.specs.Holds.{list_of_words, Mean}
use Rattle.kb_subfile.proofs.WordLemmas.{NoneBefore}
use Rattle.kb_subfile.proofs.words.meanings.Given as goal

abbrev pub invariant-loop-place : goal.invariant-loop-place
invariant-loop-place l = record {
  mean : (words : List Factors) → value_view l.value ≡ list_value (list_of_words words)
      → Mean (parts_of l.presentation) (take l.place words) l.generators.items;
  none : (words : List Factors) → value_view l.value ≡ list_value (list_of_words words)
      → NoneBefore (parts_of l.presentation) words l.place;
}
