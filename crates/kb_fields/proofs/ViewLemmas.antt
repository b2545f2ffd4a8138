-- The trees of words as values.
use Rattle.std.proofs.Common.{◌≡◌, Some}
use Rattle.kb_record.specs.Tree.{Factors, word_value}

pub one_word : {u v : Factors} → word_value u ≡ word_value v → u ≡ v
one_word e = cc

pub one_word_at : {u v : Factors} → Some (word_value u) ≡ Some (word_value v) → u ≡ v
one_word_at e = cc
