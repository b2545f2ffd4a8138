-- The functions that read with a depth, one level opened.
use Rattle.std.proofs.Common.{◌≡◌, ℕ, zero, suc, List, true, false, if◌then◌else◌, Some, None, Result, refl, sym, ap, ◌∙◌, subst}
use Rattle.kb_lexing.specs.Token.{Token}
use Rattle.kb_record.specs.Tree.{word_value}
use Rattle.kb_record.specs.Reading.{Reading, Reads, behind, reading_map, begins_word, read_scalar, value_behind, word_with, read_word, read_group, value_with, read_value, read_list, read_fields, read_record}
use Rattle.kb_record.specs.declared.cursor.Mark.TheVariants.{Rec, OpenSquare}
use Rattle.kb_record.specs.declared.cursor.Stop.{Stop}

pub read_word_is : (depth : ℕ) (tokens : List Token) → read_word depth tokens ≡ word_with (read_group depth) tokens
unfolding read_word
read_word_is zero tokens = refl
read_word_is (suc depth) tokens = refl

pub read_value_is : (depth : ℕ) (tokens : List Token) → read_value depth tokens ≡ value_with (read_word depth) (read_list depth) (read_fields depth) tokens
unfolding read_value
read_value_is zero tokens = refl
read_value_is (suc depth) tokens = refl

module _ (depth : ℕ) (tokens : List Token) where
  pub value-word : begins_word tokens ≡ true → read_value depth tokens ≡ reading_map word_value (read_word depth tokens)
  value-word e =
      read_value_is depth tokens
      ∙ ap (λ b. if b then reading_map word_value (read_word depth tokens) else value_behind (read_list depth) (read_fields depth) tokens (behind Rec tokens) (behind OpenSquare tokens)) e

  pub value-no_word : begins_word tokens ≡ false → read_value depth tokens ≡ value_behind (read_list depth) (read_fields depth) tokens (behind Rec tokens) (behind OpenSquare tokens)
  value-no_word e =
      read_value_is depth tokens
      ∙ ap (λ b. if b then reading_map word_value (read_word depth tokens) else value_behind (read_list depth) (read_fields depth) tokens (behind Rec tokens) (behind OpenSquare tokens)) e

  pub value-record : (rest : List Token) → begins_word tokens ≡ false → behind Rec tokens ≡ Some rest → read_value depth tokens ≡ read_record depth rest
  value-record rest e f = value-no_word e ∙ ap (λ o. value_behind (read_list depth) (read_fields depth) tokens o (behind OpenSquare tokens)) f

  pub value-list : (rest : List Token) → begins_word tokens ≡ false → behind Rec tokens ≡ None → behind OpenSquare tokens ≡ Some rest → read_value depth tokens ≡ read_list depth rest
  value-list rest e f h =
      value-no_word e ∙ ap (λ o. value_behind (read_list depth) (read_fields depth) tokens o (behind OpenSquare tokens)) f
      ∙ ap (λ o. value_behind (read_list depth) (read_fields depth) tokens None o) h

  pub value-scalar : begins_word tokens ≡ false → behind Rec tokens ≡ None → behind OpenSquare tokens ≡ None → read_value depth tokens ≡ read_scalar tokens
  value-scalar e f h =
      value-no_word e ∙ ap (λ o. value_behind (read_list depth) (read_fields depth) tokens o (behind OpenSquare tokens)) f
      ∙ ap (λ o. value_behind (read_list depth) (read_fields depth) tokens None o) h

pub same_reading : {A B : Type 0} (whole reading : Reading A) (view : B → A) (result : Result B Stop) (rest : List Token) → whole ≡ reading → Reads reading view result rest → Reads whole view result rest
same_reading whole reading view result rest e h = let P : Reading _ → Type 0 = λ r. Reads r view result rest in subst P (sym e) h
