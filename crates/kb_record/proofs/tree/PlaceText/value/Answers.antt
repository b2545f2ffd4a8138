use Rattle.std.proofs.Common.{◌≡◌, true, false, Some, sym, ap, ◌∙◌, arith}
use Rattle.kb_record.specs.Tree.{word_value}
use Rattle.kb_record.specs.Nesting.{deepest}
use Rattle.kb_record.specs.Reading.{remaining, begins_word, ends_place, read_value}
use Rattle.kb_record.specs.View.{first_place_in, value_in}
use Rattle.kb_record.proofs.PlaceTexts.{place_ended, first_word_shown, first_read}
use Rattle.kb_record.proofs.Views.{view-Word}
use Rattle.kb_record.proofs.tree.PlaceText.value.Goals as goal

pub returns-then-ends_place : goal.returns-then-ends_place
returns-then-ends_place c =
    let ended : ends_place (remaining c.new-tokens.result) ≡ true = grind arith in
    sym (ap first_place_in (sym c.new-tokens.ensures) ∙ place_ended (remaining c.new-tokens.result) ended)

pub returns-then-begins_word : goal.returns-then-begins_word
returns-then-begins_word c =
    let begins : begins_word (remaining c.new-tokens.result) ≡ true = grind arith in
    ap Some (view-Word c.word.result ∙ ap word_value c.word.ensures) ∙ sym (first_word_shown (remaining c.new-tokens.result) begins) ∙ ap first_place_in c.new-tokens.ensures

pub returns : goal.returns
returns c =
    let full : ends_place (remaining c.new-tokens.result) ≡ false = grind arith in
    let none : begins_word (remaining c.new-tokens.result) ≡ false = grind arith in
    ap Some (c.in_ok-value.ensures ∙ ap (λ ts. value_in (read_value deepest ts)) (sym c.new-tokens.ensures)) ∙ sym (first_read (remaining c.new-tokens.result) full none) ∙ ap first_place_in c.new-tokens.ensures
