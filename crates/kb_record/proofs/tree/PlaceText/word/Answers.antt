use Rattle.std.proofs.Common.{◌≡◌, true, false, Some, sym, ap, ◌∙◌, arith}
use Rattle.kb_record.specs.Tree.{Factors, word_value}
use Rattle.kb_record.specs.Reading.{remaining, begins_word}
use Rattle.kb_record.specs.View.{first_place_in}
use Rattle.kb_record.proofs.PlaceTexts.{first_word_shown, no_first_word}
use Rattle.kb_record.proofs.tree.PlaceText.word.Goals as goal

pub returns-then-not-begins_word-clause-none : goal.returns-then-not-begins_word-clause-none
returns-then-not-begins_word-clause-none c = λ (fs : Factors) is.
    let none : begins_word (remaining c.new-tokens.result) ≡ false = grind arith in
    no_first_word (remaining c.new-tokens.result) fs none (ap first_place_in c.new-tokens.ensures ∙ is)

pub returns-clause-found : goal.returns-clause-found
returns-clause-found c =
    let begins : begins_word (remaining c.new-tokens.result) ≡ true = grind arith in
    ap first_place_in (sym c.new-tokens.ensures) ∙ first_word_shown (remaining c.new-tokens.result) begins ∙ ap (λ fs. Some (word_value fs)) (sym c.word.ensures)
