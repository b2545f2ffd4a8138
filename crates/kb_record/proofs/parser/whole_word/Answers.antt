use Rattle.std.proofs.Common.{◌≡◌, true, sym, ap, ◌∙◌}
use Rattle.kb_record.specs.Reading.{read, remaining, and_then, ended, finished}
use Rattle.kb_record.specs.View.{factors_in}
use Rattle.kb_record.proofs.parser.whole_word.Goals as goal

pub returns : goal.returns
returns c =
    let rest = remaining c.pass_word.new.tokens in
    let found = c.in_ok-pass_word.ensures.reads in
    let none_left : ended c.args.whole rest ≡ read true rest = c.in_ok-end.ensures in
    ap (finished c.args.whole) found.1 ∙ ap (λ r. and_then r (λ done others. read found.0 others)) none_left ∙ ap (λ fs. read fs rest) (sym (c.word-word.ensures ∙ ap factors_in found.1))
