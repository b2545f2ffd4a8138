use Rattle.std.proofs.Common.{sym, ap, ◌∙◌}
use Rattle.kb_record.specs.Tree.{word_value}
use Rattle.kb_record.specs.Reading.{read, remaining, reading_map}
use Rattle.kb_record.proofs.Deeper.{first_word_is}
use Rattle.kb_record.proofs.Views.{view-Word}
use Rattle.kb_record.proofs.records.word_value.Goals as goal

pub returns-clause-reads : goal.returns-clause-reads
returns-clause-reads c =
    let rest = remaining c.pass_word.new.tokens in
    let found = c.in_ok-pass_word.ensures.reads in
    let same = c.word-word.ensures ∙ first_word_is c.args.depth (remaining c.args.tokens.now) rest found.0 c.requires found.1 in
    ap (reading_map word_value) found.1 ∙ ap (λ fs. read (word_value fs) rest) (sym same) ∙ ap (λ v. read v rest) (sym (view-Word c.word-word.result))
