use Rattle.kb_word.specs.Overlap.{IsConfluent}
use Rattle.kb_word.specs.Presentations.{parts_of}
use Rattle.kb_cmd_words.proofs.RunLemmas.{no-refutes}
use Rattle.kb_cmd_words.proofs.run.answer_by.Goals as goal

pub print_no-requires : goal.print_no-requires
print_no-requires g c =
    no-refutes (parts_of c.args.presentation) c.in-Ok.rules.rules (IsConfluent c.in-Ok.rules.rules) c.in-Ok-No.field-0-0 c.in-Ok-No.field-0-1 c.in-Ok-No.field-0-2 c.in-Ok-No.u c.in-Ok-No.v
    c.in-Ok.ensures.oriented (rw c.in-Ok-No.field-0-is at c.in-Ok-No.ensures.verdict) (rw c.in-Ok-No.field-0-is at c.in-Ok-No.ensures.counterexample)

pub returns-in-Ok-No : goal.returns-in-Ok-No
returns-in-Ok-No g c = λ shelf. c.print_no.ensures shelf (g.I.Source.state c.args.input.now)
