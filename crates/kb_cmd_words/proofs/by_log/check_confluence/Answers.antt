use Rattle.std.proofs.Common.{◌∙◌, subst}
use Rattle.kb_word.specs.Overlap.{IsConfluent}
use Rattle.kb_word.specs.Presentations.{parts_of}
use Rattle.kb_cmd_words.proofs.LogLemmas.{no_objects}
use Rattle.kb_cmd_words.proofs.LogRuns.{run-nothing}
use Rattle.kb_cmd_words.proofs.by_log.check_confluence.Goals as goal

pub returns-in-Ok-Yes : goal.returns-in-Ok-Yes
returns-in-Ok-Yes g c = λ shelf.
    let confluent : IsConfluent c.list.result.now.rules = c.in-Ok-Yes.ensures.confluent.0 c.in-Ok-Yes.field-0-is in
    c.answer_all.ensures c.args.log.now shelf
    (record {
      justified = c.requires.justified;
      joined = c.requires.joined;
      confluent = subst IsConfluent (c.list.ensures.rules ∙ c.requires.lines) confluent;
    })
    c.requires.lines

pub returns-in-Ok-No : goal.returns-in-Ok-No
returns-in-Ok-No g c = λ shelf.
    let rules = c.list.result.now.rules in
    c.print_objection.ensures c.args.log.now shelf (g.I.Source.state c.args.input.now)
    (no_objects (parts_of c.args.presentation) c.args.log.now rules (IsConfluent rules) c.in-Ok-No.field-0-0 c.in-Ok-No.field-0-1 c.in-Ok-No.field-0-2
    c.in-Ok-No.u c.in-Ok-No.v c.requires.justified c.requires.joined (c.list.ensures.rules ∙ c.requires.lines)
    (rw c.in-Ok-No.field-0-is at c.in-Ok-No.ensures.verdict) (rw c.in-Ok-No.field-0-is at c.in-Ok-No.ensures.counterexample))

pub returns-in-Err : goal.returns-in-Err
returns-in-Err g c = λ shelf.
    run-nothing (parts_of c.args.presentation) c.args.log.now shelf (g.I.Source.state c.args.input.now) (g.O.Sink.state c.args.out.now)
