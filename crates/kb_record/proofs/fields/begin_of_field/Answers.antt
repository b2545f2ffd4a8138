use Rattle.std.proofs.Common.{rules}
use Rattle.kb_record.specs.Reading.{remaining}
use Rattle.kb_record.proofs.FieldTexts.{field_begun, no_name_begins, no_mark_begins}
use Rattle.kb_record.proofs.fields.begin_of_field.Goals as goal

pub returns-in_err-name : goal.returns-in_err-name
returns-in_err-name c = search (rules, no_name_begins)

pub returns-then-take : goal.returns-then-take
returns-then-take c =
    field_begun (remaining c.args.tokens.now) (remaining c.take_name.new.self) (remaining c.take.new.self) c.in_ok-name.name.now c.in_ok-name.ensures.passes c.if-take.ensures.passes

pub returns-else-take : goal.returns-else-take
returns-else-take c =
    no_mark_begins (remaining c.args.tokens.now) (remaining c.take_name.new.self) c.in_ok-name.name.now c.in_ok-name.ensures.passes c.if-take.ensures.passes.0
