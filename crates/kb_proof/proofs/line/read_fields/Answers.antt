use Rattle.std.proofs.Common.{◌∙◌, sym, true≢false}
use Rattle.kb_proof.specs.Printed.{field_texts}
use Rattle.kb_proof.specs.Reading.{texts_in}
use Rattle.kb_proof.proofs.LineLemmas.{fields_no, fields_printed, fields_read, fields_some, printable_read, same_fields, steps_agree}
use Rattle.kb_proof.proofs.line.read_fields.Goals as goal

pub returns-in_default : goal.returns-in_default
returns-in_default c = λ line h e.
    c.in_default.ensures.none (field_texts c.args.names.now line)
    (fields_printed c.args.version c.args.names.now c.args.sign.now c.args.bytes.now line c.requires.names c.requires.sign h e)

pub returns-in_default-2 : goal.returns-in_default-2
returns-in_default-2 c = λ line h e.
    let names = c.args.names.now in
    let texts = texts_in c.in-Some.fields in
    fields_no names texts c.in_ok-line.field-0 c.in_ok-line.ensures c.in_default-2.is line h.fits
    (same_fields c.args.version names c.args.sign.now c.args.bytes.now texts line c.in-Some.ensures.fields
    (fields_printed c.args.version names c.args.sign.now c.args.bytes.now line c.requires.names c.requires.sign h e))

pub returns-then-has_too_many_steps : goal.returns-then-has_too_many_steps
returns-then-has_too_many_steps c = λ line h e.
    let names = c.args.names.now in
    let texts = texts_in c.in-Some.fields in
    let own = fields_some names texts c.in_ok-line.field-0 c.in-Some-2.line c.in_ok-line.ensures c.in-Some-2.is in
    let are = same_fields c.args.version names c.args.sign.now c.args.bytes.now texts line c.in-Some.ensures.fields
    (fields_printed c.args.version names c.args.sign.now c.args.bytes.now line c.requires.names c.requires.sign h e) in
    true≢false (sym c.if-has_too_many_steps.true
    ∙ c.has_too_many_steps.ensures.1 (steps_agree c.args.version names texts c.in-Some-2.line line own.0 own.1 are h))

pub returns : goal.returns
returns c =
    let names = c.args.names.now in
    let texts = texts_in c.in-Some.fields in
    let own = fields_some names texts c.in_ok-line.field-0 c.in-Some-2.line c.in_ok-line.ensures c.in-Some-2.is in (
      fields_read c.args.version names c.args.sign.now c.args.bytes.now texts c.in-Some-2.line c.in-Some.ensures.fields own.0,
      printable_read c.args.version names c.args.sign.now c.args.bytes.now texts c.in-Some-2.line c.in-Some.ensures.fields own.0 own.1
          (c.has_too_many_steps.ensures.0 c.if-has_too_many_steps.false),
    )
