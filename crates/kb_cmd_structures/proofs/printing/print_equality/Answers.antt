use Rattle.std.proofs.Common.{◌≡◌, ◌++◌, Option, length, sym, refl, subst}
use Rattle.std.proofs.lemmas.Option.{slice_get_read}
use Rattle.kb_word.specs.Printed.{text_of_word}
use Rattle.kb_kept.specs.declared.equality.Equality.{Equality}
use Rattle.kb_cmd_structures.specs.Printed.{text_of_equality, word_of}
use Rattle.kb_cmd_structures.proofs.Fields.{three_fields}
use Rattle.kb_cmd_structures.proofs.printing.print_equality.Goals as goal

pub returns : goal.returns
returns c =
    let names = c.args.names.now in
    let equality : Equality = c.in-Some.equality.now in
    let P : Option Equality → Type 0 = λ found. c.push.new.self.items ≡ c.args.text.now.items ++ text_of_equality names found in
    let equalities = c.args.equalities.now in
    let found = c.in-Some.ensures.lookup in
    subst P (sym (slice_get_read equalities (length equalities) c.args.index equality refl found.3.0 found.1))
    (three_fields c.args.text.now.items (text_of_word names equality.u) (text_of_word names equality.v) (text_of_word names (word_of equality.x))
    c.print_field.new.text.items c.print_field-2.new.text.items c.print_generator.new.text.items c.push.new.self.items c.in_ok-print_field.ensures
    c.in_ok-print_field-2.ensures c.in_ok-print_generator.ensures c.in_ok-push.ensures.items)
