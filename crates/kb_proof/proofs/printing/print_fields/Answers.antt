use Rattle.std.proofs.Common.{◌≡◌, ◌++◌, ◌∷◌, sym, subst}
use Rattle.std.specs.Prelude.{OnOk}
use Rattle.kb_proof.specs.Printed.{derivations_text, text_of_fields}
use Rattle.kb_proof.specs.declared.log.Version.{Version}
use Rattle.kb_proof.specs.declared.log.Version.TheVariants.{Two}
use Rattle.kb_proof.proofs.PartLemmas.{on_ok}
use Rattle.kb_proof.proofs.PrintLemmas.{fields_two}
use Rattle.kb_proof.proofs.printing.print_fields.Goals as goal

pub returns-in-Two : goal.returns-in-Two
returns-in-Two c =
    let line = c.args.line.now in
    let out = c.args.out.now.items in
    let sides = c.print_sides.new.out.items in
    let new = c.print_derivations.new.out.items in
    let P : Version → Type 0 = λ version. OnOk c.print_derivations.result (new ≡ out ++ 32 ∷ text_of_fields version c.args.names.now c.args.sign.now line) in
    subst P (sym c.in-Two.is)
    (on_ok (new ≡ sides ++ derivations_text line.first_steps.items line.second_steps.items) (new ≡ out ++ 32 ∷ text_of_fields Two c.args.names.now c.args.sign.now line)
    c.print_derivations.result c.print_derivations.ensures
    (fields_two c.args.names.now c.args.sign.now line out sides new c.in_ok-print_sides.ensures))
