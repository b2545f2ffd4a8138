use Rattle.std.proofs.Common.{rules, ◌≡◌, ◌+◌, ◌++◌, List, length, sym, subst}
use Rattle.std.specs.Prelude.{All}
use Rattle.std.proofs.lemmas.List.Elements.{All-push}
use Rattle.kb_machine.specs.declared.line.Line.{Line}
use Rattle.kb_proof.specs.Printable.{IsPrintableLine}
use Rattle.kb_proof.specs.Printed.{text_of_line, text_of_lines}
use Rattle.kb_proof.specs.Reading.{StandsFirst}
use Rattle.kb_proof.proofs.LogLemmas.{lines_read}
use Rattle.kb_proof.proofs.reader.read_body.Goals as goal

pub loop-lines-preserved : goal.loop-lines-preserved
loop-lines-preserved c =
    let version = c.args.version in
    let names = c.args.names.now in
    let lines = c.loop-lines.lines.items in
    let behind = c.in-Some.behind.now in
    let first : StandsFirst c.args.version c.args.names.now (text_of_line c.args.version c.args.names.now (c.len.result + 1)) c.loop-lines.rest.now c.in-Some.line c.in-Some.behind.now =
    search rules in
    let number : c.len.result + 1 ≡ length c.loop-lines.lines.items + 1 = search rules in
    let P : List Line → Type 0 = λ l. c.args.body.now ≡ text_of_lines version names 1 l ++ behind in
    let Q : List Line → Type 0 = λ l. All (IsPrintableLine version names) l in record {
      whole = subst P (sym c.in_ok-push.ensures.items)
          (lines_read version names c.args.body.now lines c.loop-lines.rest.now behind c.in-Some.line (c.len.result + 1) c.loop-lines.invariant.whole first number);
      printable = subst Q (sym c.in_ok-push.ensures.items)
          (All-push (IsPrintableLine version names) lines c.in-Some.line c.loop-lines.invariant.printable first.printable);
    }
