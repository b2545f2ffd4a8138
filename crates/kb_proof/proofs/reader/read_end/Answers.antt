use Rattle.std.proofs.Common.{rules, ◌≡◌, ◌≢◌, ◌+◌, [], length}
use Rattle.kb_proof.specs.Printed.{text_of_open}
use Rattle.kb_proof.specs.Reading.{StandsFirst}
use Rattle.kb_proof.proofs.LogLemmas.{wrong_past}
use Rattle.kb_proof.proofs.reader.read_end.Goals as goal

pub returns-then-not-is_empty-clause-fault : goal.returns-then-not-is_empty-clause-fault
returns-then-not-is_empty-clause-fault c =
    let first : StandsFirst c.args.version c.args.names.now (text_of_open c.args.version c.args.names.now) c.args.rest.now c.in-Some.line c.in-Some.behind.now =
    search rules in
    let some : c.in-Some.behind.now ≢ [] = search rules in
    let number : c.len-count.result + 3 ≡ length c.args.lines.items + 3 = search rules in
    wrong_past c.args.version c.args.names.now c.args.lines.items c.args.rest.now c.in-Some.behind.now c.in-Some.line (c.len-count.result + 3)
    c.requires.lines first some number
