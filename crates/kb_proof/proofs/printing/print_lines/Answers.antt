use Rattle.kb_proof.proofs.PrintLemmas.{line_printed}
use Rattle.kb_proof.proofs.printing.print_lines.Goals as goal

pub loop-index-preserved : goal.loop-index-preserved
loop-index-preserved c =
    line_printed c.args.version c.args.names.now c.args.lines.now c.loop-index.index c.index-lines-index.result c.loop-index.out.items
    c.print_number.new.out.items c.print_fields.new.out.items c.push.new.self.items c.args.out.now.items c.loop-index-test.true c.index-lines-index.is
    c.loop-index.invariant c.in_ok-print_number.ensures c.in_ok-print_fields.ensures c.in_ok-push.ensures.items
