use Rattle.std.proofs.Common.{◌∙◌, sym, ap, length, arith}
use Rattle.kb_task.proofs.StoreLemmas.{storing-first, storing-next, storing-last, storing-end}
use Rattle.kb_task.proofs.storing.store_texts.Goals as goal

pub returns-in-Err : goal.returns-in-Err
returns-in-Err g c = λ input output.
    let storing = storing-first c.in-Some.file c.next.new.self.rest.items c.in-Some.ensures.steps.0 c.loop-file.invariant.storing in
    storing.runs input output _ c.in-Err.status (c.in-Err.ensures.ends _ input output)

pub loop-file-preserved : goal.loop-file-preserved
loop-file-preserved g c =
    let is = c.loop-file.invariant in
    let step = c.in-Some.ensures.steps in record {
      counted = omega (arith, step.1, is.counted, ap length step.0);
      storing = storing-next (storing-first c.in-Some.file c.next.new.self.rest.items step.0 is.storing) c.in_default.ensures.puts;
    }

pub returns : goal.returns
returns g c = λ input output.
    let is = c.loop-file.invariant in
    storing-end input output (storing-last c.loop-file.file-iterator.rest.items (sym is.counted ∙ c.in-None.ensures.steps.0) is.storing)
