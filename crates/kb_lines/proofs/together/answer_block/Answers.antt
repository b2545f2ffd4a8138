use Rattle.std.proofs.Common.{rules, ◌∷◌, length, ap, arith, length-append}
use Rattle.kb_io.specs.Bytes.{newline}
use Rattle.kb_lines.proofs.TogetherLemmas.{within-next, within-refused}
use Rattle.kb_lines.proofs.together.answer_block.Goals as goal

pub loop-line-preserved : goal.loop-line-preserved
loop-line-preserved g c =
    let kept = c.loop-line.invariant in
    let line = c.in-Some.line.now in
    let behind = c.in-Some.behind.now in
    let longer = ap length c.in-Some.ensures.split in
    record {
      within = within-next line behind kept.within c.in-Some.ensures.split c.in-Some.ensures.line c.in-Ok.ensures.given;
      number = omega (arith, kept.number, longer, length-append line (newline ∷ behind));
    }

-- the line is refused
pub returns-in-Err : goal.returns-in-Err
returns-in-Err g c =
    let kept = c.loop-line.invariant in
    within-refused c.in-Some.line.now c.in-Some.behind.now c.answer_line.new.pending.items c.in-Err.fault kept.within c.in-Some.ensures.split
    c.in-Some.ensures.line (c.in-Err.ensures.faulty (search rules)) c.in-Err.ensures.kept
