use Rattle.std.proofs.Common.{◌<◌, get_or, arith}
use Rattle.std.proofs.lemmas.List.{get_or_read}
use Rattle.kb_fsamin.proofs.Counting.{counts_more}
use Rattle.kb_fsamin.proofs.partition.counts_of.Goals as goal

pub loop-part-preserved : goal.loop-part-preserved
loop-part-preserved c =
    let of = c.args.of.now in
    let done = c.loop-part.part-index in
    let counts = c.loop-part.counts.items in
    let known : get_or of done 0 < c.args.count = c.requires.known done 0 (omega arith) in
    counts_more of done c.args.count counts c.index_mut.result.now (omega arith) known
    (get_or_read counts (get_or of done 0) _ (omega (arith, c.loop-part.invariant.one_each)) c.index_mut.ensures.value 0)
    c.loop-part.invariant
