use Rattle.std.proofs.Common.{arith}
use Rattle.std.proofs.lemmas.Bool.{leb-true}
use Rattle.kb_wa.proofs.Counting.{few_prefixes}
use Rattle.kb_wa.proofs.prefixes.has_few_states.Goals as goal

pub returns : goal.returns
returns c few =
    let less = leb-true c.count.result c.args.limit few in
    few_prefixes c.as_slice.ensures.rules c.in_ok-trie.ensures (omega (arith, c.count.ensures.count, less))
