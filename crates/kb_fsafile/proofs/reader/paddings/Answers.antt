use Rattle.std.proofs.Common.{arith}
use Rattle.kb_fsa.proofs.PairSymbolLaws.{square}
use Rattle.kb_fsafile.proofs.reader.paddings.Goals as goal

pub returns : goal.returns
returns c = omega (arith, c.count.ensures, square c.args.n)
