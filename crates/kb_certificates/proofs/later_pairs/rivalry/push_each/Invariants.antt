use Rattle.std.proofs.Common.{◌≡◌, ◌++◌, map, take}
use Rattle.kb_certificates.specs.Rivalry.{with_rival}
use Rattle.kb_certificates.proofs.later_pairs.rivalry.push_each.Given as goal

abbrev pub invariant-loop-rival : goal.invariant-loop-rival
invariant-loop-rival l = l.moves.items ≡ l.initial.moves.items ++ map (with_rival l.symbol l.own) (take l.rival-index l.after)
