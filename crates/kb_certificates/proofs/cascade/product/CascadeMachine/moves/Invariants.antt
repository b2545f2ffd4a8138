use Rattle.std.proofs.Common.{◌≡◌, map, take}
use Rattle.kb_certificates.specs.Cascade.{led_move}
use Rattle.kb_certificates.proofs.cascade.product.CascadeMachine.moves.Given as goal

abbrev pub invariant-loop-symbol : goal.invariant-loop-symbol
invariant-loop-symbol g l = l.moves.items
    ≡ map (led_move (g.F.Follower.follower l.self.follower.now) l.both) (take l.symbol-index l.symbol-items)
