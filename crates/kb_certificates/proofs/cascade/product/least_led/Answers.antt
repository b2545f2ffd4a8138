use Rattle.std.proofs.lemmas.Option.{IfSome_then}
use Rattle.kb_certificates.proofs.LedRuns.{least_of_both, led_accepts, none_kept}
use Rattle.kb_certificates.proofs.cascade.product.least_led.Goals as goal

pub returns-in-Ok-clause-found : goal.returns-in-Ok-clause-found
returns-in-Ok-clause-found g c =
    let follower = g.F.Follower.follower c.args.follower.now in
    IfSome_then c.in-Ok.found c.in-Ok.ensures.found (λ text least. least_of_both c.args.leader.now.table follower text.items least)

pub returns-in-Ok-clause-none : goal.returns-in-Ok-clause-none
returns-in-Ok-clause-none g c =
    let follower = g.F.Follower.follower c.args.follower.now in
    none_kept c.in-Ok.found (λ none text accepts. none text ((led_accepts c.args.leader.now.table follower text).1 accepts)) c.in-Ok.ensures.none
