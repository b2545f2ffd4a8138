use Rattle.std.proofs.Common.{◌-◌, ◌∷◌, ◌++◌, [], ap, ◌∙◌, arith}
use Rattle.kb_fsarat.proofs.SuccessorLemmas.{completing_none, completing_more, completing_all, move_left}
use Rattle.kb_fsarat.proofs.successor.completed.Goals as goal

pub loop-rest-init : goal.loop-rest-init
loop-rest-init c = completing_none c.args.layers.now.table c.args.length c.args.state c.args.word c.requires.live

pub loop-rest-preserved : goal.loop-rest-preserved
loop-rest-preserved c =
    completing_more c.args.layers.now.table c.args.length c.args.state c.args.word c.loop-rest.word c.push.new.self c.loop-rest.rest
    (c.loop-rest.rest - 1) c.loop-rest.state c.in-Some.symbol c.in-Some.target c.first_move.ensures.table c.loop-rest.invariant
    (omega arith) c.in-Some.ensures.some
    (c.in_ok-push-in-Some.ensures.ok ∙ ap (λ symbol. c.loop-rest.word ++ symbol ∷ []) c.new.ensures)

pub unreachable-requires : goal.unreachable-requires
unreachable-requires c =
    move_left c.args.layers.now.table c.args.length c.args.state c.args.word c.loop-rest.word c.loop-rest.rest (c.loop-rest.rest - 1)
    c.loop-rest.state c.first_move.ensures.table c.loop-rest.invariant (omega arith) c.in-None.ensures.none

pub returns : goal.returns
returns c =
    completing_all c.args.layers.now.table c.args.length c.args.state c.args.word c.loop-rest.word c.loop-rest.rest c.loop-rest.state
    c.loop-rest.invariant (omega arith)
