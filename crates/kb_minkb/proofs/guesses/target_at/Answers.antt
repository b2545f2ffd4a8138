use Rattle.std.proofs.Common.{◌<◌, length, ◌-◌, arith}
use Rattle.kb_minkb.proofs.Between.{none_between, here, symbol_at}
use Rattle.kb_minkb.proofs.guesses.target_at.Goals.{else-guess-gt0-via-then-guess-gt0+else-moves-guess, else-guess-gt0-via-else-guess-gt0, then-guess-moves-2-via-then-guess-moves-2, then-guess-moves-2-via-else-guess-moves-2+then-moves-guess-2}
use Rattle.kb_minkb.proofs.guesses.target_at.Goals as goal

pub returns-then-guess-moves-2 : goal.returns-then-guess-moves-2
returns-then-guess-moves-2 c =
    let moves = c.args.moves.now in
    let before : 0 < c.args.guess → symbol_at moves c.args.guess c.args.symbol c.requires (c.args.guess - 1) < c.args.symbol = λ some.
    elim c.else-guess-gt0.branch [
      | else-guess-gt0-via-then-guess-gt0+else-moves-guess w ↦ omega arith
      | else-guess-gt0-via-else-guess-gt0 w ↦ omega arith
    ] in
    let after : c.args.guess < length moves → c.args.symbol < symbol_at moves c.args.guess c.args.symbol c.requires c.args.guess = λ low.
    elim c.then-guess-moves-2.branch [
      | then-guess-moves-2-via-then-guess-moves-2 w ↦ omega arith
      | then-guess-moves-2-via-else-guess-moves-2+then-moves-guess-2 w ↦ omega arith
    ] in
    none_between moves c.args.guess c.args.symbol c.requires before after (omega arith)

pub returns-then-moves-guess-3 : goal.returns-then-moves-guess-3
returns-then-moves-guess-3 c =
    here c.args.moves.now c.args.guess c.args.symbol c.requires c.if-moves-guess-3.true (omega arith)
