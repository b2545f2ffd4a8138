use Rattle.std.proofs.Common.{◌<◌, get_or, arith}
use Rattle.std.proofs.lemmas.Result.{on_ok_weaker}
use Rattle.kb_wa.proofs.Inserting.{inserted_kept, inserted_set}
use Rattle.kb_wa.proofs.trie.insert_left.Goals as goal

pub returns-then-number_at-eq0 : goal.returns-then-number_at-eq0
returns-then-number_at-eq0 c =
    on_ok_weaker c.set.result
    (λ numbers rules place same is.
    inserted_set rules place c.args.left.now c.args.trie.now c.insert.new.self c.set.new.self c.in_ok-state.state same is c.insert.ensures.grows
    c.insert.ensures.words c.in_ok-state.ensures.word c.set.ensures.words numbers)
    c.set.ensures.ok

pub returns : goal.returns
returns c =
    let kept : 0 < get_or c.insert.new.self.numbers c.in_ok-state.state 0 = omega (arith, c.number_at.ensures, c.if-number_at-eq0.false) in
    λ rules place same is.
    inserted_kept rules place c.args.left.now c.args.trie.now c.insert.new.self c.in_ok-state.state same is c.insert.ensures.grows
    c.insert.ensures.words c.in_ok-state.ensures.word kept
