use Rattle.std.proofs.Common.{◌≡◌, ◌≤◌, ◌-◌, length, take, drop, nat_eq, rules}
use Rattle.std.specs.Cmp.Lexicographic.{pointwise}
use Rattle.kb_word.proofs.Places.{answer_stands}
use Rattle.kb_proof.proofs.verifying.replay.stands_at.Goals as goal

pub returns : goal.returns
returns c =
    let w = c.args.word.now in
    let v = c.args.factor.now in
    let place = c.args.place in
    let within : place ≤ length w = search rules in
    let answer : c.starts_with.result ≡ pointwise nat_eq v (take (length v) (take (length w - place) (drop place w))) = search rules in
    answer_stands w v place c.starts_with.result within answer
