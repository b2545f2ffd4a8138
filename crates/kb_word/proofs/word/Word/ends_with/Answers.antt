use Rattle.std.proofs.Common.{◌≡◌, ◌-◌, length, drop, nat_eq, rules}
use Rattle.std.specs.Cmp.Lexicographic.{pointwise}
use Rattle.kb_word.proofs.Places.{answer_ends}
use Rattle.kb_word.proofs.word.Word.ends_with.Goals as goal

pub returns : goal.returns
returns c =
    let w = c.args.self.now in
    let v = c.args.suffix.now in
    let answer : c.ends_with.result ≡ pointwise nat_eq v (drop (length w - length v) w) = search rules in
    answer_ends w v c.ends_with.result answer
