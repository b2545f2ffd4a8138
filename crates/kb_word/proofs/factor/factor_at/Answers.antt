use Rattle.std.proofs.Common.{◌≡◌, ◌≤◌, ◌<◌, ◌-◌, length, take, drop, nat_eq, rules, below_more}
use Rattle.std.specs.Cmp.Lexicographic.{pointwise}
use Rattle.kb_word.proofs.Places.{answer_stands, no_factor}
use Rattle.kb_word.proofs.factor.factor_at.Goals as goal

pub returns-then-starts_with-clause-found : goal.returns-then-starts_with-clause-found
returns-then-starts_with-clause-found c =
    let w = c.args.word.now in
    let v = c.args.factor.now in
    let place = c.loop-place.place in
    let within : place ≤ length w = search rules in
    let answer : c.starts_with.result ≡ pointwise nat_eq v (take (length v) (take (length w - place) (drop place w))) = search rules in
    (answer_stands w v place c.starts_with.result within answer).0 c.if-starts_with.true

pub loop-place-preserved : goal.loop-place-preserved
loop-place-preserved c =
    let w = c.args.word.now in
    let v = c.args.factor.now in
    let place = c.loop-place.place in
    let within : place ≤ length w = search rules in
    let answer : c.starts_with.result ≡ pointwise nat_eq v (take (length v) (take (length w - place) (drop place w))) = search rules in
    below_more _ _ c.loop-place.invariant
    (λ at. let yes = (answer_stands w v place c.starts_with.result within answer).1 at in let no = c.if-starts_with.false in cc)

pub returns-clause-none : goal.returns-clause-none
returns-clause-none c =
    let end : length c.args.word.now < c.loop-place.place = search rules in
    no_factor c.args.word.now c.args.factor.now c.loop-place.place end c.loop-place.invariant
