use Rattle.std.proofs.Common.{◌+◌, ◌*◌, ◌%◌, ◌^◌, ◌<◌, ◌≤◌, ◌∙◌, length, ap, sym, subst, arith}
use Rattle.std.specs.List.{All}
use Rattle.std.proofs.lemmas.Nat.{div_below, mod_below}
use Rattle.kb_count.specs.Limbs.{value_of}
use Rattle.kb_count.proofs.Sums.{All-pushed, sum-step, sum-carried, sum-whole}
use Rattle.kb_count.proofs.natural.sum_of.Goals.{then-carry-gt0+in_ok-push-2, else-carry-gt0}
use Rattle.kb_count.proofs.natural.sum_of.Goals as goal

pub loop-place-preserved : goal.loop-place-preserved
loop-place-preserved c =
    let x = c.limb_at.result in
    let y = c.limb_at-in-loop-place.result in
    let sum = x + y + c.loop-place.carry in
    let few : sum < 2 * 10 ^ 18 = omega (arith, c.limb_at.ensures.small, c.limb_at-in-loop-place.ensures.small, c.loop-place.invariant.carry) in
    let carried = div_below sum (10 ^ 18) 2 (omega arith) few in
    record {
      carry = omega (arith, carried);
      small = subst (λ limbs. All (λ limb. limb < 10 ^ 18) limbs) (sym c.in_ok-push.ensures.items)
          (All-pushed (λ limb. limb < 10 ^ 18) c.loop-place.limbs.items (sum % 10 ^ 18) c.loop-place.invariant.small
          (mod_below sum (10 ^ 18) (omega arith)));
      count = omega (arith, c.in_ok-push.ensures.len, c.loop-place.invariant.count, c.push.new.self.ok, c.loop-place.limbs.ok);
      total =
          sum-step c.loop-place.limbs.items c.push.new.self.items c.args.one.now c.args.other.now c.loop-place.place
          c.loop-place.carry x y c.loop-place.invariant.count c.limb_at.ensures.limb c.limb_at-in-loop-place.ensures.limb
          c.in_ok-push.ensures.items
          ∙ c.loop-place.invariant.total;
    }

pub returns-clause-limbs : goal.returns-clause-limbs
returns-clause-limbs c = elim c.if-carry-gt0.branch [
  | then-carry-gt0+in_ok-push-2 w ↦
      subst (λ limbs. All (λ limb. limb < 10 ^ 18) limbs) (sym (ap (λ v. v.items) w.limbs-is ∙ w.in_ok-push-2.ensures.items))
      (All-pushed (λ limb. limb < 10 ^ 18) c.loop-place.limbs.items c.loop-place.carry c.loop-place.invariant.small
      (omega (arith, c.loop-place.invariant.carry)))
  | else-carry-gt0 w ↦
      subst (λ limbs. All (λ limb. limb < 10 ^ 18) limbs) (sym (ap (λ v. v.items) w.limbs-is)) c.loop-place.invariant.small
]

pub returns-clause-value : goal.returns-clause-value
returns-clause-value c =
    let past_one : length c.args.one.now ≤ c.loop-place.place = omega (arith, c.max-place-end.ensures, c.loop-place-test.false) in
    let past_other : length c.args.other.now ≤ c.loop-place.place = omega (arith, c.max-place-end.ensures, c.loop-place-test.false) in
    elim c.if-carry-gt0.branch [
      | then-carry-gt0+in_ok-push-2 w ↦
          sum-carried c.loop-place.limbs.items c.if-carry-gt0.limbs.items c.args.one.now c.args.other.now c.loop-place.carry
          c.loop-place.place c.loop-place.invariant.count past_one past_other (ap (λ v. v.items) w.limbs-is ∙ w.in_ok-push-2.ensures.items)
          ∙ c.loop-place.invariant.total
      | else-carry-gt0 w ↦
          ap (λ v. value_of v.items) w.limbs-is
          ∙ sum-whole c.loop-place.limbs.items c.args.one.now c.args.other.now c.loop-place.carry c.loop-place.place past_one
          past_other w.if-carry-gt0.false
          ∙ c.loop-place.invariant.total
    ]
