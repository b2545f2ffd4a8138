use Rattle.std.proofs.Common.{◌≡◌, ◌<◌, ◌+◌, ℕ, length, get_or, take, refl, sym, ap, subst, arith, rules}
use Rattle.std.proofs.lemmas.List.{take_all}
use Rattle.kb_fsamin.specs.declared.partition.Partition.{Partition}
use Rattle.kb_fsamin.specs.Partitions.{AreMarked, AreDivided, AreLed}
use Rattle.kb_fsamin.proofs.SplitSteps.{marked_step, divided_none, divided_step, divided_skip, divided_all}
use Rattle.kb_fsamin.proofs.Leading.{led_more, first_now, led_divided}
use Rattle.kb_fsamin.proofs.partition.Partition.split.Goals as goal
use Rattle.kb_fsamin.proofs.partition.Partition.split.Goals.{then-is_marked+in_ok-divide, else-is_marked}

pub loop-item-preserved : goal.loop-item-preserved
loop-item-preserved c =
    let items = c.args.items.now in
    let place = c.loop-item.item-index in
    let marked = c.loop-item.invariant.marked in
    let known : (k : ℕ) → k < length items → get_or items k 0 < length c.loop-item.self.of.items =
    λ k h. omega (arith, c.requires.items k 0 h, ap length marked.of_is) in
    record {
      marked = marked_step items place c.args.self.now c.loop-item.self c.mark.new.self (omega arith) marked
          c.mark.ensures.arranged c.mark.ensures.marked;
      led = led_more items place c.args.self.now c.loop-item.self c.mark.new.self (omega arith) known marked c.mark.ensures.marked
          marked.arranged c.loop-item.invariant.led;
    }

pub loop-item-2-init : goal.loop-item-2-init
loop-item-2-init c =
    let items = c.args.items.now in
    let all = c.loop-item.invariant in
    let done : c.loop-item.item-index ≡ length items = omega arith in
    record {
      divided = divided_none items c.args.self.now c.loop-item.self
          (subst (λ l. AreMarked l c.args.self.now c.loop-item.self) (take_all c.loop-item.item-index items (omega arith)) all.marked);
      led = subst (λ n. AreLed items n c.loop-item.self) done all.led;
    }

pub divide-requires-clause-first : goal.divide-requires-clause-first
divide-requires-clause-first c =
    first_now c.args.items.now c.loop-item-2.item-index c.args.self.now c.loop-item-2.self (omega arith) (λ k h. c.requires.items k 0 h)
    c.loop-item-2.invariant.divided c.loop-item-2.invariant.led (c.is_marked.ensures.0 c.if-is_marked.true)

pub loop-item-2-preserved : goal.loop-item-2-preserved
loop-item-2-preserved c =
    let items = c.args.items.now in
    let place = c.loop-item-2.item-index in
    let all = c.loop-item-2.invariant in
    let now = c.loop-item-2.self in
    let known : (k : ℕ) → k < length items → get_or items k 0 < length now.of.items =
    λ k h. omega (arith, c.requires.items k 0 h, all.divided.split.one_each) in
    let P : Partition → Type 0 = λ self. AreDivided items (take (place + 1) items) c.args.self.now self × AreLed items (length items) self in
    let both : P c.if-is_marked.self =
    elim c.if-is_marked.branch [
      | then-is_marked+in_ok-divide w ↦
          subst P (sym w.self-is) (
            divided_step items place c.args.self.now now w.divide.new.self _ (omega arith) refl all.divided w.in_ok-divide.ensures.arranged
                w.in_ok-divide.ensures.divided,
            led_divided items _ now w.divide.new.self known w.in_ok-divide.ensures.divided all.led,
          )
      | else-is_marked w ↦
          subst P (sym w.self-is)
          (divided_skip items place c.args.self.now now (omega arith) all.divided (λ marked. search rules), all.led)
    ] in
    record { divided = both.0; led = both.1 }

pub returns-clause-partition : goal.returns-clause-partition
returns-clause-partition c =
    let items = c.args.items.now in
    divided_all items c.args.self.now c.loop-item-2.self
    (subst (λ l. AreDivided items l c.args.self.now c.loop-item-2.self) (take_all c.loop-item-2.item-index items (omega arith)) c.loop-item-2.invariant.divided)
