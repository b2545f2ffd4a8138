use Rattle.std.proofs.Common.{arith}
use Rattle.kb_explore.proofs.Inserting.{AreDistinct-from_keys, one_too_many, numbers_added}
use Rattle.kb_explore.proofs.seen.number.Goals as goal

pub returns-then-not-is_new-clause-distinct : goal.returns-then-not-is_new-clause-distinct
returns-then-not-is_new-clause-distinct g c =
    AreDistinct-from_keys g.M.State.PartialEq.eq g.met.M.State.Eq.laws c.insert_full.new.self.keys c.in_ok-index.ensures.unique

pub returns-then-len-limit-clause-many : goal.returns-then-len-limit-clause-many
returns-then-len-limit-clause-many g c most e = (
  cc,
  one_too_many g.M.State.PartialEq.eq g.met.M.State.Eq.laws c.args.seen.now.states.keys c.insert_full.new.self.keys c.args.state
      c.in_ok-index.is_new c.in_ok-index.ensures.added c.in_ok-index.ensures.keys c.args.limit c.if-not-is_new.false
      c.in_ok-index.ensures.unique (omega (arith, c.if-len-limit.true, c.len.ensures.len)),
)

pub returns-clause-distinct : goal.returns-clause-distinct
returns-clause-distinct g c =
    AreDistinct-from_keys g.M.State.PartialEq.eq g.met.M.State.Eq.laws c.insert_full.new.self.keys c.in_ok-index.ensures.unique

pub returns-clause-numbers : goal.returns-clause-numbers
returns-clause-numbers g c =
    numbers_added g.M.State.PartialEq.eq g.met.M.State.Eq.laws c.args.seen.now.states.keys c.insert_full.new.self.keys c.args.state
    c.in_ok-index.is_new c.in_ok-index.ensures.added c.in_ok-index.ensures.keys g.met.M.Machine.same_state
    c.args.seen.now.origins.items c.push.new.self.items c.args.origin c.in_ok-index.index c.in_ok-index.ensures.stored
    c.if-not-is_new.false c.in_ok-index.ensures.unique c.in_ok-push.ensures.items
