use Rattle.std.proofs.Common.{arith}
use Rattle.kb_branching.proofs.Inserting.{AreDistinct-from_keys, one_too_many, has_number}
use Rattle.kb_branching.proofs.numbering.number.Goals as goal

pub returns-then-len-limit-clause-many : goal.returns-then-len-limit-clause-many
returns-then-len-limit-clause-many g c most e = (
  cc,
  one_too_many g.M.State.PartialEq.eq g.met.M.State.Eq.laws c.args.states.now.keys c.insert_full.new.self.keys c.args.state
      c.in_ok-index.ensures.keys c.args.limit c.in_ok-index.ensures.unique c.requires (omega (arith, c.if-len-limit.true, c.len.ensures.len)),
)

pub returns-clause-distinct : goal.returns-clause-distinct
returns-clause-distinct g c =
    AreDistinct-from_keys g.M.State.PartialEq.eq g.met.M.State.Eq.laws c.insert_full.new.self.keys c.in_ok-index.ensures.unique

pub returns-clause-numbers : goal.returns-clause-numbers
returns-clause-numbers g c =
    has_number g.M.State.PartialEq.eq g.met.M.State.Eq.laws c.args.states.now.keys c.insert_full.new.self.keys c.args.state
    c.in_ok-index.ensures.keys g.met.M.Branching.same_state c.in_ok-index.index c.in_ok-index.ensures.stored
