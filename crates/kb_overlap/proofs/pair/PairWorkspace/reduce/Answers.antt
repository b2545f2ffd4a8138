use Rattle.kb_overlap.proofs.Joined.{says_joined, says_apart}
use Rattle.kb_overlap.proofs.pair.PairWorkspace.reduce.Goals as goal
use Rattle.kb_overlap.proofs.pair.PairWorkspace.reduce.Goals.{then-eq, else-eq}

pub returns-clause-says : goal.returns-clause-says
returns-clause-says g c =
    let rules = g.R.Reducer.rules c.args.reducer.now in
    let left = c.in_ok-reduce.ensures.ok in
    let right = c.in_ok-reduce-2.ensures.ok in
    let u = c.reduce.new.w in
    let v = c.reduce-2.new.w in
    elim c.if-eq.branch [
      | then-eq w ↦ rw (← c.self.view_is) (says_joined rules (c.self.inside.first, c.self.inside.second) u v c.if-eq.result left right
          (c.eq.ensures.same.0 w.if-eq.true) w.result-is)
      | else-eq w ↦ rw (← c.self.view_is) (says_apart rules (c.self.inside.first, c.self.inside.second) u v c.if-eq.result left right
          (λ same. let it = c.eq.ensures.same.1 same in let no = w.if-eq.false in absurd cc) w.result-is)
    ]
