use Rattle.std.proofs.Common.{◌≡◌, ◌∙◌, ℕ, List, Option, IfSome, subst, arith, drop}
use Rattle.kb_leastpair.specs.LeastPair.{IsEnd, IsLeastWord}
use Rattle.kb_relations.specs.Trails.{state_beside_itself}
use Rattle.kb_relations.proofs.Beside.{accepted_behind}
use Rattle.kb_relations.proofs.change.search.Goals as goal

pub returns-in-Some-clause-image : goal.returns-in-Some-clause-image
returns-in-Some-clause-image c =
    let multiplier = c.args.multiplier.now in
    let word = c.args.word.now in
    let kept = c.loop-kept.kept in
    let long = c.requires.whole in
    let low = c.loop-kept.invariant in
    let state : c.state.result ≡ state_beside_itself multiplier word kept =
    c.state.ensures ∙ c.requires.trail.each kept (omega (arith, long, low)) in
    let P : Option (List ℕ) → Type 0 = λ found. IfSome found (IsLeastWord (IsEnd multiplier c.state.result (drop kept word))) in
    let least = subst P c.in-Some.is c.in_ok-end.ensures.found in
    let Q : ℕ → Type 0 = λ s. IsEnd multiplier s (drop kept word) c.in-Some.end in
    accepted_behind multiplier word kept c.in-Some.end c.requires.word (subst Q state least.holds)
