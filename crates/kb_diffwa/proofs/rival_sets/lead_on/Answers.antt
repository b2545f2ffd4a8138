use Rattle.std.proofs.Common.{◌<◌, ◌≤◌, ℕ, All, List, length, sym, subst, arith}
use Rattle.kb_diffwa.proofs.Rows.{pairs_within}
use Rattle.kb_diffwa.proofs.rival_sets.lead_on.Goals as goal

pub add-requires-clause-positive : goal.add-requires-clause-positive
add-requires-clause-positive c =
    let pairs = c.pairs_from-b-items in
    let count = length c.args.row.now in
    let P : List (ℕ × ℕ) → Type 0 = All (λ pair. (0 < pair.1) × (pair.1 ≤ count)) in
    let within = pairs_within count c.args.steps.now c.args.rivals.difference c.requires.within in
    (subst P (sym pairs.ensures) within c.loop-b.b-index (0, 0) c.loop-b-test.true).0

pub add-requires-clause-within : goal.add-requires-clause-within
add-requires-clause-within c =
    let pairs = c.pairs_from-b-items in
    let count = length c.args.row.now in
    let P : List (ℕ × ℕ) → Type 0 = All (λ pair. (0 < pair.1) × (pair.1 ≤ count)) in
    let within = pairs_within count c.args.steps.now c.args.rivals.difference c.requires.within in
    let most = (subst P (sym pairs.ensures) within c.loop-b.b-index (0, 0) c.loop-b-test.true).1 in
    let long = c.loop-b.invariant.long in
    omega (arith, most, long)
