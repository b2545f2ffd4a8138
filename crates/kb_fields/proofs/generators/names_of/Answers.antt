use Rattle.std.proofs.Common.{ℕ, List, length, map, ap, arith}
use Rattle.std.specs.Borrow.{Bor}
use Rattle.std.proofs.lemmas.List.{length-map}
use Rattle.std.proofs.lemmas.Option.{MatchOption-at_some}
use Rattle.kb_fields.proofs.generators.names_of.Goals as goal

pub free_names-requires : goal.free_names-requires
free_names-requires c =
    let texts = map (λ (name : Bor (List ℕ)). name.now) c.in-Some.listed.items in
    let listed = MatchOption-at_some _ _ c.in-Some.listed c.in-Some.is c.in_ok-listed.ensures.listed in
    let few = c.in_ok-check_length.ensures.few texts listed in
    let count = length-map c.in-Some.listed.items (λ (name : Bor (List ℕ)). name.now) in
    let same = ap length c.as_slice.ensures.value in
    omega (arith, few, count, same)
