use Rattle.std.proofs.Common.{◌<◌, ◌≤◌, ℕ, List, map, length, sym, subst, arith}
use Rattle.std.specs.Borrow.{Bor}
use Rattle.std.proofs.lemmas.List.{length-map}
use Rattle.kb_fields.specs.Generators.{most_generators, AreGeneratorNames, IsFirstTaken}
use Rattle.kb_fields.proofs.TakenLemmas.{first_taken, one_name_more, room_for_one, texts_more}
use Rattle.kb_fields.proofs.generators.free_names.Goals as goal

pub returns-then-not-branch-clause-fault : goal.returns-then-not-branch-clause-fault
returns-then-not-branch-clause-fault c = λ value listed.
    let texts = map (λ (name : Bor (List ℕ)). name.now) c.args.listed.now in
    let within : c.loop-name.name-index < length c.args.listed.now = omega arith in
    let taken = first_taken c.args.listed.now c.loop-name.name-index _ within c.loop-name.names c.loop-name.invariant.0 c.loop-name.invariant.1
    (c.in_ok-push_free.ensures.taken c.if-not-branch.true) in
    let count = length-map c.args.listed.now (λ (name : Bor (List ℕ)). name.now) in
    let few : length texts ≤ most_generators = omega (arith, count, c.requires) in
    let Q : List ℕ → Type 0 = λ name. IsFirstTaken texts name in
    (texts, listed, few, subst Q (sym c.in_ok-from_str.ensures) taken)

pub loop-name-preserved : goal.loop-name-preserved
loop-name-preserved c =
    let free = c.in_ok-push_free.ensures.free c.if-not-branch.false in
    let within : c.loop-name.name-index < length c.args.listed.now = omega arith in
    let room = room_for_one c.args.listed.now c.loop-name.name-index c.loop-name.names within c.loop-name.invariant.0 c.requires in
    let P : List (List ℕ) → Type 0 = λ names. AreGeneratorNames names in (
      texts_more c.args.listed.now c.loop-name.name-index _ c.loop-name.names _ within c.loop-name.invariant.0 free.2,
      subst P (sym free.2) (one_name_more c.loop-name.names _ c.loop-name.invariant.1 room free.0 free.1),
    )
