use Rattle.std.proofs.Common.{ℕ, Option, Some, pos, ◌<◌, length, get_or, refl, sym, ap, subst, ◌∙◌, arith}
use Rattle.std.specs.Option.{IsSome}
use Rattle.std.proofs.lemmas.Option.{slice_get-get_or}
use Rattle.std.proofs.lemmas.List.{get_or_default}
use Rattle.kb_fsafile.specs.declared.error.FsaError.TheVariants as errors
use Rattle.kb_fsafile.proofs.RowFaults.{number_of, target_of, sparse_outside, sparse_twice}
use Rattle.kb_fsafile.proofs.RowLemmas.{entries_more, twice, none_is}
use Rattle.kb_fsafile.proofs.rows.by_symbol.Goals as goal

pub returns-in_default-clause-fault : goal.returns-in_default-clause-fault
returns-in_default-clause-fault c =
    let pairs = c.args.pairs.now in
    let pair = get_or pairs c.loop-pair.pair-index (pos 0, pos 0) in
    let within : c.loop-pair.pair-index < length c.args.pairs.now = omega arith in
    let k = c.loop-pair.pair-index in
    sparse_outside c.args.size c.args.count pairs _ refl k c.loop-pair.invariant.entries c.loop-pair.invariant.are pair.0 pair.1 errors.TargetOutOfRange refl
    (slice_get-get_or pairs k (pos 0, pos 0) within) c.in_default.ensures.none

pub returns-then-is_some-clause-fault : goal.returns-then-is_some-clause-fault
returns-then-is_some-clause-fault c =
    let pairs = c.args.pairs.now in
    let k = c.loop-pair.pair-index in
    let within : c.loop-pair.pair-index < length c.args.pairs.now = omega arith in
    let S : Option ℕ → Type 0 = λ o. IsSome o in
    let earlier = twice c.args.size c.args.count pairs k c.loop-pair.entries c.in-Some.symbol c.loop-pair.invariant (subst S c.in_ok-insert.ensures.old (sym c.if-is_some.ensures)) in
    let symbol = c.in-Some.ensures.symbol in
    sparse_twice c.args.size c.args.count pairs _ refl k c.loop-pair.invariant.entries c.loop-pair.invariant.are earlier.j (pos c.in-Some.symbol) earlier.u (pos c.in-Some.target)
    errors.NotDeterministic refl (slice_get-get_or pairs k (pos 0, pos 0) within ∙ ap Some c.in-Some.ensures.is)
    (number_of c.args.size c.in-Some.symbol (pos c.in-Some.symbol) refl symbol.0 symbol.1)
    (target_of c.args.count c.in-Some.target (pos c.in-Some.target) refl c.in-Some.ensures.target) earlier.before earlier.at

pub loop-pair-preserved : goal.loop-pair-preserved
loop-pair-preserved c =
    let pairs = c.args.pairs.now in
    let k = c.loop-pair.pair-index in
    let pair = get_or pairs k (pos 0, pos 0) in
    let within : c.loop-pair.pair-index < length c.args.pairs.now = omega arith in
    entries_more c.args.size c.args.count pairs k pair c.loop-pair.entries c.insert.new.self c.in-Some.symbol c.in-Some.target within
    (get_or_default pairs k (pos 0, pos 0) pair within) c.loop-pair.invariant c.in-Some.ensures.is c.in-Some.ensures.symbol c.in-Some.ensures.target
    (sym c.in_ok-insert.ensures.old ∙ none_is c.in_ok-insert.field-0 (sym c.if-is_some.ensures)) c.in_ok-insert.ensures.updates
