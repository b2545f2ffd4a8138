use Rattle.std.proofs.Common.{refl, sym, arith}
use Rattle.kb_threads.proofs.pass.Pass.of.Goals as goal

pub split_off-share-requires : goal.split_off-share-requires
split_off-share-requires g c =
    let none = c.requires.1 in
    record {
      has_parts = c.requires.0;
      has_amount = omega arith;
      left_backed = λ last. sym none;
      given_backed = λ nothing. refl;
    }

pub invariant_of-result : goal.invariant_of-result
invariant_of-result g c = c.split_off-share.ensures.parts

pub returns : goal.returns
returns g c =
    let split = c.split_off-share.ensures in
    let none = c.requires.1 in
    let left = split.amount_left in
    record { pass = (refl, split.amount); rest = (split.parts_left, omega (arith, none, left)) }
