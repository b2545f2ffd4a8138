use Rattle.std.proofs.Common.{ℕ, ◌+◌, Option, None, subst, arith}
use Rattle.kb_trie.specs.LeftSides.{HasAt, IsLeast, IsLeastOf}
use Rattle.kb_trie.specs.Lookups.{states_in}
use Rattle.kb_trie.proofs.HasAt.{has_within}
use Rattle.kb_trie.proofs.Joining.{last_here, next_is, states_length}
use Rattle.kb_trie.proofs.lookup.last_before.Goals as goal

pub next_of-requires : goal.next_of-requires
next_of-requires c =
    let state : ℕ = c.requires.has.0 in
    let has : HasAt (states_in c.args.entries.now) state c.loop-next.at = c.loop-next.invariant.same state c.requires.has.1 in
    omega (arith, has_within (states_in c.args.entries.now) state c.loop-next.at has, states_length c.args.entries.now)

pub loop-next-preserved : goal.loop-next-preserved
loop-next-preserved c =
    record {
      before = omega arith;
      same = λ state first.
          let P : Option ℕ → Type 0 = λ r. IsLeastOf (HasAt (states_in c.args.entries.now) state) (c.loop-next.at + 1) r in
          let least : IsLeast (HasAt (states_in c.args.entries.now) state) (c.loop-next.at + 1) c.in-Some.next =
          subst P c.in-Some.is
          (next_is c.requires.entries.0 c.args.entries.now c.requires.entries.1 state c.loop-next.at c.next_of.result c.next_of.ensures
          (c.loop-next.invariant.same state first)) in
          least.is;
    }

pub loop-next-smaller : goal.loop-next-smaller
loop-next-smaller c =
    let state : ℕ = c.requires.has.0 in
    let P : Option ℕ → Type 0 = λ r. IsLeastOf (HasAt (states_in c.args.entries.now) state) (c.loop-next.at + 1) r in
    let least : IsLeast (HasAt (states_in c.args.entries.now) state) (c.loop-next.at + 1) c.in-Some.next =
    subst P c.in-Some.is
    (next_is c.requires.entries.0 c.args.entries.now c.requires.entries.1 state c.loop-next.at c.next_of.result c.next_of.ensures
    (c.loop-next.invariant.same state c.requires.has.1)) in
    omega (arith, least.behind)

pub returns-then-next-bound : goal.returns-then-next-bound
returns-then-next-bound c state first =
    let P : Option ℕ → Type 0 = λ r. IsLeastOf (HasAt (states_in c.args.entries.now) state) (c.loop-next.at + 1) r in
    let has : HasAt (states_in c.args.entries.now) state c.loop-next.at = c.loop-next.invariant.same state first in
    let least : IsLeast (HasAt (states_in c.args.entries.now) state) (c.loop-next.at + 1) c.in-Some.next =
    subst P c.in-Some.is
    (next_is c.requires.entries.0 c.args.entries.now c.requires.entries.1 state c.loop-next.at c.next_of.result c.next_of.ensures has) in
    last_here (HasAt (states_in c.args.entries.now) state) c.args.bound c.loop-next.at c.loop-next.invariant.before has
    (λ other later below there. omega (arith, least.least other later there))

pub returns : goal.returns
returns c state first =
    let P : Option ℕ → Type 0 = λ r. IsLeastOf (HasAt (states_in c.args.entries.now) state) (c.loop-next.at + 1) r in
    let has : HasAt (states_in c.args.entries.now) state c.loop-next.at = c.loop-next.invariant.same state first in
    let none : P None =
    subst P c.in_default.is
    (next_is c.requires.entries.0 c.args.entries.now c.requires.entries.1 state c.loop-next.at c.next_of.result c.next_of.ensures has) in
    last_here (HasAt (states_in c.args.entries.now) state) c.args.bound c.loop-next.at c.loop-next.invariant.before has
    (λ other later below there. none other later there)
