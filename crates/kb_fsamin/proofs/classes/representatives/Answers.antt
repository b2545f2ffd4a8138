use Rattle.std.proofs.Common.{ℕ, List, sym, subst}
use Rattle.kb_fsamin.specs.Rounds.{IsClassing}
use Rattle.kb_fsamin.proofs.classes.representatives.Goals as goal

pub is_stable-requires : goal.is_stable-requires
is_stable-requires c =
    let P : List ℕ → Type 0 = λ classes. IsClassing c.args.table.now c.args.labels.now classes in
    let split = c.in_ok-split.ensures c.args.table.now c.args.labels.now c.in_ok-moves.ensures
    (subst P (sym c.as_slice-2.ensures.value) c.in_ok-start.ensures.classing) in
    subst P (sym c.as_slice-3.ensures.value) split

pub first_of_each-requires-clause-classing : goal.first_of_each-requires-clause-classing
first_of_each-requires-clause-classing c =
    let P : List ℕ → Type 0 = λ classes. IsClassing c.args.table.now c.args.labels.now classes in
    let split = c.in_ok-split.ensures c.args.table.now c.args.labels.now c.in_ok-moves.ensures
    (subst P (sym c.as_slice-2.ensures.value) c.in_ok-start.ensures.classing) in
    subst P (sym c.as_slice-then-is_stable.ensures.value) split

pub refine_until_stable-requires : goal.refine_until_stable-requires
refine_until_stable-requires c =
    let P : List ℕ → Type 0 = λ classes. IsClassing c.args.table.now c.args.labels.now classes in
    let split = c.in_ok-split.ensures c.args.table.now c.args.labels.now c.in_ok-moves.ensures
    (subst P (sym c.as_slice-2.ensures.value) c.in_ok-start.ensures.classing) in
    subst P (sym c.as_slice-4.ensures.value) split
