use Rattle.std.proofs.Common.{◌≡◌, ℕ, List, sym, subst}
use Rattle.std.proofs.lemmas.Bool.Decides.{Decides-eqb, not_from_Decides}
use Rattle.std.proofs.lemmas.Slice.Eq.{slice_eq-Decides}
use Rattle.kb_fsamin.specs.Rounds.{IsRefined}
use Rattle.kb_fsamin.proofs.Classings.{round_keeps, stable_from_refined}
use Rattle.kb_fsamin.proofs.RisingSums.{growth}
use Rattle.kb_fsamin.proofs.rounds.refine_until_stable.Goals as goal

pub loop-classes-init : goal.loop-classes-init
loop-classes-init c =
    let refined = c.in_ok-classes.ensures in
    record {
      classing = round_keeps c.args.table.now c.args.labels.now c.args.start.now c.requires c.in_ok-classes.classes.items refined;
      first_seen = refined.first_seen;
      small = refined.small;
    }

pub loop-classes-preserved : goal.loop-classes-preserved
loop-classes-preserved c =
    let before = c.loop-classes.classes.items in
    let refined : IsRefined c.args.table.now before c.in_ok-next.next.items =
    subst (λ old. IsRefined c.args.table.now old c.in_ok-next.next.items) c.as_slice.ensures.value c.in_ok-next.ensures in
    record {
      classing = round_keeps c.args.table.now c.args.labels.now before c.loop-classes.invariant.classing c.in_ok-next.next.items refined;
      first_seen = refined.first_seen;
      small = refined.small;
    }

pub loop-classes-smaller : goal.loop-classes-smaller
loop-classes-smaller c =
    let before = c.loop-classes.classes.items in
    let next = c.in_ok-next.next.items in
    let refined : IsRefined c.args.table.now before next =
    subst (λ old. IsRefined c.args.table.now old next) c.as_slice.ensures.value c.in_ok-next.ensures in
    growth before next _ _ c.loop-classes.invariant.classing.one_each refined.one_each
    (refined.grows c.loop-classes.invariant.first_seen) refined.small
    (not_from_Decides c.eq.result (slice_eq-Decides Decides-eqb next before c.eq.result c.eq.ensures) c.if-eq.false)

pub returns-then-eq-clause-classing : goal.returns-then-eq-clause-classing
returns-then-eq-clause-classing c =
    let before = c.loop-classes.classes.items in
    let next = c.in_ok-next.next.items in
    let refined : IsRefined c.args.table.now before next =
    subst (λ old. IsRefined c.args.table.now old next) c.as_slice.ensures.value c.in_ok-next.ensures in
    round_keeps c.args.table.now c.args.labels.now before c.loop-classes.invariant.classing next refined

pub returns-then-eq-clause-stable : goal.returns-then-eq-clause-stable
returns-then-eq-clause-stable c =
    let table = c.args.table.now in
    let before = c.loop-classes.classes.items in
    let next = c.in_ok-next.next.items in
    let refined : IsRefined table before next =
    subst (λ old. IsRefined table old next) c.as_slice.ensures.value c.in_ok-next.ensures in
    let same : next ≡ before = (slice_eq-Decides Decides-eqb next before c.eq.result c.eq.ensures).0 c.if-eq.true in
    let again : IsRefined table next next = let P : List ℕ → Type 0 = λ old. IsRefined table old next in subst P (sym same) refined in
    stable_from_refined table c.args.labels.now next (round_keeps table c.args.labels.now before c.loop-classes.invariant.classing next refined) again
