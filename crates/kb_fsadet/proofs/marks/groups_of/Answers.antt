use Rattle.std.proofs.Common.{◌≡◌, ℕ, ◌+◌, nat_eq, Vec, Global, List, ◌∷◌, ◌++◌, [], length, sym, ap, ◌∙◌, subst, arith, append-nil}
use Rattle.std.proofs.lemmas.List.{get_or_read}
use Rattle.kb_fsadet.specs.SubsetConstruction.{IsAscending}
use Rattle.kb_fsadet.specs.Marks.{numbers_from}
use Rattle.kb_fsadet.proofs.Marking.{IsAscending-numbers_from, groups_step, with_some, with_none}
use Rattle.kb_fsadet.proofs.marks.groups_of.Goals.{then-not-is_empty+in_ok-push, else-not-is_empty}
use Rattle.kb_fsadet.proofs.marks.groups_of.Goals as goal

pub ascending-requires : goal.ascending-requires
ascending-requires c = subst IsAscending (sym c.in_ok-numbers.ensures) (IsAscending-numbers_from 1 c.as_slice.result.now)

pub loop-row-preserved : goal.loop-row-preserved
loop-row-preserved c =
    let rows = c.args.rows.now in
    let place = c.loop-row.row-index in
    let symbol = c.loop-row.symbol in
    let groups = c.loop-row.groups.items in
    let states = c.in_ok-numbers.numbers.items in
    let so_far = c.loop-row.invariant in
    let row = get_or_read rows place c.row-item.result c.loop-row-test.true c.row-item.is [] in
    let are = c.in_ok-numbers.ensures ∙ ap (numbers_from 1) (c.as_slice.ensures ∙ row) in
    let empty : nat_eq (length states) 0 ≡ c.is_empty.result =
    ap (λ n. nat_eq n 0) (sym c.in_ok-numbers.numbers.ok.0) ∙ sym c.is_empty.ensures in (
      (omega (arith, so_far.0)),
      groups_step rows place symbol groups c.if-not-is_empty.groups.items states c.loop-row-test.true are so_far.1
          (elim c.if-not-is_empty.branch [
            | then-not-is_empty+in_ok-push w ↦
                ap (λ (v : Vec (ℕ × List ℕ) Global). v.items) w.groups-is ∙ w.in_ok-push.ensures.items
                ∙ ap (λ set. groups ++ (symbol + 1, set) ∷ []) w.ascending.ensures
                ∙ ap (λ back. groups ++ back) (sym (with_some (symbol + 1) states (empty ∙ w.if-not-is_empty.true)))
            | else-not-is_empty w ↦
                ap (λ (v : Vec (ℕ × List ℕ) Global). v.items) w.groups-is ∙ sym (append-nil groups)
                ∙ ap (λ back. groups ++ back) (sym (with_none (symbol + 1) states (empty ∙ w.if-not-is_empty.false)))
          ]),
    )
