use Rattle.std.proofs.Common.{◌++◌, ◌∙◌, [], sym, ap, append-nil}
use Rattle.std.specs.Prelude.{codes}
use Rattle.kb_layout.proofs.PrintedPieces.{on_err, pieces_start, pieces_kept, pieces_kept_within, pieces_go, pieces_end}
use Rattle.kb_layout.proofs.PrintedTrees.{factor_piece, factor_pieces}
use Rattle.kb_layout.proofs.trees.+factors.Goals as goal

pub print_word-loop-factor-init : goal.print_word-loop-factor-init
print_word-loop-factor-init t c =
    pieces_start factor_piece [] (codes "*") [] c.args.factors.now c.args.out.now.items [] c.args.out.now.items (sym (append-nil c.args.out.now.items))

pub print_word-returns-in_err-extend_from_slice-clause-kept : goal.print_word-returns-in_err-extend_from_slice-clause-kept
print_word-returns-in_err-extend_from_slice-clause-kept t c =
    on_err _ (pieces_kept _ _ _ _ _ _ _ _ _ [] _ c.loop-factor.invariant (c.in_err-extend_from_slice.ensures.items ∙ sym (append-nil c.loop-factor.out.items)))

pub print_word-returns-in_err-print_factor-clause-kept : goal.print_word-returns-in_err-print_factor-clause-kept
print_word-returns-in_err-print_factor-clause-kept t c =
    on_err _ (pieces_kept_within _ _ _ _ _ _ _ _ _ _ _ c.loop-factor.invariant c.in_ok-extend_from_slice.ensures.items c.in_err-print_factor.ensures.kept)

pub print_word-loop-factor-preserved : goal.print_word-loop-factor-preserved
print_word-loop-factor-preserved t c =
    pieces_go _ _ _ _ _ _ _ _ _ c.factor-item.result _ _ c.loop-factor.invariant c.loop-factor-test.true c.factor-item.is c.in_ok-extend_from_slice.ensures.items c.in_ok-print_factor.ensures.printed

pub print_word-returns-clause-printed : goal.print_word-returns-clause-printed
print_word-returns-clause-printed t c =
    pieces_end _ _ _ _ _ _ _ _ _ _ c.loop-factor.invariant c.loop-factor-test.false (sym (append-nil c.loop-factor.out.items)) ∙ ap (λ t. c.args.out.now.items ++ t) (factor_pieces c.args.factors.now)
