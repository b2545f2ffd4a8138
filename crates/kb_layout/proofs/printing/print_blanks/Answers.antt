use Rattle.std.proofs.Common.{◌≡◌, ◌++◌, ◌∙◌, ℕ, List}
use Rattle.kb_layout.specs.Layout.{indent}
use Rattle.kb_layout.proofs.PrintedPieces.{on_err, indent_goes}
use Rattle.kb_layout.proofs.printing.print_blanks.Goals as goal

pub returns-in_err-extend_from_slice-clause-kept : goal.returns-in_err-extend_from_slice-clause-kept
returns-in_err-extend_from_slice-clause-kept c =
    let kept : (more : List ℕ) × (c.extend_from_slice.new.self.items ≡ c.args.out.now.items ++ more) =
    (indent c.loop-i._i, c.in_err-extend_from_slice.ensures.items ∙ c.loop-i.invariant) in
    on_err _ kept

pub loop-i-preserved : goal.loop-i-preserved
loop-i-preserved c = indent_goes _ _ _ c.loop-i._i c.loop-i.invariant c.in_ok-extend_from_slice.ensures.items
