-- Writing an automaton's text: rows and lists on their way.
use Rattle.std.specs.Prelude.{◌≡◌, ℕ, ◌≤◌, pos, List, ◌++◌, All, codes}
use Rattle.std.specs.Fmt.{signed_decimal}
use Rattle.kb_layout.specs.Printing.{IsPrintedUpTo}
use Rattle.kb_fsa.specs.Table.{Moves, target, IsRow}
use Rattle.kb_fsaprint.specs.Printed.{targets_from}

-- a number from 0 on as it is printed
abbrev pub number_text : ℕ → List ℕ
number_text n = signed_decimal (pos n)

-- a move as it is printed: its symbol and its target
abbrev pub move_text : ℕ × ℕ → List ℕ
move_text move =
    codes "[" ++ (number_text move.0 ++ (codes "," ++ (number_text move.1 ++ codes "]")))

-- the row's targets are printed up to the symbol, from which on so many are to come: the moves that are left give them
pub record IsRowPrinted (row : Moves) (symbol columns : ℕ) (left : Moves)
    (whole old before now : List ℕ) : Type 0 where
  pub printed : IsPrintedUpTo number_text (codes ",") (codes "]") (targets_from row symbol columns)
      whole old 0 before now
  pub is_row : IsRow left
  pub low : All (λ move. symbol ≤ move.0) left
  pub same : (later : ℕ) → symbol ≤ later → target left later ≡ target row later
