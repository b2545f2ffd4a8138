use Rattle.std.proofs.Common.{ℕ, refl, sym, subst}
use Rattle.std.proofs.lemmas.Result.{err_from_is_err_and}
use Rattle.kb_fsa.specs.Table.{HasSymbols}
use Rattle.kb_fsafile.specs.RowsRead.{IsCleaningFault}
use Rattle.kb_fsafile.proofs.OneFault.{cleaning_or_memory, want_of_memory}
use Rattle.kb_fsafile.proofs.PairStates.{cleaned_reached, reached_refused}
use Rattle.kb_fsafile.proofs.reader.reached_table.Goals as goal

pub reached-requires : goal.reached-requires
reached-requires c =
    let P : ℕ → Type 0 = λ most. HasSymbols most c.args.read in subst P (sym c.most_symbols.ensures) c.requires.symbols

pub automaton_table-requires-clause-table : goal.automaton_table-requires-clause-table
automaton_table-requires-clause-table c = c.in_ok-part.ensures.part.2.is_table

pub automaton_table-requires-clause-symbols : goal.automaton_table-requires-clause-symbols
automaton_table-requires-clause-symbols c =
    let P : ℕ → Type 0 = λ most. HasSymbols most c.in_ok-part.part in subst P c.most_symbols.ensures c.in_ok-part.ensures.symbols

pub returns-in_err-part-clause-fault : goal.returns-in_err-part-clause-fault
returns-in_err-part-clause-fault c =
    let p = err_from_is_err_and c.from_residual.result c.from_residual.ensures.1 in
    rw (p.1, p.2) (want_of_memory (IsCleaningFault c.args.alphabet c.args.read) _ c.in_err-part.ensures.memory)

pub returns-in_err-made-clause-fault : goal.returns-in_err-made-clause-fault
returns-in_err-made-clause-fault c =
    let p = err_from_is_err_and c.from_residual-in_err-made.result c.from_residual-in_err-made.ensures.1 in
    rw (p.1, p.2) (cleaning_or_memory c.args.alphabet c.args.read c.args.read _ refl
    (reached_refused c.args.alphabet c.args.read c.in_ok-part.part _ c.in_ok-part.ensures.part c.in_err-made.ensures.fault))

pub returns-clause-same : goal.returns-clause-same
returns-clause-same c =
    cleaned_reached c.args.alphabet c.args.read c.in_ok-part.part c.in_ok-made.made c.requires.table c.in_ok-part.ensures.part c.in_ok-made.ensures.cleaned
