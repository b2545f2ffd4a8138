use Rattle.std.proofs.Common.{sym, subst}
use Rattle.std.proofs.lemmas.Result.{err_from_is_err_and}
use Rattle.kb_fsa.specs.Language.{Automaton}
use Rattle.kb_fsafile.specs.Languages.{LanguageOf}
use Rattle.kb_fsafile.proofs.OneFault.{table_or_memory}
use Rattle.kb_fsafile.proofs.ReachedStates.{language_said}
use Rattle.kb_fsafile.proofs.reader.read_language.Goals as goal

pub returns-in_err-table-clause-fault : goal.returns-in_err-table-clause-fault
returns-in_err-table-clause-fault c =
    let p = err_from_is_err_and c.from_residual-in_err-table.result c.from_residual-in_err-table.ensures.1 in
    rw (p.1, p.2) (table_or_memory c.args.bytes.now c.in_ok-letters.letters.names c.in_ok-letters.letters.alphabet c.in_ok-letters.read _
    c.in_ok-letters.ensures.read c.in_err-table.ensures.fault)

pub returns-clause-read : goal.returns-clause-read
returns-clause-read c =
    let letters = c.in_ok-letters.letters in
    let P : Automaton → Type 0 = λ a. LanguageOf c.args.bytes.now letters.names a in
    subst P (sym c.new.ensures)
    (language_said c.args.bytes.now letters.names letters.alphabet c.in_ok-letters.read c.in_ok-table.table c.in_ok-letters.ensures.read c.in_ok-table.ensures.same)
