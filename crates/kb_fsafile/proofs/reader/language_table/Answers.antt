use Rattle.std.proofs.lemmas.Result.{err_from_is_err_and}
use Rattle.kb_fields.proofs.Outcomes.{IfOk_then}
use Rattle.kb_fsafile.proofs.reader.language_table.Goals as goal

pub returns-then-branch-clause-same : goal.returns-then-branch-clause-same
returns-then-branch-clause-same c =
    IfOk_then c.automaton_table.result c.automaton_table.ensures.cleaned (λ table cleaned. record { table = table; cleaned = cleaned; same = λ text. (λ accepted. accepted, λ accepted. accepted) })
