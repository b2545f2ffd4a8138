use Rattle.std.proofs.Common.{◌≡◌, ◌∙◌, Some, List, sym, ap}
use Rattle.clap.specs.Words.{Row, Text, found_of, rows_of, subcommand_rows_of}
use Rattle.kb_task.proofs.RunLemmas.{if_ok}
use Rattle.kb_commands.proofs.ArgumentLemmas.{entered_with}
use Rattle.kb_commands.specs.Automata.{name_text}
use Rattle.kb_commands.proofs.AutomataLemmas.{read-entered}
use Rattle.kb_commands.proofs.automata.entered_command.Goals as goal

pub returns : goal.returns
returns c =
    let matches = c.args.matches.now in
    let name = c.in-Some-named.name in
    let rows : List Row = rows_of (found_of c.in-Some.inner.now) in
    let entered = entered_with matches c.in-Some.text.now rows (sym c.in-Some.ensures.name) (sym c.in-Some.ensures.rows) in
    let with_rows : Text → _ = λ text. Some (text, rows) in
    let is : subcommand_rows_of matches ≡ Some (name_text name, rows) = entered ∙ ap with_rows c.in-Some-named.ensures.some in
    if_ok c.task_given.result c.task_given.ensures (λ read gives. read-entered (subcommand_rows_of matches) name rows read is gives)
