use Rattle.std.proofs.Common.{rules, ◌≡◌, Some, sym, codes}
use Rattle.clap.specs.Words.{Row, found_of, rows_of, subcommand_rows_of}
use Rattle.std.specs.Prelude.{List}
use Rattle.kb_task.proofs.RunLemmas.{if_ok}
use Rattle.kb_commands.proofs.ArgumentLemmas.{entered_with}
use Rattle.kb_commands.proofs.WordsLemmas.{read_rows}
use Rattle.kb_commands.proofs.words.entered_command.Goals as goal

pub returns : goal.returns
returns c =
    let matches = c.args.matches.now in
    let rows : List Row = rows_of (found_of c.in-Some.inner.now) in
    let named : c.in-Some.name.now ≡ codes "wordreduce" = search rules in
    let entered = entered_with matches c.in-Some.name.now rows (sym c.in-Some.ensures.name) (sym c.in-Some.ensures.rows) in
    let is : subcommand_rows_of matches ≡ Some (codes "wordreduce", rows) = rw (← named) entered in
    if_ok c.wordreduce_given.result c.wordreduce_given.ensures (λ read gives. read_rows (subcommand_rows_of matches) rows read is gives)
