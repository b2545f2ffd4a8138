use Rattle.std.proofs.Common.{◌≡◌, Some, None, rules}
use Rattle.clap.specs.Words.{first_of, found_of, rows_of}
use Rattle.kb_commands.proofs.ArgumentLemmas.{flag-none, flag-some}
use Rattle.kb_commands.proofs.arguments.flag_given.Goals as goal

pub returns-in-Some : goal.returns-in-Some
returns-in-Some c =
    let rows = rows_of (found_of c.args.matches.now) in
    let given : first_of c.args.name.now rows ≡ Some c.in-Some.text.now = search rules in
    flag-some rows c.args.name.now c.in-Some.text.now c.is_true.result given c.is_true.ensures

pub returns-in-None : goal.returns-in-None
returns-in-None c =
    let rows = rows_of (found_of c.args.matches.now) in
    let none : first_of c.args.name.now rows ≡ None = search rules in
    flag-none rows c.args.name.now none
