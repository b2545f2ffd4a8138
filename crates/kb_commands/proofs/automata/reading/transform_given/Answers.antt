use Rattle.std.proofs.Common.{rules, ◌≡◌, None}
use Rattle.clap.specs.Words.{found_of, rows_of}
use Rattle.kb_commands.proofs.AutomataLemmas.{no_transform}
use Rattle.kb_commands.proofs.automata.reading.transform_given.Goals as goal

pub returns-in_default-option_given : goal.returns-in_default-option_given
returns-in_default-option_given c =
    let none : c.option_given.result ≡ None = search rules in
    no_transform c.args.operation (rows_of (found_of c.args.matches.now)) (c.option_given.ensures.none none)
