use Rattle.std.proofs.Common.{rules, ◌≡◌, None}
use Rattle.clap.specs.Words.{found_of, rows_of}
use Rattle.kb_commands.proofs.AutomataLemmas.{no_compare}
use Rattle.kb_commands.proofs.automata.reading.compare_given.Goals as goal

pub returns-in_default-option_given : goal.returns-in_default-option_given
returns-in_default-option_given c =
    let none : c.option_given.result ≡ None = search rules in
    no_compare (rows_of (found_of c.args.matches.now)) (c.option_given.ensures.none none)
