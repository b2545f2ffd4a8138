use Rattle.std.proofs.Common.{rules, ◌≡◌, None}
use Rattle.clap.specs.Words.{found_of, rows_of}
use Rattle.kb_commands.proofs.AutomataLemmas.{no_lengths}
use Rattle.kb_commands.proofs.automata.reading.count_given.Goals as goal

pub returns-in_default-lengths_given : goal.returns-in_default-lengths_given
returns-in_default-lengths_given c =
    let none : c.lengths_given.result ≡ None = search rules in
    no_lengths (rows_of (found_of c.args.matches.now)) (c.lengths_given.ensures.none none)
