use Rattle.std.proofs.Common.{rules, ◌≡◌, None}
use Rattle.clap.specs.Words.{found_of, rows_of}
use Rattle.kb_commands.proofs.AutomataLemmas.{no_least, no_most}
use Rattle.kb_commands.proofs.automata.reading.enumerate_given.Goals as goal

pub returns-in_default : goal.returns-in_default
returns-in_default c =
    let none : c.length_given.result ≡ None = search rules in
    no_least (rows_of (found_of c.args.matches.now)) (c.length_given.ensures.none none)

pub returns-in_default-length_given : goal.returns-in_default-length_given
returns-in_default-length_given c =
    let none : c.length_given-2.result ≡ None = search rules in
    no_most (rows_of (found_of c.args.matches.now)) (c.length_given-2.ensures.none none)
