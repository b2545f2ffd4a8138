use Rattle.std.proofs.Common.{rules, ◌≡◌, None}
use Rattle.clap.specs.Words.{found_of, rows_of}
use Rattle.kb_commands.proofs.ElementsLemmas.{no_letters, no_lines, no_threads}
use Rattle.kb_commands.proofs.elements.reading.kbcos_given.Goals as goal

pub returns-in_default-option_given : goal.returns-in_default-option_given
returns-in_default-option_given c =
    let none : c.option_given.result ≡ None = search rules in
    no_threads (rows_of (found_of c.args.matches.now)) (c.option_given.ensures.none none)

pub returns-in_default-option_given-2 : goal.returns-in_default-option_given-2
returns-in_default-option_given-2 c =
    let none : c.option_given-2.result ≡ None = search rules in
    no_lines (rows_of (found_of c.args.matches.now)) (c.option_given-2.ensures.none none)

pub returns-in_default-option_given-3 : goal.returns-in_default-option_given-3
returns-in_default-option_given-3 c =
    let none : c.option_given-3.result ≡ None = search rules in
    no_letters (rows_of (found_of c.args.matches.now)) (c.option_given-3.ensures.none none)
