use Rattle.std.proofs.Common.{rules, ◌≡◌, None}
use Rattle.clap.specs.Words.{found_of, rows_of}
use Rattle.kb_commands.proofs.CompletionLemmas.{no_workers, no_limits, no_batch}
use Rattle.kb_commands.proofs.completion.reading.kbprog_given.Goals as goal

pub returns-in_default-option_given : goal.returns-in_default-option_given
returns-in_default-option_given c =
    let none : c.option_given.result ≡ None = search rules in
    no_workers (rows_of (found_of c.args.matches.now)) (c.option_given.ensures.none none)

pub returns-in_default-limits_given : goal.returns-in_default-limits_given
returns-in_default-limits_given c =
    let none : c.limits_given.result ≡ None = search rules in
    no_limits (rows_of (found_of c.args.matches.now)) (c.limits_given.ensures.none none)

pub returns-in_default-option_given-2 : goal.returns-in_default-option_given-2
returns-in_default-option_given-2 c =
    let none : c.option_given-2.result ≡ None = search rules in
    no_batch (rows_of (found_of c.args.matches.now)) (c.option_given-2.ensures.none none)
