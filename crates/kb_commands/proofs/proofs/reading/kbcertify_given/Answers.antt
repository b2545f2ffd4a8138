use Rattle.std.proofs.Common.{rules, ◌≡◌, None}
use Rattle.clap.specs.Words.{found_of, rows_of}
use Rattle.kb_commands.proofs.ProofsLemmas.{no_workers, no_limits}
use Rattle.kb_commands.proofs.proofs.reading.kbcertify_given.Goals as goal

pub returns-in_default-option_given : goal.returns-in_default-option_given
returns-in_default-option_given c =
    let none : c.option_given.result ≡ None = search rules in
    no_workers (rows_of (found_of c.args.matches.now)) (c.option_given.ensures.none none)

pub returns-in_default-limits_given : goal.returns-in_default-limits_given
returns-in_default-limits_given c =
    let none : c.limits_given.result ≡ None = search rules in
    no_limits (rows_of (found_of c.args.matches.now)) (c.limits_given.ensures.none none)
