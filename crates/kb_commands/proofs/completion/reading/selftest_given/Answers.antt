use Rattle.std.proofs.Common.{rules, ◌≡◌, None}
use Rattle.clap.specs.Words.{found_of, rows_of}
use Rattle.kb_commands.proofs.CompletionLemmas.{no_rank, no_threads, no_bounds}
use Rattle.kb_commands.proofs.completion.reading.selftest_given.Goals as goal

pub returns-in_err-rank : goal.returns-in_err-rank
returns-in_err-rank c =
    let none : c.rank_given.result ≡ None = search rules in
    let is : c.from_residual.result ≡ None = search rules in
    no_rank (rows_of (found_of c.args.matches.now)) c.from_residual.result is (c.rank_given.ensures.none none)

pub returns-in_err-workers : goal.returns-in_err-workers
returns-in_err-workers c =
    let none : c.option_given.result ≡ None = search rules in
    let is : c.from_residual-in_err-workers.result ≡ None = search rules in
    no_threads (rows_of (found_of c.args.matches.now)) c.from_residual-in_err-workers.result is (c.option_given.ensures.none none)

pub returns-in_err-limits : goal.returns-in_err-limits
returns-in_err-limits c =
    let none : c.limits_given.result ≡ None = search rules in
    let is : c.from_residual-in_err-limits.result ≡ None = search rules in
    no_bounds (rows_of (found_of c.args.matches.now)) c.from_residual-in_err-limits.result is (c.limits_given.ensures.none none)
