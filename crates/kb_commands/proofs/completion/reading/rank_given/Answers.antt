use Rattle.std.proofs.Common.{rules, ◌≡◌, None}
use Rattle.kb_commands.proofs.completion.reading.rank_given.Goals as goal

pub returns-in_err-rank-clause-none : goal.returns-in_err-rank-clause-none
returns-in_err-rank-clause-none c _ rank gives =
    let none : c.number_given.result ≡ None = search rules in
    c.number_given.ensures.none none rank gives
