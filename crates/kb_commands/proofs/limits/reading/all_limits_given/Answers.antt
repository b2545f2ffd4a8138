use Rattle.std.proofs.Common.{rules, ◌≡◌, None}
use Rattle.kb_commands.proofs.limits.reading.all_limits_given.Goals as goal

pub returns-in_err-limits-clause-none : goal.returns-in_err-limits-clause-none
returns-in_err-limits-clause-none c _ limits most gives =
    let none : c.limits_given.result ≡ None = search rules in
    c.limits_given.ensures.none none limits gives.completion

pub returns-in_err-most-clause-none : goal.returns-in_err-most-clause-none
returns-in_err-most-clause-none c _ limits most gives =
    let none : c.option_given.result ≡ None = search rules in
    c.option_given.ensures.none none most gives.differences
