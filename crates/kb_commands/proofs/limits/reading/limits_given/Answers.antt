use Rattle.std.proofs.Common.{rules, ◌≡◌, None}
use Rattle.kb_commands.proofs.limits.reading.limits_given.Goals as goal

pub returns-in_err-lines-clause-none : goal.returns-in_err-lines-clause-none
returns-in_err-lines-clause-none c _ limits gives =
    let none : c.option_given.result ≡ None = search rules in
    c.option_given.ensures.none none limits.lines gives.lines

pub returns-in_err-letters-clause-none : goal.returns-in_err-letters-clause-none
returns-in_err-letters-clause-none c _ limits gives =
    let none : c.option_given-2.result ≡ None = search rules in
    c.option_given-2.ensures.none none limits.letters gives.letters

pub returns-in_err-states-clause-none : goal.returns-in_err-states-clause-none
returns-in_err-states-clause-none c _ limits gives =
    let none : c.option_given-3.result ≡ None = search rules in
    c.option_given-3.ensures.none none limits.states gives.states
