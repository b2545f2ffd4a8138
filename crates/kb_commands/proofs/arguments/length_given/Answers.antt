use Rattle.std.proofs.Common.{rules, ◌≡◌, None}
use Rattle.kb_commands.proofs.arguments.length_given.Goals as goal

pub returns-in_err-length-clause-none : goal.returns-in_err-length-clause-none
returns-in_err-length-clause-none c _ n gives =
    let none : c.number_given.result ≡ None = search rules in
    c.number_given.ensures.none none n gives
