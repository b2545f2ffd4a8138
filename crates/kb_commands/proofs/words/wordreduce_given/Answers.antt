use Rattle.std.proofs.Common.{rules, ◌≡◌, None}
use Rattle.kb_commands.proofs.words.wordreduce_given.Goals as goal

pub returns-in_default-option_given : goal.returns-in_default-option_given
returns-in_default-option_given c =
    let none : c.option_given.result ≡ None = search rules in
    λ given gives. c.option_given.ensures.none none given.workers gives.workers

pub returns-in_default-option_given-2 : goal.returns-in_default-option_given-2
returns-in_default-option_given-2 c =
    let none : c.option_given-2.result ≡ None = search rules in
    λ given gives. c.option_given-2.ensures.none none given.batch gives.batch
