use Rattle.std.proofs.Common.{sym, subst}
use Rattle.clap.specs.Words.{found_of, rows_of}
use Rattle.kb_commands.specs.Arguments.{GivesNumber, option_most}
use Rattle.kb_commands.proofs.arguments.option_given.Goals as goal

pub returns-clause-none : goal.returns-clause-none
returns-clause-none c is n gives =
    let rows = rows_of (found_of c.args.matches.now) in
    let named = subst (λ name. GivesNumber rows name 1 (option_most c.args.option) n) (sym c.label-label.ensures.name) gives in
    c.number_given.ensures.none is n (subst (λ most. GivesNumber rows c.label-label.result.name.now 1 most n) (sym c.label-label.ensures.most) named)
