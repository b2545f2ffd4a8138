use Rattle.std.proofs.Common.{subst, sym, ◌∙◌}
use Rattle.kb_record.specs.Faults.{Evaluates}
use Rattle.kb_record.proofs.WordMeanings.{negative_power_is}
use Rattle.kb_record.proofs.meaning.negative_power.Goals as goal

pub returns : goal.returns
returns c =
    subst (λ meaning. Evaluates meaning c.repeated.result)
    (negative_power_is c.args.presentation.now.names c.args.presentation.now.inv c.args.word.now c.in-Some.inverse c.args.count (sym c.in_ok-inverse.ensures ∙ c.in-Some.is) c.requires)
    c.repeated.ensures
