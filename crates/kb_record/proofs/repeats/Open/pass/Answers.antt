use Rattle.std.proofs.Common.{List, sym, subst}
use Rattle.kb_record.specs.NamesMet.{Bracket, Names, stepped, GoesOn, Continues}
use Rattle.kb_record.specs.declared.repeats.Step.{Step}
use Rattle.kb_record.proofs.OpenLemmas.{goes_on}
use Rattle.kb_record.proofs.repeats.Open.pass.Goals as goal

pub returns-in-Closes : goal.returns-in-Closes
returns-in-Closes c = λ (next : Names) (f : Bracket) (fs : List Bracket) are.
    subst (λ (s : Step). Continues c.pop.result c.pop.new.self (stepped s next f fs) next) (sym c.in-Closes.is) (c.pop.ensures next f fs are)

pub returns-in-Other : goal.returns-in-Other
returns-in-Other c = λ (next : Names) (f : Bracket) (fs : List Bracket) are.
    (f, fs, are, subst (λ (s : Step). GoesOn (next f fs) (stepped s next f fs)) (sym c.in-Other.is) (goes_on (next f fs)))
