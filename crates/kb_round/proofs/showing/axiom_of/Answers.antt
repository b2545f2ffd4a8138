use Rattle.std.proofs.Common.{sym, subst}
use Rattle.kb_structure.specs.declared.cert.Cert.{Cert}
use Rattle.kb_round.specs.Figures.{Breaks}
use Rattle.kb_round.specs.Figures.Breaks.{n4, n5, n6, n7, n8}
use Rattle.kb_round.specs.declared.answers.Axiom.TheVariants.{N4, N5, N6, N7, N8}
use Rattle.kb_round.proofs.showing.axiom_of.Goals as goal

pub returns-in-N4 : goal.returns-in-N4
returns-in-N4 c = subst (λ (cert : Cert). Breaks cert N4) (sym c.in-N4.is) n4

pub returns-in-N5 : goal.returns-in-N5
returns-in-N5 c = subst (λ (cert : Cert). Breaks cert N5) (sym c.in-N5.is) n5

pub returns-in-N6 : goal.returns-in-N6
returns-in-N6 c = subst (λ (cert : Cert). Breaks cert N6) (sym c.in-N6.is) n6

pub returns-in-N7 : goal.returns-in-N7
returns-in-N7 c = subst (λ (cert : Cert). Breaks cert N7) (sym c.in-N7.is) n7

pub returns-in-N8 : goal.returns-in-N8
returns-in-N8 c = subst (λ (cert : Cert). Breaks cert N8) (sym c.in-N8.is) n8
