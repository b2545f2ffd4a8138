use Rattle.std.proofs.Common.{List, sym, subst}
use Rattle.kb_record.specs.NamesMet.{Bracket, Names, closed, GoesOn}
use Rattle.kb_record.proofs.OpenLemmas.{goes_on, last_around}
use Rattle.kb_record.proofs.repeats.Open.pop.Goals as goal

pub returns : goal.returns
returns c = λ (next : Names) (f : Bracket) (fs : List Bracket) are.
    let around = last_around c.args.self.now.outer.items c.pop.new.self.items c.in-Some.inner fs are.1 c.in-Some.ensures.items in
    let P : List Bracket → Type 0 = λ gs. GoesOn (next around.f around.others) (closed next gs) in (
      around.f,
      around.others,
      (around.inner, around.outer),
      subst P (sym around.whole) (goes_on (next around.f around.others)),
    )
