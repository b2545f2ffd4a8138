use Rattle.std.proofs.Common.{List, sym, subst, rules}
use Rattle.kb_word.specs.Words.{Pair as Sides}
use Rattle.kb_word.specs.Presentations.{parts_of}
use Rattle.kb_auto.specs.Deciding.{AreUnresolvedBy}
use Rattle.kb_auto.proofs.asking.decide_at_halt.Goals as goal

pub returns : goal.returns
returns g c = λ limits same.
    let presentation = c.args.presentation.now in
    let P : List Sides → Type 0 = λ r. AreUnresolvedBy presentation r c.args.multipliers.now in (
      c.in_ok-halted.ensures.shows limits (parts_of presentation) same,
      subst P (sym c.in_ok-halted.ensures.rules) (c.live_rules_show.ensures.open (search rules)),
    )
