use Rattle.std.proofs.Common.{sym, subst}
use Rattle.kb_auto.specs.Trials.{GatheringSays}
use Rattle.kb_auto.specs.declared.gathering.Gathering.{Gathering}
use Rattle.kb_auto.proofs.gathering.gathering_of.Goals as goal
use Rattle.kb_auto.proofs.gathering.gathering_of.Goals.{in-Grew, in-Same, in-Full}

pub returns : goal.returns
returns c = λ before after equality adds nothing.
    let P : Gathering → Type 0 = λ it. GatheringSays before after equality it in
    elim c.match-answer.branch [
      | in-Grew w ↦ subst P (sym w.result-is) (rw w.in-Grew.is at adds)
      | in-Same w ↦ subst P (sym w.result-is) (nothing w.in-Same.is)
      | in-Full w ↦ subst P (sym w.result-is) (_, _, rw w.in-Full.is at adds)
    ]
