use Rattle.std.proofs.Common.{refl, arith}
use Rattle.kb_task.proofs.LoadLemmas.{same_places}
use Rattle.kb_task.proofs.loading.automata.have_same_names.Goals as goal

pub returns : goal.returns
returns c = (
  (λ _. same_places c.args.names.now c.args.others.now c.loop-place.invariant.long
      (λ k within. c.loop-place.invariant.same k (omega (arith, within)))),
  (λ _. refl),
)
