use Rattle.std.proofs.Common.{arith, ◌≡◌, ◌-◌, suc, ap, ◌∙◌, sym}
use Rattle.kb_ragged.specs.Cuts.{begins_at}
use Rattle.kb_ragged.proofs.RaggedLemmas.{begins_at-before}
use Rattle.kb_ragged.proofs.ragged.beginning.Goals as goal

pub returns-then-place-eq0 : goal.returns-then-place-eq0
returns-then-place-eq0 c = let at : c.args.place ≡ 0 = omega (arith, c.if-place-eq0.true) in ap (begins_at 0 c.args.ends.now) (sym at)

pub returns-else-place-eq0 : goal.returns-else-place-eq0
returns-else-place-eq0 c =
    let within = c.requires in
    let at : suc (c.args.place - 1) ≡ c.args.place = omega (arith, c.if-place-eq0.false) in
    begins_at-before 0 c.args.ends.now (c.args.place - 1) (omega (arith, within, at)) ∙ ap (begins_at 0 c.args.ends.now) at
