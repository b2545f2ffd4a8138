use Rattle.std.proofs.Common.{◌≡◌, ◌+◌, ℕ, sym, ◌∙◌, ap, subst, arith}
use Rattle.std.specs.List.{All}
use Rattle.std.proofs.lemmas.List.Elements.{All-push}
use Rattle.kb_threads.specs.Shared.{AreNumbered, PassParts}
use Rattle.kb_threads.proofs.Numbers.{numbered_more}
use Rattle.kb_threads.proofs.shared.passes_of.Goals as goal

pub loop-worker-preserved : goal.loop-worker-preserved
loop-worker-preserved g c =
    let before = c.loop-worker.invariant in
    let own = c.of.ensures.pass in
    let rest = c.of.ensures.rest in
    let more = c.in_ok-push.ensures.len in
    let parts = before.0 in
    let few = before.2 in (
      omega (arith, parts, rest.0),
      rest.1,
      omega (arith, few, more),
      subst (All (λ (pass : PassParts). pass.entered ≡ 0)) (sym c.in_ok-push.ensures.items)
          (All-push (λ (pass : PassParts). pass.entered ≡ 0) c.loop-worker.passes.items c.of.result before.3 own.1),
      subst AreNumbered (sym c.in_ok-push.ensures.items)
          (numbered_more c.loop-worker.passes.items c.of.result before.4
          (own.0 ∙ ap (λ (n : ℕ). n + 1) (sym before.2))),
    )
