use Rattle.std.proofs.Common.{◌≡◌, ◌∙◌, ap, sym, subst}
use Rattle.std.specs.Prelude.{Bool, true, false}
use Rattle.kb_io.specs.Outside.{Outside, outside}
use Rattle.kb_task.specs.Runs.{IsRun}
use Rattle.kb_cmd_structures.specs.Given.{CheckGiven, GpaxiomsGiven}
use Rattle.kb_cmd_structures.specs.GpaxiomsPromise.{MayStoreBy, MeansBy}
use Rattle.kb_cmd_structures.proofs.gpaxioms.Gpaxioms.run.Goals as goal

pub returns-then-self : goal.returns-then-self
returns-then-self g c =
    let given : GpaxiomsGiven = c.args.self in
    let check : c.self.inside.check ≡ given.check = ap (λ (it : GpaxiomsGiven). it.check) c.self.view_is in
    let by_log : true ≡ given.by_log = sym c.if-self.true ∙ ap (λ (it : GpaxiomsGiven). it.by_log) c.self.view_is in
    let before : Outside = outside (g.F.Shelf.state c.args.shelf.now) (g.I.Source.state c.args.input.now) (g.O.Sink.state c.args.out.now) in
    let after : Outside =
    outside (g.F.Shelf.state c.run_by_log.new.shelf) (g.I.Source.state c.args.input.now) (g.O.Sink.state c.run_by_log.new.out) in
    let Of : CheckGiven → Type 0 = λ it. IsRun (MeansBy true it) (MayStoreBy true it) before after c.run_by_log.result in
    let By : Bool → Type 0 = λ it. IsRun (MeansBy it given.check) (MayStoreBy it given.check) before after c.run_by_log.result in
    subst By by_log (subst Of check (c.run_by_log.ensures (g.I.Source.state c.args.input.now)))

pub returns : goal.returns
returns g c =
    let given : GpaxiomsGiven = c.args.self in
    let check : c.self.inside.check ≡ given.check = ap (λ (it : GpaxiomsGiven). it.check) c.self.view_is in
    let by_log : false ≡ given.by_log = sym c.if-self.false ∙ ap (λ (it : GpaxiomsGiven). it.by_log) c.self.view_is in
    let before : Outside = outside (g.F.Shelf.state c.args.shelf.now) (g.I.Source.state c.args.input.now) (g.O.Sink.state c.args.out.now) in
    let after : Outside =
    outside (g.F.Shelf.state c.run_by_completion.new.shelf) (g.I.Source.state c.args.input.now) (g.O.Sink.state c.run_by_completion.new.out) in
    let Of : CheckGiven → Type 0 = λ it. IsRun (MeansBy false it) (MayStoreBy false it) before after c.run_by_completion.result in
    let By : Bool → Type 0 = λ it. IsRun (MeansBy it given.check) (MayStoreBy it given.check) before after c.run_by_completion.result in
    subst By by_log (subst Of check (c.run_by_completion.ensures (g.I.Source.state c.args.input.now)))
