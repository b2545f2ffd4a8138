use Rattle.std.proofs.Common.{◌≡◌, ◌∙◌, ℕ, List, ap, subst}
use Rattle.kb_io.specs.Outside.{Outside, outside}
use Rattle.kb_io.specs.States.{ShelfState, SourceState, SinkState}
use Rattle.kb_word.specs.Presentations.{PresentationParts, parts_of}
use Rattle.kb_task.specs.Loads.{EndsAtLoad}
use Rattle.kb_task.specs.Presentations.{HoldsPresentation, IsPresentationFault}
use Rattle.kb_task.specs.declared.status.Status.TheVariants.{Memory}
use Rattle.kb_cmd_proofs.specs.Given.{KbcertifyGiven}
use Rattle.kb_cmd_proofs.specs.Kbcertify.{FindsCertified, kbcertify_may_store}
use Rattle.kb_cmd_proofs.proofs.CertifyLemmas.{found_differ, found_faultless, found_may}
use Rattle.kb_cmd_proofs.proofs.ShowRuns.{nothing-run, run-at_file, run-held, run-unloaded, run_found}
use Rattle.kb_cmd_proofs.proofs.kbcertify.Kbcertify.run.Goals as goal

pub returns-in_default : goal.returns-in_default
returns-in_default g c =
    run-unloaded c.args.self (g.F.Shelf.state c.args.shelf.now) (g.I.Source.state c.args.input.now) (g.O.Sink.state c.args.out.now)

pub show-requires-clause-faultless : goal.show-requires-clause-faultless
show-requires-clause-faultless g c = found_faultless c.in-Ok-find.ensures

pub show-requires-clause-differ : goal.show-requires-clause-differ
show-requires-clause-differ g c = found_differ c.in-Ok-find.ensures

pub returns-in-Ok-find : goal.returns-in-Ok-find
returns-in-Ok-find g c =
    let given : KbcertifyGiven = c.args.self in
    let shelf : ShelfState = g.F.Shelf.state c.args.shelf.now in
    let loaded : ShelfState = g.F.Shelf.state c.load_presentation.new.shelf in
    let input : SourceState = g.I.Source.state c.args.input.now in
    let output : SinkState = g.O.Sink.state c.args.out.now in
    let after : Outside = outside (g.F.Shelf.state c.show.new.shelf) input (g.O.Sink.state c.show.new.out) in
    let parts : PresentationParts = parts_of c.in-Ok-load_presentation.presentation in
    let file : c.in-Ok.file ≡ given.file = c.in-Ok.ensures ∙ ap (λ (it : KbcertifyGiven). it.file) c.self.view_is in
    run-held given shelf loaded input output c.load_presentation.ensures.only_loads parts after c.show.result
    (λ told. subst (λ (name : List ℕ). HoldsPresentation shelf.holds name parts) file (c.in-Ok-load_presentation.ensures.holds told))
    (run_found c.in-Ok-find.finding (FindsCertified given parts) (kbcertify_may_store given) c.in-Ok-find.ensures
    (found_may c.in-Ok-find.ensures) (c.show.ensures input))

pub returns-in-Ok-load_presentation : goal.returns-in-Ok-load_presentation
returns-in-Ok-load_presentation g c =
    let given : KbcertifyGiven = c.args.self in
    let shelf : ShelfState = g.F.Shelf.state c.args.shelf.now in
    let loaded : ShelfState = g.F.Shelf.state c.load_presentation.new.shelf in
    let input : SourceState = g.I.Source.state c.args.input.now in
    let output : SinkState = g.O.Sink.state c.args.out.now in
    let parts : PresentationParts = parts_of c.in-Ok-load_presentation.presentation in
    let file : c.in-Ok.file ≡ given.file = c.in-Ok.ensures ∙ ap (λ (it : KbcertifyGiven). it.file) c.self.view_is in
    run-held given shelf loaded input output c.load_presentation.ensures.only_loads parts (outside loaded input output) Memory
    (λ told. subst (λ (name : List ℕ). HoldsPresentation shelf.holds name parts) file (c.in-Ok-load_presentation.ensures.holds told))
    (nothing-run (FindsCertified given parts) (kbcertify_may_store given) loaded input output)

pub returns : goal.returns
returns g c =
    let given : KbcertifyGiven = c.args.self in
    let shelf : ShelfState = g.F.Shelf.state c.args.shelf.now in
    let loaded : ShelfState = g.F.Shelf.state c.load_presentation.new.shelf in
    let input : SourceState = g.I.Source.state c.args.input.now in
    let output : SinkState = g.O.Sink.state c.args.out.now in
    let file : c.in-Ok.file ≡ given.file = c.in-Ok.ensures ∙ ap (λ (it : KbcertifyGiven). it.file) c.self.view_is in
    run-at_file given shelf loaded input output c.load_presentation.ensures.only_loads c.in-Err.status
    (λ told. subst (λ (name : List ℕ). EndsAtLoad (IsPresentationFault shelf.holds name) name c.in-Err.status) file (c.in-Err.ensures.ends told))
    (c.in-Err.ensures.fault input output)
