use Rattle.std.proofs.Common.{◌≡◌, ◌∙◌, ℕ, List, ap, subst}
use Rattle.kb_io.specs.States.{ShelfState, SourceState, SinkState}
use Rattle.kb_word.specs.Presentations.{PresentationParts, parts_of}
use Rattle.kb_task.specs.Loads.{EndsAtLoad}
use Rattle.kb_task.specs.Logs.{HoldsDerivations, IsDerivationsFault}
use Rattle.kb_task.specs.Presentations.{HoldsPresentation, IsPresentationFault}
use Rattle.kb_evidence.specs.Files.{log_file}
use Rattle.kb_cmd_proofs.specs.Given.{KbverifyGiven}
use Rattle.kb_cmd_proofs.proofs.KbverifyRuns.{run-memory, run-unpresented, run-unread, run-read}
use Rattle.kb_cmd_proofs.proofs.kbverify.Kbverify.run.Goals as goal

pub returns-in_default : goal.returns-in_default
returns-in_default g c =
    run-memory c.args.self (g.F.Shelf.state c.args.shelf.now) (g.I.Source.state c.args.input.now) (g.O.Sink.state c.args.out.now)

pub returns-in-Err : goal.returns-in-Err
returns-in-Err g c =
    let shelf : ShelfState = g.F.Shelf.state c.args.shelf.now in
    let presented : ShelfState = g.F.Shelf.state c.load_presentation.new.shelf in
    let input : SourceState = g.I.Source.state c.args.input.now in
    let output : SinkState = g.O.Sink.state c.args.out.now in
    let file : c.self.inside.file ≡ c.args.self.file = ap (λ (given : KbverifyGiven). given.file) c.self.view_is in
    run-unpresented c.args.self shelf presented presented input output c.load_presentation.ensures.only_loads c.in-Err.status
    (λ told. subst (λ (name : List ℕ). EndsAtLoad (IsPresentationFault shelf.holds name) name c.in-Err.status) file (c.in-Err.ensures.ends told))
    (c.in-Err.ensures.fault input output)

pub returns : goal.returns
returns g c =
    let shelf : ShelfState = g.F.Shelf.state c.args.shelf.now in
    let presented : ShelfState = g.F.Shelf.state c.load_presentation.new.shelf in
    let loaded : ShelfState = g.F.Shelf.state c.load_derivations.new.shelf in
    let input : SourceState = g.I.Source.state c.args.input.now in
    let output : SinkState = g.O.Sink.state c.args.out.now in
    let parts : PresentationParts = parts_of c.in-Ok-load_presentation.presentation in
    let status = c.in-Err-load_derivations.status in
    let file : c.self.inside.file ≡ c.args.self.file = ap (λ (given : KbverifyGiven). given.file) c.self.view_is in
    let named : c.in-Ok.name ≡ log_file c.args.self.file = c.in-Ok.ensures ∙ ap log_file file in
    run-unread c.args.self shelf presented loaded input output c.load_presentation.ensures.only_loads parts
    (λ told. subst (λ (name : List ℕ). HoldsPresentation shelf.holds name parts) file (c.in-Ok-load_presentation.ensures.holds told))
    c.load_derivations.ensures.only_loads status
    (λ told. subst (λ (name : List ℕ). EndsAtLoad (IsDerivationsFault parts.names presented.holds name) name status) named (c.in-Err-load_derivations.ensures.ends told))
    (c.in-Err-load_derivations.ensures.fault input output)

pub returns-in-Ok-load_derivations : goal.returns-in-Ok-load_derivations
returns-in-Ok-load_derivations g c =
    let shelf : ShelfState = g.F.Shelf.state c.args.shelf.now in
    let presented : ShelfState = g.F.Shelf.state c.load_presentation.new.shelf in
    let loaded : ShelfState = g.F.Shelf.state c.load_derivations.new.shelf in
    let input : SourceState = g.I.Source.state c.args.input.now in
    let output : SinkState = g.O.Sink.state c.args.out.now in
    let parts : PresentationParts = parts_of c.in-Ok-load_presentation.presentation in
    let log = c.in-Ok-load_derivations.log in
    let file : c.self.inside.file ≡ c.args.self.file = ap (λ (given : KbverifyGiven). given.file) c.self.view_is in
    let named : c.in-Ok.name ≡ log_file c.args.self.file = c.in-Ok.ensures ∙ ap log_file file in
    run-read c.args.self shelf presented loaded input output c.load_presentation.ensures.only_loads parts
    (λ told. subst (λ (name : List ℕ). HoldsPresentation shelf.holds name parts) file (c.in-Ok-load_presentation.ensures.holds told))
    c.load_derivations.ensures.only_loads log
    (λ told. subst (λ (name : List ℕ). HoldsDerivations presented.holds name parts.names log) named (c.in-Ok-load_derivations.ensures.holds told))
    (g.O.Sink.state c.check.new.out) c.check.result (c.check.ensures loaded input)
