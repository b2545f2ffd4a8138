use Rattle.std.proofs.Common.{◌≡◌, ◌∙◌, ℕ, List, ap, subst, sym, arith}
use Rattle.std.specs.List.{All}
use Rattle.kb_io.specs.Outside.{Outside, outside}
use Rattle.kb_io.specs.States.{ShelfState, SourceState, SinkState}
use Rattle.kb_word.specs.Presentations.{PresentationParts, parts_of}
use Rattle.kb_word.specs.Relations.{IsOver}
use Rattle.kb_coset.specs.CosetWords.{Cosets}
use Rattle.kb_task.specs.Loads.{EndsAtLoad}
use Rattle.kb_task.specs.Subgroups.{HoldsSubgroup, IsSubgroupFault}
use Rattle.kb_task.specs.declared.status.Status.TheVariants.{Memory}
use Rattle.kb_cmd_elements.specs.CosetAnswers.{subgroup_file}
use Rattle.kb_diff.specs.Groups.{EachInverts}
use Rattle.kb_cmd_elements.specs.CosetsTold.{TellCosets}
use Rattle.kb_cmd_elements.specs.Given.{KbcosGiven}
use Rattle.kb_cmd_elements.proofs.BallLemmas.{parts_present}
use Rattle.kb_cmd_elements.proofs.CosetsToldLemmas.{tell_cosets}
use Rattle.kb_cmd_elements.proofs.KbcosRuns.{cosets-nothing, group-ended, group-held, group-unloaded}
use Rattle.kb_cmd_elements.proofs.kbcos.run_in_group.Goals as goal

pub returns-in_default : goal.returns-in_default
returns-in_default g c =
    group-unloaded c.args.task.now (parts_of c.args.presentation) (g.F.Shelf.state c.args.shelf.now) (g.I.Source.state c.args.input.now)
    (g.O.Sink.state c.args.out.now)

pub complete_cosets-requires-clause-few : goal.complete_cosets-requires-clause-few
complete_cosets-requires-clause-few g c =
    let each = c.args.presentation.is_presentation.one_name_each in
    let room = c.requires.room in
    omega (arith, each, room)

pub complete_cosets-requires-clause-letters : goal.complete_cosets-requires-clause-letters
complete_cosets-requires-clause-letters g c κs within =
    let P : ℕ → Type 0 = λ n. All (IsOver n) c.in-Ok-load_subgroup.generators.items in
    subst P c.args.presentation.is_presentation.one_name_each c.in-Ok-load_subgroup.ensures.letters

pub conclude-requires : goal.conclude-requires
conclude-requires g c =
    let cosets : Cosets = record { parts = parts_of c.args.presentation; generators = c.in-Ok-load_subgroup.generators.items } in
    (cosets, c.in-Ok-complete_cosets.ensures)

pub returns-in-Ok-complete_cosets : goal.returns-in-Ok-complete_cosets
returns-in-Ok-complete_cosets g c =
    let given : KbcosGiven = c.args.task.now in
    let parts : PresentationParts = parts_of c.args.presentation in
    let generators : List (List ℕ) = c.in-Ok-load_subgroup.generators.items in
    let shelf : ShelfState = g.F.Shelf.state c.args.shelf.now in
    let loaded : ShelfState = g.F.Shelf.state c.load_subgroup.new.shelf in
    let input : SourceState = g.I.Source.state c.args.input.now in
    let output : SinkState = g.O.Sink.state c.args.out.now in
    let after : Outside =
    outside (g.F.Shelf.state c.conclude.new.shelf) (g.I.Source.state c.conclude.new.input) (g.O.Sink.state c.conclude.new.out) in
    let file : c.in-Ok.words_file ≡ subgroup_file given.file =
    c.in-Ok.ensures ∙ ap (λ (it : KbcosGiven). subgroup_file it.file) c.task.view_is in
    let Held : List ℕ → Type 0 = λ name. HoldsSubgroup parts shelf.holds name generators in
    let cosets : Cosets = record { parts = parts; generators = generators } in
    let Invert : ℕ → Type 0 = λ n. EachInverts n c.args.presentation.inv in
    let each = subst Invert (sym c.args.presentation.is_presentation.one_name_each) c.requires.group in
    let tell : TellCosets cosets = tell_cosets cosets (parts_present c.args.presentation) each c.in-Ok-load_subgroup.ensures.letters in
    group-held given parts shelf loaded input output c.load_subgroup.ensures.only_loads generators after c.conclude.result
    (λ told. subst Held file (c.in-Ok-load_subgroup.ensures.holds told)) tell
    (c.conclude.ensures cosets c.in-Ok-complete_cosets.ensures)

pub returns-in-Err-complete_cosets : goal.returns-in-Err-complete_cosets
returns-in-Err-complete_cosets g c =
    let given : KbcosGiven = c.args.task.now in
    let parts : PresentationParts = parts_of c.args.presentation in
    let generators : List (List ℕ) = c.in-Ok-load_subgroup.generators.items in
    let shelf : ShelfState = g.F.Shelf.state c.args.shelf.now in
    let loaded : ShelfState = g.F.Shelf.state c.load_subgroup.new.shelf in
    let input : SourceState = g.I.Source.state c.args.input.now in
    let output : SinkState = g.O.Sink.state c.args.out.now in
    let file : c.in-Ok.words_file ≡ subgroup_file given.file =
    c.in-Ok.ensures ∙ ap (λ (it : KbcosGiven). subgroup_file it.file) c.task.view_is in
    let Held : List ℕ → Type 0 = λ name. HoldsSubgroup parts shelf.holds name generators in
    let cosets : Cosets = record { parts = parts; generators = generators } in
    let Invert : ℕ → Type 0 = λ n. EachInverts n c.args.presentation.inv in
    let each = subst Invert (sym c.args.presentation.is_presentation.one_name_each) c.requires.group in
    let tell : TellCosets cosets = tell_cosets cosets (parts_present c.args.presentation) each c.in-Ok-load_subgroup.ensures.letters in
    group-held given parts shelf loaded input output c.load_subgroup.ensures.only_loads generators (outside loaded input output) Memory
    (λ told. subst Held file (c.in-Ok-load_subgroup.ensures.holds told)) tell (cosets-nothing given parts generators loaded input output)

pub returns-in-Err : goal.returns-in-Err
returns-in-Err g c =
    let given : KbcosGiven = c.args.task.now in
    let parts : PresentationParts = parts_of c.args.presentation in
    let shelf : ShelfState = g.F.Shelf.state c.args.shelf.now in
    let loaded : ShelfState = g.F.Shelf.state c.load_subgroup.new.shelf in
    let input : SourceState = g.I.Source.state c.args.input.now in
    let output : SinkState = g.O.Sink.state c.args.out.now in
    let file : c.in-Ok.words_file ≡ subgroup_file given.file =
    c.in-Ok.ensures ∙ ap (λ (it : KbcosGiven). subgroup_file it.file) c.task.view_is in
    let Ends : List ℕ → Type 0 = λ name. EndsAtLoad (IsSubgroupFault parts shelf.holds name) name c.in-Err.status in
    group-ended given parts shelf loaded input output c.load_subgroup.ensures.only_loads c.in-Err.status (c.in-Err.ensures.fault input output)
    (λ told. subst Ends file (c.in-Err.ensures.ends told))
