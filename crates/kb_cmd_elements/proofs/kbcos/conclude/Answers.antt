use Rattle.std.proofs.Common.{sym, subst}
use Rattle.kb_io.specs.Outside.{Outside, outside}
use Rattle.kb_task.specs.Runs.{IsRun}
use Rattle.kb_task.specs.Stores.{texts_of}
use Rattle.kb_evidence.proofs.ShownLemmas.{shows_differ}
use Rattle.kb_coset.specs.CosetWords.{Cosets}
use Rattle.kb_cmd_elements.specs.CosetAnswers.{AreCosetTexts, CosetsMean, marked_of, subgroup_file}
use Rattle.kb_cmd_elements.specs.CosetOutcomes.{CosetsComeTo}
use Rattle.kb_cmd_elements.specs.Given.{KbcosGiven}
use Rattle.kb_cmd_elements.specs.Kbcos.{kbcos_limits, kbcos_may_store}
use Rattle.kb_cmd_elements.specs.declared.coset_outcome.CosetOutcome.{CosetOutcome}
use Rattle.kb_cmd_elements.proofs.KbcosRuns.{run-shown, run-told, shows_may}
use Rattle.kb_cmd_elements.proofs.kbcos.conclude.Goals as goal

pub store_and_answer_cosets-requires : goal.store_and_answer_cosets-requires
store_and_answer_cosets-requires g c =
    let given : KbcosGiven = c.args.task.now in
    let says = subst (λ (it : CosetOutcome). CosetsComeTo given c.requires.0 it) c.in-Told.is c.requires.1 in
    let P : Cosets → Type 0 = λ cosets. AreCosetTexts given.file cosets (texts_of c.in-Told.files.items) in
    subst P (sym says.1) says.0

pub show_limit-requires-clause-differ : goal.show_limit-requires-clause-differ
show_limit-requires-clause-differ g c =
    let given : KbcosGiven = c.args.task.now in
    let shown = c.in-Limit.evidence in
    let says = subst (λ (it : CosetOutcome). CosetsComeTo given c.requires.0 it) c.in-Limit.is c.requires.1 in
    shows_differ (kbcos_limits given) (subgroup_file given.file) (marked_of c.requires.0) shown.limit (texts_of shown.files.items) shown.line.items says.0

pub show_limit-requires-clause-may : goal.show_limit-requires-clause-may
show_limit-requires-clause-may g c =
    let given : KbcosGiven = c.args.task.now in
    let shown = c.in-Limit.evidence in
    let says = subst (λ (it : CosetOutcome). CosetsComeTo given c.requires.0 it) c.in-Limit.is c.requires.1 in
    shows_may given (marked_of c.requires.0) shown.limit (texts_of shown.files.items) shown.line.items says

pub returns-in-Told : goal.returns-in-Told
returns-in-Told g c = λ cosets comes.
    let given : KbcosGiven = c.args.task.now in
    let says = subst (λ (it : CosetOutcome). CosetsComeTo given cosets it) c.in-Told.is comes in
    let before : Outside =
    outside (g.F.Shelf.state c.args.shelf.now) (g.I.Source.state c.args.input.now) (g.O.Sink.state c.args.out.now) in
    let after : Outside =
    outside (g.F.Shelf.state c.store_and_answer_cosets.new.shelf) (g.I.Source.state c.store_and_answer_cosets.new.input)
    (g.O.Sink.state c.store_and_answer_cosets.new.out) in
    let P : Cosets → Type 0 = λ told. IsRun (CosetsMean given.file told) (kbcos_may_store given) before after c.store_and_answer_cosets.result in
    run-told given cosets before after c.store_and_answer_cosets.result (subst P says.1 c.store_and_answer_cosets.ensures)

pub returns-in-Limit : goal.returns-in-Limit
returns-in-Limit g c = λ cosets comes.
    let given : KbcosGiven = c.args.task.now in
    let before : Outside =
    outside (g.F.Shelf.state c.args.shelf.now) (g.I.Source.state c.args.input.now) (g.O.Sink.state c.args.out.now) in
    let after : Outside =
    outside (g.F.Shelf.state c.show_limit.new.shelf) (g.I.Source.state c.args.input.now) (g.O.Sink.state c.show_limit.new.out) in
    run-shown given cosets before after c.show_limit.result
    (c.show_limit.ensures (marked_of cosets) (g.I.Source.state c.args.input.now)
    (subst (λ (it : CosetOutcome). CosetsComeTo given cosets it) c.in-Limit.is comes))
