use Rattle.std.proofs.Common.{List, subst}
use Rattle.kb_io.specs.Outside.{Outside, outside}
use Rattle.kb_io.specs.States.{ShelfState}
use Rattle.kb_lines.specs.Streams.{Streams, streams}
use Rattle.kb_coset.specs.CosetWords.{Cosets}
use Rattle.kb_task.specs.Stores.{Text, texts_of}
use Rattle.kb_task.specs.declared.status.Status.{Status}
use Rattle.kb_answering.proofs.StoreRuns.{other-no_yes}
use Rattle.kb_cmd_elements.specs.Given.{KbcosGiven}
use Rattle.kb_cmd_elements.proofs.CosetRuns.{StoresAll, run-answers, run-stops_at_store, texts_differ}
use Rattle.kb_cmd_elements.proofs.coset_words.store_and_answer_cosets.Goals as goal

pub store_texts-requires : goal.store_texts-requires
store_texts-requires g c = texts_differ c.args.task.now.file c.args.coset_words.now (texts_of c.args.files.items) c.requires

pub returns-in-Yes : goal.returns-in-Yes
returns-in-Yes g c =
    let given : KbcosGiven = c.args.task.now in
    let cosets : Cosets = c.args.coset_words.now in
    let texts : List Text = texts_of c.args.files.items in
    let old : ShelfState = g.F.Shelf.state c.args.shelf.now in
    let new : ShelfState = g.F.Shelf.state c.store_texts.new.shelf in
    let before : Streams = streams (g.I.Source.state c.args.input.now) (g.O.Sink.state c.args.out.now) in
    let after : Streams = streams (g.I.Source.state c.answer_words.new.input) (g.O.Sink.state c.answer_words.new.out) in
    let a : Outside = outside old before.input before.output in
    let b : Outside = outside new before.input before.output in
    run-answers given cosets texts c.requires old new before after c.answer_words.result
    (subst (λ (s : Status). StoresAll texts a b s) c.in-Yes.is (c.store_texts.ensures before.input before.output)) (c.answer_words.ensures new)

pub returns-in_default : goal.returns-in_default
returns-in_default g c =
    let given : KbcosGiven = c.args.task.now in
    let texts : List Text = texts_of c.args.files.items in
    let input = g.I.Source.state c.args.input.now in
    let output = g.O.Sink.state c.args.out.now in
    run-stops_at_store given c.args.coset_words.now texts c.requires (outside (g.F.Shelf.state c.args.shelf.now) input output)
    (outside (g.F.Shelf.state c.store_texts.new.shelf) input output) c.store_texts.result (other-no_yes c.in_default.not-Yes)
    (c.store_texts.ensures input output)
