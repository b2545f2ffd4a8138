use Rattle.std.proofs.Common.{◌≡◌, ◌<◌, length, ℕ, List, [], Some, sym, ap, ◌∙◌, subst, arith}
use Rattle.std.proofs.lemmas.List.{get_or_default}
use Rattle.std.proofs.lemmas.Option.{slice_get_within, slice_get-get_or}
use Rattle.kb_diff.specs.Groups.{group_of}
use Rattle.kb_diff.proofs.Reading.{on_ok_more}
use Rattle.kb_labels.specs.Labels.{Turns}
use Rattle.kb_labels.specs.Places.{label_at}
use Rattle.kb_labels.specs.Comparing.{Compares, IsMoveWord, Keeps}
use Rattle.kb_labels.proofs.MoveWords.{own_move, other_move}
use Rattle.kb_labels.proofs.comparing.compare_move.Goals as goal

pub returns-then-symbol-step : goal.returns-then-symbol-step
returns-then-symbol-step g c =
    let group = group_of c.args.presentation.now (g.R.Reducer.rules c.args.reducer.now) in
    let states : List ℕ = c.args.placed.now.states.keys in
    let labels : List (List ℕ) = c.args.placed.now.labels.items in
    let origins = c.args.placed.now.origins.items in
    let target : ℕ = c.in-Some-Some.target in
    let at = c.in-Some-Some.ensures'.some in
    let within : target < length states = slice_get_within states target c.args.step.2 at in
    let origin = slice_get-get_or origins target c.index.result.now (omega (arith, within, c.requires.origins)) ∙ ap (λ o. Some o) (sym c.index.ensures) in
    own_move group c.args.presentation.now.order states labels c.requires.distinct c.args.step.0 c.args.step.1 c.args.step.2
    c.in-Some-Some.source target c.in-Some-Some.ensures.some at origins c.index.result.now.0 c.index.result.now.1 c.args.found.now
    c.requires.from_origins (omega (arith, within, c.requires.labels)) origin (omega (arith, c.if-number-source.true)) c.if-symbol-step.true

pub index-requires-2 : goal.index-requires-2
index-requires-2 g c =
    omega (
      arith,
      c.requires.labels,
      c.args.placed.now.labels.ok.0,
      slice_get_within c.args.placed.now.states.keys c.in-Some-Some.source c.args.step.0 c.in-Some-Some.ensures.some,
    )

pub index-label-requires : goal.index-label-requires
index-label-requires g c =
    omega (
      arith,
      c.requires.labels,
      c.args.placed.now.labels.ok.0,
      slice_get_within c.args.placed.now.states.keys c.in-Some-Some.target c.args.step.2 c.in-Some-Some.ensures'.some,
    )

pub returns : goal.returns
returns g c =
    let group = group_of c.args.presentation.now (g.R.Reducer.rules c.args.reducer.now) in
    let order = c.args.presentation.now.order in
    let states : List ℕ = c.args.placed.now.states.keys in
    let labels : List (List ℕ) = c.args.placed.now.labels.items in
    let from_place : ℕ = c.in-Some-Some.source in
    let place : ℕ = c.in-Some-Some.target in
    let from_at = c.in-Some-Some.ensures.some in
    let at = c.in-Some-Some.ensures'.some in
    let symbol : ℕ = c.args.step.1 in
    let word : List ℕ = c.turn.new.scratch.word in
    let from_within : from_place < length labels = omega (arith, slice_get_within states from_place c.args.step.0 from_at, c.requires.labels) in
    let within : place < length labels = omega (arith, slice_get_within states place c.args.step.2 at, c.requires.labels) in
    let from_is : c.index-2.result.now ≡ label_at labels from_place =
    c.index-2.ensures ∙ get_or_default labels from_place c.index-2.result.now [] from_within in
    let is : c.index-label.result.now ≡ label_at labels place =
    c.index-label.ensures ∙ get_or_default labels place c.index-label.result.now [] within in
    let P : List ℕ → Type 0 = λ d. Turns group d symbol word in
    let Q : List ℕ → Type 0 = λ label. Keeps order label place word c.args.found.now c.keep.new.found in
    on_ok_more (Keeps order c.index-label.result.now place word c.args.found.now c.keep.new.found)
    (Compares order labels (IsMoveWord group states labels c.args.step.0 symbol c.args.step.2) c.args.found.now c.keep.new.found) c.keep.result
    (λ keeps. other_move group order states labels c.requires.distinct c.args.step.0 symbol c.args.step.2 from_place place from_at at word
    c.args.found.now c.keep.new.found (subst P from_is c.in_ok-turn.ensures) (subst Q is keeps))
    c.keep.ensures
