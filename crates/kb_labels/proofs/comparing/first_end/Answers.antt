use Rattle.std.proofs.Common.{◌≡◌, ◌<◌, length, ℕ, ◌+◌, List, [], ◌∷◌, ◌++◌, Option, sym, ap, ◌∙◌, subst, refl, true≢false, arith}
use Rattle.std.proofs.lemmas.List.{get_or_default}
use Rattle.std.proofs.lemmas.Option.{slice_get_within}
use Rattle.kb_word.specs.Rewriting.{NormalForm}
use Rattle.kb_diff.specs.Groups.{group_of}
use Rattle.kb_labels.specs.declared.apart.Apart.{Apart}
use Rattle.kb_labels.specs.Places.{label_at}
use Rattle.kb_labels.specs.Comparing.{IsEndWord, IsFirstApart, Keeps}
use Rattle.kb_labels.proofs.MoveWords.{no_ends, one_more_end, no_more_end}
use Rattle.kb_labels.proofs.comparing.first_end.Goals as goal
use Rattle.kb_labels.proofs.comparing.first_end.Goals.{then-is_accepting+in_ok-keep, else-is_accepting}

pub loop-place-init : goal.loop-place-init
loop-place-init g c =
    no_ends (group_of c.args.presentation.now (g.R.Reducer.rules c.args.reducer.now)) c.args.presentation.now.order
    c.args.placed.now.states.keys c.args.placed.now.labels.items c.args.multiplier.now.table c.args.x

pub loop-place-preserved : goal.loop-place-preserved
loop-place-preserved g c =
    let rules = g.R.Reducer.rules c.args.reducer.now in
    let group = group_of c.args.presentation.now rules in
    let order = c.args.presentation.now.order in
    let states : List ℕ = c.args.placed.now.states.keys in
    let labels : List (List ℕ) = c.args.placed.now.labels.items in
    let table = c.args.multiplier.now.table in
    let x : ℕ = c.args.x in
    let place : ℕ = c.loop-place.place in
    let state : ℕ = c.index.result.now in
    let within : place < length labels = omega (arith, slice_get_within states place state c.index.ensures, c.requires.labels) in
    let P : Option Apart → Type 0 = λ found. IsFirstApart order labels (IsEndWord group table x states (place + 1)) found in
    let N : List ℕ → Type 0 = λ w. NormalForm rules w c.in_ok-end.end in
    let product : c.push.new.self ≡ x ∷ [] = c.in_ok-push.ensures.ok ∙ ap (λ (w : List ℕ). w ++ x ∷ []) c.new-product.ensures in
    elim c.if-is_accepting.branch [
      | then-is_accepting+in_ok-keep w ↦
          let is : w.index-label.result.now ≡ label_at labels place =
          w.index-label.ensures ∙ get_or_default labels place w.index-label.result.now [] within in
          let Q : List ℕ → Type 0 = λ label. Keeps order label place c.in_ok-end.end c.loop-place.found w.keep.new.found in
          subst P (sym w.found-is)
          (one_more_end group order states labels table x place (place + 1) state c.in_ok-end.end c.loop-place.found w.keep.new.found refl
          c.index.ensures (sym c.is_accepting.ensures ∙ w.if-is_accepting.true) (subst N product c.in_ok-end.ensures) c.loop-place.invariant
          (subst Q is w.in_ok-keep.ensures))
      | else-is_accepting w ↦
          subst P (sym w.found-is)
          (no_more_end group order states labels table x place (place + 1) state c.loop-place.found refl c.index.ensures
          (λ accepts. true≢false (sym accepts ∙ (sym c.is_accepting.ensures ∙ w.if-is_accepting.false))) c.loop-place.invariant)
    ]
