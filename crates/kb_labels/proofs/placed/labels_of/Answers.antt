use Rattle.std.proofs.Common.{◌≡◌, ◌<◌, ℕ, ◌+◌, List, length, get_or, sym, ap, ◌∙◌, subst, arith}
use Rattle.std.proofs.lemmas.List.{length_push}
use Rattle.kb_diff.specs.Groups.{group_of}
use Rattle.kb_labels.specs.Places.{AreFromOrigins, IsFromOrigin}
use Rattle.kb_labels.proofs.LabelTexts.{origin_at_earlier, one_more_label}
use Rattle.kb_labels.proofs.placed.labels_of.Goals as goal

pub label_from-requires-clause-earlier : goal.label_from-requires-clause-earlier
label_from-requires-clause-earlier g c =
    let within : c.loop-place.place < length c.args.origins.now = omega (arith, c.requires.count, c.loop-place-test.true) in
    omega (
      arith,
      origin_at_earlier c.args.origins.now c.requires.from_earlier c.loop-place.place within,
      c.loop-place.invariant.0,
      ap length c.deref.ensures.value,
    )

pub loop-place-preserved : goal.loop-place-preserved
loop-place-preserved g c =
    let group = group_of c.args.presentation.now (g.R.Reducer.rules c.args.reducer.now) in
    let origins = c.args.origins.now in
    let labels : List (List ℕ) = c.loop-place.labels.items in
    let label : List ℕ = c.in_ok-label.label in
    let origin : ℕ × ℕ = get_or origins c.loop-place.place (0, 0) in
    let count = c.loop-place.invariant.0 in
    let P : List (List ℕ) → Type 0 = λ ls. (length ls ≡ c.loop-place.place + 1) × AreFromOrigins group origins ls in
    let Q : List (List ℕ) → Type 0 = λ ls. IsFromOrigin group ls origin.0 origin.1 label in
    subst P (sym c.in_ok-push.ensures.items) (
      length_push labels label ∙ ap (λ n. n + 1) count,
      one_more_label group origins labels label origin c.requires.from_earlier (omega (arith, c.requires.count, c.loop-place-test.true, count))
          (ap (λ p. get_or origins p (0, 0)) count) c.loop-place.invariant.1 (subst Q c.deref.ensures.value c.in_ok-label.ensures),
    )
