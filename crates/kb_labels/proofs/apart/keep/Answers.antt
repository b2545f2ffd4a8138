use Rattle.std.proofs.Common.{◌≢◌, ◌∙◌, ℕ, List, Option, Some, refl, sym, subst, true≢false}
use Rattle.kb_labels.specs.declared.apart.Apart.{Apart}
use Rattle.kb_labels.specs.Comparing.{Keeps, same, begun, taken, passed}
use Rattle.kb_labels.proofs.apart.keep.Goals as goal
use Rattle.kb_labels.proofs.apart.keep.Goals.{in-None, in-Some}

pub returns-then-eq : goal.returns-then-eq
returns-then-eq c = same (c.eq.ensures.same.0 c.if-eq.true)

pub returns-in_ok-word : goal.returns-in_ok-word
returns-in_ok-word c =
    let order = c.args.order.now in
    let label : List ℕ = c.args.label.now in
    let word : List ℕ = c.args.word.now in
    let apart : Apart = record { place = c.args.place; word = c.in_ok-word.word } in
    let differ : word ≢ label = λ e. true≢false (sym (c.eq.ensures.same.1 e) ∙ c.if-eq.false) in
    let P : Option Apart → Type 0 = λ found. Keeps order label c.args.place word found (Some apart) in
    elim c.match-found.branch [
      | in-None w ↦ subst P (sym w.in-None.is) (begun differ refl c.in_ok-word.ensures)
      | in-Some w ↦
          subst P (sym w.in-Some.is)
          (taken differ (w.comes_before-is_first.ensures.0 (sym w.is_first-is ∙ c.if-is_first.true)) refl c.in_ok-word.ensures)
    ]

pub returns-else-is_first : goal.returns-else-is_first
returns-else-is_first c =
    let order = c.args.order.now in
    let label : List ℕ = c.args.label.now in
    let word : List ℕ = c.args.word.now in
    elim c.match-found.branch [
      | in-None w ↦ absurd (true≢false (sym w.is_first-is ∙ c.if-is_first.false))
      | in-Some w ↦
          let P : Option Apart → Type 0 = λ found. Keeps order label c.args.place word found (Some w.in-Some.apart) in
          let Q : Option Apart → Type 0 = λ found. Keeps order label c.args.place word c.args.found.now found in
          subst Q (sym w.found-is)
          (subst P (sym w.in-Some.is)
          (passed (λ comes. true≢false (sym (w.comes_before-is_first.ensures.1 comes) ∙ (sym w.is_first-is ∙ c.if-is_first.false)))))
    ]
