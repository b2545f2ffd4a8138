use Rattle.std.proofs.Common.{◌≡◌, ℕ, List, length, slice_get, Some, refl, sym, ap, ◌∙◌, subst, arith}
use Rattle.std.proofs.lemmas.Option.{slice_get_read}
use Rattle.kb_diff.specs.Kept.{KeptDifferences}
use Rattle.kb_diff.specs.Steps.{AreSteps}
use Rattle.kb_diff.specs.Tables.{AreStepsOf, StepTable, step_in}
use Rattle.kb_diff.proofs.Entries.{steps_none, steps_more}
use Rattle.kb_diff.proofs.WholeTable.{are_steps}
use Rattle.kb_diff.proofs.differences.Differences.machine.Goals as goal

pub loop-difference-init : goal.loop-difference-init
loop-difference-init g c =
    let now = c.args.self.now in
    let P : List ℕ → Type 0 = λ table. AreStepsOf now.group now.words 0 table in
    subst P (sym c.in_ok-table.ensures.items) (steps_none now.group now.words)

pub loop-difference-preserved : goal.loop-difference-preserved
loop-difference-preserved g c =
    let now = c.args.self.now in
    let index = c.loop-difference.difference-index in
    let listed = c.as_slice-difference-items.result.now in
    let words : listed ≡ now.words = c.as_slice-difference-items.ensures.keys ∙ ap (λ (kept : KeptDifferences). kept.words) c.self.view_is in
    let read = slice_get_read listed (length listed) index c.difference-item.result refl c.loop-difference-test.true c.difference-item.is in
    let at : slice_get now.words index ≡ Some c.difference-item.result = ap (λ (l : List (List ℕ)). slice_get l index) (sym words) ∙ read in
    steps_more now.group now.words index c.difference-item.result c.loop-difference.table.items c.add_rows.new.table.items c.loop-difference.invariant at
    c.in_ok-add_rows.ensures

pub returns : goal.returns
returns g c =
    let now = c.args.self.now in
    let index = c.loop-difference.difference-index in
    let items = c.loop-difference.table.items in
    let listed = c.as_slice-difference-items.result.now in
    let words : listed ≡ now.words = c.as_slice-difference-items.ensures.keys ∙ ap (λ (kept : KeptDifferences). kept.words) c.self.view_is in
    let same : c.self.inside.presentation.n ≡ now.group.n = ap (λ (kept : KeptDifferences). kept.group.n) c.self.view_is in
    let count : index ≡ length now.words =
    omega (arith, c.loop-difference.auto.difference-index-end, c.loop-difference-test.false, ap length words) in
    let P : ℕ → Type 0 = λ k. AreStepsOf now.group now.words k items in
    let S : StepTable → Type 0 = λ table. AreSteps now.group now.words (step_in table) in
    let table_of : ℕ → StepTable = λ k. record { n = k; entries = items } in
    let table : table_of now.group.n ≡ c.new-4.result = ap table_of (sym same) ∙ sym c.new-4.ensures in
    subst S table (are_steps now.group now.words items (subst P count c.loop-difference.invariant))
