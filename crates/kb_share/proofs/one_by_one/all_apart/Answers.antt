use Rattle.std.proofs.Common.{◌≡◌, ◌<◌, ◌+◌, ◌++◌, List, ℕ, length, get_or, refl, sym, ap, ◌∙◌, subst, arith}
use Rattle.std.proofs.lemmas.Option.{slice_get_read}
use Rattle.kb_word.specs.Words.{Pair}
use Rattle.kb_overlap.specs.Overlapping.{AreOverlaps}
use Rattle.kb_overlap.specs.declared.left_sides.Overlap.{Overlap}
use Rattle.kb_share.specs.Rows.{IsApartAt, found_at, Picks}
use Rattle.kb_share.specs.declared.found.Found.{Found}
use Rattle.kb_share.proofs.RowByRow.{AreInRows, no_rows, row_more}
use Rattle.kb_share.proofs.Progress.{all_found}
use Rattle.kb_share.proofs.one_by_one.all_apart.Goals as goal

pub loop-index-init : goal.loop-index-init
loop-index-init g c =
    let version = c.args.version.now in
    subst (AreInRows version.rules version.numbers 0) (sym c.new-found.ensures.items) (no_rows version.rules version.numbers)

pub loop-index-preserved : goal.loop-index-preserved
loop-index-preserved g c =
    let version = c.args.version.now in
    let index = c.loop-index.index in
    let first = c.index-rules-index.result in
    let overlaps = c.overlaps.new.found.items in
    let row = c.apart_in_row.new.found.items in
    let before = c.loop-index.found.items in
    let is_rules : c.as_slice-rules.result.now ≡ version.rules = c.as_slice-rules.ensures.rules ∙ c.rules.ensures in
    let count = ap length is_rules in
    let within : index < length version.rules = omega arith in
    let is_first = slice_get_read version.rules (length version.rules) index first refl within
    (c.index-rules-index.is ∙ ap (λ (r : List Pair). get_or r index first) is_rules) in
    let are : AreOverlaps version.rules first.0 overlaps =
    subst (λ (r : List Pair). AreOverlaps r first.0 overlaps) (c.in_ok-left_sides.ensures ∙ is_rules)
    (subst (λ (l : List ℕ). AreOverlaps c.in_ok-left_sides.left_sides l overlaps) c.left.ensures c.in_ok-overlaps.ensures) in
    let picks : Picks (IsApartAt version.rules index) (found_at version.numbers index) overlaps row =
    subst (λ (o : List Overlap). Picks (IsApartAt version.rules index) (found_at version.numbers index) o row)
    c.deref.ensures.value c.in_ok-apart_in_row.ensures in
    let more = row_more version.rules version.numbers c.numbers-numbers.ensures.one_each c.requires index
    first overlaps before row is_first are picks c.loop-index.invariant in
    let same : c.extend_from_slice.new.self.items ≡ before ++ row =
    c.in_ok-extend_from_slice.ensures.items ∙ ap (λ (l : List Found). before ++ l) c.deref-in-loop-index.ensures.value in
    subst (AreInRows version.rules version.numbers (index + 1)) (sym same) more

pub returns : goal.returns
returns g c =
    let version = c.args.version.now in
    let is_rules : c.as_slice-rules.result.now ≡ version.rules = c.as_slice-rules.ensures.rules ∙ c.rules.ensures in
    let count = ap length is_rules in
    let all : c.loop-index.index ≡ length version.rules = omega arith in
    all_found version c.loop-index.index c.loop-index.found.items c.numbers-numbers.ensures.one_each
    c.requires all c.loop-index.invariant
