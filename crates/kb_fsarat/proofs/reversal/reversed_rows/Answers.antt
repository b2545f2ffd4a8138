use Rattle.std.proofs.Common.{◌≡◌, ◌+◌, ◌<◌, ◌≤◌, ℕ, List, [], length, get_or, drop, replicate, sym, ap, ◌∙◌, subst, arith}
use Rattle.std.specs.List.{All}
use Rattle.std.proofs.lemmas.List.{take_at, length-replicate}
use Rattle.kb_fsa.specs.Table.{Moves}
use Rattle.kb_fsarat.specs.Reversal.{HaveAdded, TurnsOne, TurnsFirst}
use Rattle.kb_fsarat.proofs.Turning.{turned_none, turned_more}
use Rattle.kb_fsarat.proofs.reversal.reversed_rows.Goals as goal

pub loop-place-init : goal.loop-place-init
loop-place-init c =
    let count = length c.args.rows.now in
    let P : List Moves → Type 0 = λ rows. HaveAdded (replicate count []) rows (TurnsFirst c.args.rows.now 0) in
    let empty = c.in_ok-turned.ensures ∙ ap (λ n. replicate {A = Moves} n []) c.len.ensures in
    subst P (sym empty) (turned_none count c.args.rows.now)

pub add_reversed-requires : goal.add_reversed-requires
add_reversed-requires c =
    let rows = c.args.rows.now in
    let one = c.loop-place.invariant.one_row_each in
    let made = length-replicate {A = Moves} (length rows) [] in
    let count : length c.as_mut_slice.result.now ≡ length rows = ap length c.as_mut_slice.ensures.value ∙ one ∙ made in
    let P : ℕ → Moves → Type 0 = λ most moves. All (λ move. (0 < move.1) × (move.1 ≤ most)) moves in
    let inside : c.loop-place.place < length rows = omega arith in
    let own = c.requires.targets c.loop-place.place [] inside in
    subst (λ (moves : Moves). P (length c.as_mut_slice.result.now) moves) (sym c.get.ensures.moves)
    (subst (λ (most : ℕ). P most (get_or rows c.loop-place.place [])) (sym count) own)

pub loop-place-preserved : goal.loop-place-preserved
loop-place-preserved c =
    let rows = c.args.rows.now in
    let added = c.in_ok-add_reversed.ensures in
    let long : length c.add_reversed.new.turned ≡ c.loop-place.turned.len =
    added.one_row_each ∙ ap length c.as_mut_slice.ensures.value ∙ sym c.loop-place.turned.ok.0 in
    let whole = take_at c.add_reversed.new.turned (drop (length c.add_reversed.new.turned) c.loop-place.turned.items) c.loop-place.turned.len long in
    let P : List Moves → Type 0 = λ after. HaveAdded (replicate (length rows) []) after (TurnsFirst rows (c.loop-place.place + 1)) in
    let Q : List Moves → Type 0 = λ before. HaveAdded before c.add_reversed.new.turned (TurnsOne (c.loop-place.place + 1) c.get.result.now) in
    subst P (sym whole)
    (turned_more (replicate (length rows) []) c.loop-place.turned.items c.add_reversed.new.turned rows c.loop-place.place c.get.result.now
    c.get.ensures.moves c.loop-place.invariant (subst Q c.as_mut_slice.ensures.value added))

pub returns : goal.returns
returns c =
    let rows = c.args.rows.now in
    let last : c.loop-place.place ≡ length rows = omega arith in
    let P : ℕ → Type 0 = λ count. HaveAdded (replicate (length rows) []) c.loop-place.turned.items (TurnsFirst rows count) in
    subst P last c.loop-place.invariant
