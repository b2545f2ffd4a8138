use Rattle.std.proofs.Common.{◌≡◌, ◌+◌, ◌++◌, ◌∷◌, [], List, Vec, Global, get_or, take, sym, ap, ◌∙◌, subst}
use Rattle.std.proofs.lemmas.List.{get_or_default}
use Rattle.kb_overlap.specs.declared.left_sides.Overlap.{Overlap}
use Rattle.kb_share.specs.declared.found.Found.{Found}
use Rattle.kb_share.specs.Rows.{IsApartAt, found_at, Picks}
use Rattle.kb_share.proofs.Picking.{picks_none, next_left, next_picked}
use Rattle.kb_share.proofs.Sifted.{nothing_found, something_found}
use Rattle.kb_share.proofs.row.apart_in_row.Goals as goal
use Rattle.kb_share.proofs.row.apart_in_row.Goals.{in-Some+in_ok-push, in_default}

pub loop-overlap-init : goal.loop-overlap-init
loop-overlap-init g c = picks_none c.args.overlaps.now c.clear.new.self.items c.clear.ensures.items

pub loop-overlap-preserved : goal.loop-overlap-preserved
loop-overlap-preserved g c =
    let version = c.args.version.now in
    let index = c.args.index in
    let overlaps = c.args.overlaps.now in
    let next = c.loop-overlap.overlap-index in
    let none : Overlap = record { rule = 0; place = 0 } in
    let at = get_or overlaps next none in
    let is_at = get_or_default overlaps next none at c.loop-overlap-test.true in
    let before = c.loop-overlap.found.items in
    let Goes : List Found → Type 0 =
    λ found. Picks (IsApartAt version.rules index) (found_at version.numbers index) (take (next + 1) overlaps) found in
    elim c.match-branch-2.branch [
      | in-Some+in_ok-push w ↦
          let one = w.in-Some.one in
          let it = something_found version index at c.in_ok-one.field-0 one w.in-Some.is c.in_ok-one.ensures in
          let same : c.match-branch-2.found.items ≡ before ++ one ∷ [] =
          ap (λ (v : Vec Found Global). v.items) w.found-is ∙ w.in_ok-push.ensures.items in
          subst Goes (sym same) (next_picked overlaps next at before one c.loop-overlap-test.true is_at it.0 it.1 c.loop-overlap.invariant)
      | in_default w ↦
          let lacks = nothing_found version index at c.in_ok-one.field-0 (sym w.in_default.is) c.in_ok-one.ensures in
          let same : c.match-branch-2.found.items ≡ before = ap (λ (v : Vec Found Global). v.items) w.found-is in
          subst Goes (sym same) (next_left overlaps next at before c.loop-overlap-test.true is_at lacks c.loop-overlap.invariant)
    ]
