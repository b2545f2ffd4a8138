use Rattle.std.proofs.Common.{◌≡◌, ◌++◌, ◌<◌, ◌∙◌, ℕ, List, length, get_or, Option, Some, None, ap, arith}
use Rattle.std.specs.Borrow.{Bor}
use Rattle.std.specs.Option.{option_copied, unwrap_or}
use Rattle.std.proofs.lemmas.Option.{none-some, same_Some, slice_get-get_or}
use Rattle.kb_layout.proofs.PrintedPieces.{pieces_go, pieces_end}
use Rattle.kb_layout.proofs.WrittenTexts.{name_pieces}
use Rattle.kb_layout.proofs.printing.print_names.Goals as goal

-- what is read behind a reference, or something else in its place
behind : (o : Option (Bor (List ℕ))) (d : Bor (List ℕ)) (x : List ℕ) → option_copied o ≡ Some x → (unwrap_or o d).now ≡ x
behind None d x is = absurd (none-some x is)
behind (Some r) d x is = same_Some r.now x is

pub loop-place-preserved : goal.loop-place-preserved
loop-place-preserved c =
    let names = c.args.names.now in
    let place = c.loop-place.place in
    let within : place < length names = omega (arith, c.len-place-end.ensures.count) in
    let name : c.as_bytes.result.now ≡ get_or names place c.as_bytes.result.now =
    c.as_bytes.ensures.value ∙ ap (λ r. r.now) c.unwrap_or.ensures
    ∙ behind c.get.result _ (get_or names place c.as_bytes.result.now)
    (c.get.ensures ∙ slice_get-get_or names place c.as_bytes.result.now within) in
    pieces_go _ _ _ names _ _ _ _ place c.as_bytes.result.now c.extend_from_slice.new.self.items c.extend_from_slice-in-loop-place.new.self.items c.loop-place.invariant
    within name c.in_ok-extend_from_slice.ensures.items c.in_ok-extend_from_slice-2.ensures.items

pub returns : goal.returns
returns c =
    let names = c.args.names.now in
    pieces_end _ _ _ names _ _ _ _ c.loop-place.place c.push-2.new.self.items c.loop-place.invariant (omega (arith, c.len-place-end.ensures.count))
    c.in_ok-push-2.ensures.items
    ∙ ap (λ t. c.args.out.now.items ++ t) (name_pieces names)
