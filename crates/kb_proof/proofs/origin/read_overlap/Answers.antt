use Rattle.std.proofs.Common.{rules, ◌≡◌, [], ◌∷◌, decimal}
use Rattle.kb_proof.specs.Reading.{parts}
use Rattle.kb_proof.proofs.PartLemmas.{one_part}
use Rattle.kb_proof.proofs.TextLemmas.{reads_no_overlap}
use Rattle.kb_proof.proofs.origin.read_overlap.Goals as goal

pub returns-in_err-first : goal.returns-in_err-first
returns-in_err-first c = reads_no_overlap c.args.bytes.now c.from_residual.result (search rules) (λ i j place fits is.
    let whole = c.in_err-first.ensures.none in
    absurd cc)

pub returns-in_err-second : goal.returns-in_err-second
returns-in_err-second c = reads_no_overlap c.args.bytes.now c.from_residual-in_err-second.result (search rules) (λ i j place fits is.
    let cut = (c.in_ok-first.ensures.cut).first in
    let whole = c.in_err-second.ensures.none in
    absurd cc)

pub returns-in_err-read_u32 : goal.returns-in_err-read_u32
returns-in_err-read_u32 c = reads_no_overlap c.args.bytes.now c.from_residual-in_err-read_u32.result (search rules) (λ i j place fits is.
    let cut = (c.in_ok-first.ensures.cut).first in
    let front : c.in_ok-first.first.now ≡ decimal i = cc in
    c.in_err-read_u32.ensures i fits.0 front)

pub returns-in_err-read_u32-2 : goal.returns-in_err-read_u32-2
returns-in_err-read_u32-2 c = reads_no_overlap c.args.bytes.now c.from_residual-in_err-read_u32-2.result (search rules) (λ i j place fits is.
    let cut = (c.in_ok-first.ensures.cut).first in
    let again = (c.in_ok-second.ensures.cut).first in
    let front : c.in_ok-second.second.now ≡ decimal j = cc in
    c.in_err-read_u32-2.ensures j fits.1 front)

pub returns-in_err-read_u32-3 : goal.returns-in_err-read_u32-3
returns-in_err-read_u32-3 c = reads_no_overlap c.args.bytes.now c.from_residual-in_err-read_u32-3.result (search rules) (λ i j place fits is.
    let cut = (c.in_ok-first.ensures.cut).first in
    let again = (c.in_ok-second.ensures.cut).first in
    let back : parts 44 c.in_ok-second.place.now ≡ decimal place ∷ [] = cc in
    c.in_err-read_u32-3.ensures place fits.2 (one_part 44 c.in_ok-second.place.now (decimal place) back))
