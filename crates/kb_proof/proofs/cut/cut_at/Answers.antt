use Rattle.std.proofs.Common.{◌≡◌, ◌≢◌, ℕ, ◌+◌, ◌-◌, ◌<◌, [], ◌∷◌, length, take, drop, get_or, eqb-true, eq-eqb, arith}
use Rattle.std.proofs.lemmas.List.{take_rest}
use Rattle.kb_proof.specs.Reading.{parts}
use Rattle.kb_proof.proofs.PartLemmas.{if_none, no_place, cut_there}
use Rattle.kb_proof.proofs.cut.cut_at.Goals as goal

pub returns-in_err-place-clause-none : goal.returns-in_err-place-clause-none
returns-in_err-place-clause-none c =
    let bytes = c.args.bytes.now in
    let none : parts c.args.byte bytes ≡ bytes ∷ [] =
    no_place c.args.byte bytes (λ k h e. c.in_err-place.ensures k (omega arith) h (eq-eqb (get_or bytes k 0) c.args.byte e)) in
    if_none c.from_residual.result none

pub returns-clause-cut : goal.returns-clause-cut
returns-clause-cut c =
    let bytes = c.args.bytes.now in
    let n = c.in_ok-place.place in
    let found = c.in_ok-place.ensures in
    let within : n < length bytes = omega (arith, found.0.high) in
    let at : get_or bytes n 0 ≡ c.args.byte = eqb-true (get_or bytes n 0) c.args.byte found.1 in
    let before : (k : ℕ) → k < n → get_or bytes k 0 ≢ c.args.byte =
    λ k h e. found.0.before k (omega arith) h (eq-eqb (get_or bytes k 0) c.args.byte e) in
    cut_there c.args.byte bytes (take (length bytes - (n + 1)) (drop (n + 1) bytes)) n within at before (take_rest bytes (n + 1))
