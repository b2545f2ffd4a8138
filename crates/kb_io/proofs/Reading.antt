-- What a read moves.
use Rattle.std.proofs.Common.{◌≡◌, ℕ, List, ◌++◌, ◌+◌, ◌-◌, length, take, drop, ap, sym, ◌∙◌, arith, length-drop}
use Rattle.std.proofs.Math.Seq.{take-append_seam}
use Rattle.std.proofs.lemmas.List.{take-append-drop, drop-drop, take_all}

-- what is left is the bytes that were copied to the front of the buffer, and what is left then
pub front-moved : (bytes copied others : List ℕ) (taken count : ℕ)
    → copied ≡ take count (take (length bytes - taken) (drop taken bytes))
    → length copied ≡ count
    → drop taken bytes ≡ take count (copied ++ others) ++ drop (taken + count) bytes
front-moved bytes copied others taken count e n =
    let left : take (length bytes - taken) (drop taken bytes) ≡ drop taken bytes = take_all (length bytes - taken) (drop taken bytes) (omega (arith, length-drop taken bytes)) in
    let front : take count (copied ++ others) ≡ take count (drop taken bytes) =
    ap (λ size. take size (copied ++ others)) (sym n) ∙ take-append_seam copied others ∙ e ∙ ap (λ xs. take count xs) left in
    sym (ap (λ xs. xs ++ drop (taken + count) bytes) front
    ∙ ap (λ xs. take count (drop taken bytes) ++ xs) (sym (drop-drop count taken bytes))
    ∙ take-append-drop count (drop taken bytes))
