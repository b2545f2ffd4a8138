-- Lists side by side in one array: where they begin and end, and one more of them.
use Rattle.std.proofs.Common.{◌≡◌, ℕ, zero, suc, ◌+◌, ◌-◌, ◌<◌, ◌≤◌, List, [], ◌∷◌, ◌++◌, length, take, drop, refl, sym, ap, ◌∙◌, rules, subst, slice_get, Some}
use Rattle.std.specs.List.{slice_range, slice_index_or}
use Rattle.std.proofs.lemmas.List.{drop-append-le, take-append-le, length-drop, append-nil}
use Rattle.std.proofs.Math.Seq.{drop-append_seam, take-append_seam}
use native.Mathlib.Omega.{arith}
use Rattle.kb_ragged.specs.Cuts.{cut, AreEnds, begins_at}

pub length-cut : {A : Type 0} (start : ℕ) (ends : List ℕ) (items : List A) → length (cut start ends items) ≡ length ends
length-cut start [] items = refl
length-cut start (end ∷ ends) items = ap suc (length-cut end ends items)

-- the piece at a place
pub cut-at : {A : Type 0} (start : ℕ) (ends : List ℕ) (items : List A) (k end : ℕ) → slice_get ends k ≡ Some end → slice_get (cut start ends items) k ≡ Some (slice_range items (begins_at start ends k) end)
cut-at start [] items k end e = search (e, rules)
cut-at start (first ∷ ends) items zero end e = ap (λ z. Some (slice_range items start z)) (some-is first end e)
  where
    some-is : (a b : ℕ) → Some a ≡ Some b → a ≡ b
    some-is a b e = search (e, rules)
cut-at start (first ∷ ends) items (suc k) end e = cut-at first ends items k end e

-- a piece begins where the one before it ends
pub begins_at-before : (start : ℕ) (ends : List ℕ) (k : ℕ) → k < length ends → slice_index_or ends k 0 ≡ begins_at start ends (suc k)
begins_at-before start [] k l = search (l, rules)
begins_at-before start (end ∷ ends) zero l = refl
begins_at-before start (end ∷ ends) (suc k) l = begins_at-before end ends k (omega (arith, l))

-- no piece ends before it begins
pub end-after : (start : ℕ) (ends : List ℕ) (size k end : ℕ) → AreEnds start ends size → slice_get ends k ≡ Some end → begins_at start ends k ≤ end
end-after start [] size k end ends_at e = search (e, rules)
end-after start (first ∷ ends) size zero end ends_at e = subst (λ z. start ≤ z) (some-is first end e) ends_at.0
  where
    some-is : (a b : ℕ) → Some a ≡ Some b → a ≡ b
    some-is a b e = search (e, rules)
end-after start (first ∷ ends) size (suc k) end ends_at e = end-after first ends size k end ends_at.1 e

start-within : (start : ℕ) (ends : List ℕ) (size : ℕ) → AreEnds start ends size → start ≤ size
start-within start [] size e = omega (arith, e)
start-within start (first ∷ ends) size e = let later = start-within first ends size e.1 in let now = e.0 in omega (arith, later, now)

-- and none ends behind the items
pub end-within : (start : ℕ) (ends : List ℕ) (size k end : ℕ) → AreEnds start ends size → slice_get ends k ≡ Some end → end ≤ size
end-within start [] size k end ends_at e = search (e, rules)
end-within start (first ∷ ends) size zero end ends_at e = subst (λ z. z ≤ size) (some-is first end e) (start-within first ends size ends_at.1)
  where
    some-is : (a b : ℕ) → Some a ≡ Some b → a ≡ b
    some-is a b e = search (e, rules)
end-within start (first ∷ ends) size (suc k) end ends_at e = end-within first ends size k end ends_at.1 e

-- one more end
pub ends-push : (start : ℕ) (ends : List ℕ) (size more : ℕ) → AreEnds start ends size → AreEnds start (ends ++ (size + more) ∷ []) (size + more)
ends-push start [] size more e = (omega (arith, e), refl)
ends-push start (first ∷ ends) size more e = (e.0, ends-push first ends size more e.1)

range-more : {A : Type 0} (items more : List A) (start end : ℕ) → start ≤ end → end ≤ length items → slice_range (items ++ more) start end ≡ slice_range items start end
range-more items more start end s e =
    ap (take (end - start)) (drop-append-le start items more (omega (arith, s, e)))
    ∙ take-append-le (end - start) (drop start items) more (let l = length-drop start items in omega (arith, s, e, l))

-- pieces stay what they are where items are appended
pub cut-more : {A : Type 0} (start : ℕ) (ends : List ℕ) (items more : List A) → AreEnds start ends (length items) → cut start ends (items ++ more) ≡ cut start ends items
cut-more start [] items more e = refl
cut-more start (end ∷ ends) items more e =
    ap (λ p. p ∷ cut end ends (items ++ more)) (range-more items more start end e.0 (start-within end ends (length items) e.1))
    ∙ ap (λ ps. slice_range items start end ∷ ps) (cut-more end ends items more e.1)

last-range : {A : Type 0} (items more : List A) → slice_range (items ++ more) (length items) (length items + length more) ≡ more
last-range items more =
    ap (take (length items + length more - length items)) (drop-append_seam items more)
    ∙ whole more (length items + length more - length items) (omega arith)
  where
    whole : {A : Type 0} (xs : List A) (n : ℕ) → n ≡ length xs → take n xs ≡ xs
    whole xs n e = ap (λ k. take k xs) e ∙ ap (take (length xs)) (sym (append-nil xs)) ∙ take-append_seam xs []

-- one more piece
pub cut-push : {A : Type 0} (start : ℕ) (ends : List ℕ) (items more : List A) → AreEnds start ends (length items) → cut start (ends ++ (length items + length more) ∷ []) (items ++ more) ≡ cut start ends items ++ more ∷ []
cut-push start [] items more e = subst (λ z. slice_range (items ++ more) z (length items + length more) ∷ [] ≡ more ∷ []) (sym e) (ap (λ p. p ∷ []) (last-range items more))
cut-push start (end ∷ ends) items more e =
    ap (λ p. p ∷ cut end (ends ++ (length items + length more) ∷ []) (items ++ more)) (range-more items more start end e.0 (start-within end ends (length items) e.1))
    ∙ ap (λ ps. slice_range items start end ∷ ps) (cut-push end ends items more e.1)
