use Rattle.std.proofs.Common.{◌≡◌, ℕ, ◌+◌, ◌-◌, ◌<◌, ◌≤◌, List, [], ◌∷◌, ◌++◌, length, take, drop, bit_or, inl, inr, sym, ◌∙◌, ap, subst, arith, length-append}
use Rattle.std.proofs.lemmas.List.{drop-drop, length-drop}
use Rattle.std.proofs.lemmas.Bool.{cases_lt}
use Rattle.std.specs.Slice.Iter.{windows_rest, windows_size}
use Rattle.kb_share.specs.Signatures.{mark, window_mark, AreBitsOf}
use Rattle.kb_share.proofs.Marks.{no_marks, marks_more}
use Rattle.kb_share.proofs.signature.window_marks.Goals as goal

-- a window more
window_more : (size index bits bit : ℕ) (letters rest window : List ℕ) → rest ≡ drop index letters → window ≡ take size rest
    → bit ≡ mark window → AreBitsOf (window_mark size letters) index bits
    → AreBitsOf (window_mark size letters) (index + 1) (bit_or bits bit)
window_more size index bits bit letters rest window left first is are =
    let own : window_mark size letters index ≡ bit = ap mark (sym (first ∙ ap (take size) left)) ∙ sym is in
    let P : ℕ → Type 0 = λ b. AreBitsOf (window_mark size letters) (index + 1) (bit_or bits b) in
    subst P own (marks_more (window_mark size letters) index bits are)

window_within : (size index : ℕ) (letters rest : List ℕ) → 0 < size → rest ≡ drop index letters → size ≤ length rest
    → index + 1 + size ≤ length letters + 1
window_within size index letters rest some left fits =
    let many : length rest ≡ length letters - index = ap length left ∙ length-drop index letters in
    omega (arith, some, fits, many)

-- all windows
window_all : (size index bits : ℕ) (letters rest : List ℕ) → 0 < size → rest ≡ drop index letters → length rest < size
    → (0 < index → index + size ≤ length letters + 1) → AreBitsOf (window_mark size letters) index bits
    → AreBitsOf (window_mark size letters) (length letters + 1 - size) bits
window_all size index bits letters rest some left few within are =
    let many : length rest ≡ length letters - index = ap length left ∙ length-drop index letters in
    let last : index ≡ length letters + 1 - size = elim (cases_lt 0 index) [
      | inl later ↦ let fits = within later in omega (arith, some, few, many, fits)
      | inr start ↦ omega (arith, some, few, many, start)
    ] in
    subst (λ (n : ℕ). AreBitsOf (window_mark size letters) n bits) last are

pub loop-window-init : goal.loop-window-init
loop-window-init c =
    let windows = c.windows-window-items.result in
    let same : c.into_iter-window-iterator.result ≡ windows = c.into_iter-window-iterator.ensures.into_iter_gives in
    record {
      marks = no_marks (window_mark c.args.size c.args.letters.now);
      size = ap windows_size same ∙ c.windows-window-items.ensures.size;
      rest = ap windows_rest same ∙ c.windows-window-items.ensures.rest;
      within = λ some. absurd (let no : ⊥ = omega (arith, some) in no);
    }

pub loop-window-preserved : goal.loop-window-preserved
loop-window-preserved c =
    let size = c.args.size in
    let letters = c.args.letters.now in
    let iterator = c.loop-window.window-iterator in
    let is = c.loop-window.invariant in
    let steps = c.in-Some.ensures.steps in
    let index : ℕ = length c.loop-window.yielded in
    let next : index + 1 ≡ length (c.loop-window.yielded ++ c.in-Some.window ∷ []) =
    sym (length-append c.loop-window.yielded (c.in-Some.window ∷ [])) in
    let first : c.in-Some.window.now ≡ take size iterator.rest.now =
    steps.1.1 ∙ ap (λ (n : ℕ). take n iterator.rest.now) is.size in
    let fits : size ≤ length iterator.rest.now = subst (λ (n : ℕ). n ≤ length iterator.rest.now) is.size steps.1.0 in
    let Rest : ℕ → Type 0 = λ n. c.next.new.self.rest.now ≡ drop n letters in
    let Within : ℕ → Type 0 = λ n. 0 < n → n + size ≤ length letters + 1 in
    let Marks : ℕ → Type 0 = λ n. AreBitsOf (window_mark size letters) n (bit_or c.loop-window.bits c.bit_of-bits.result) in
    record {
      marks = subst Marks next (window_more size index c.loop-window.bits c.bit_of-bits.result letters iterator.rest.now
          c.in-Some.window.now is.rest first c.bit_of-bits.ensures is.marks);
      size = steps.0 ∙ is.size;
      rest = subst Rest next (steps.1.2 ∙ ap (drop 1) is.rest ∙ drop-drop 1 index letters);
      within = subst Within next (λ some. window_within size index letters iterator.rest.now c.requires is.rest fits);
    }

pub returns : goal.returns
returns c =
    let is = c.loop-window.invariant in
    let rest = c.loop-window.window-iterator.rest.now in
    window_all c.args.size (length c.loop-window.yielded) c.loop-window.bits c.args.letters.now rest c.requires is.rest
    (subst (λ (n : ℕ). length rest < n) is.size c.in-None.ensures.steps.1.0) is.within is.marks
