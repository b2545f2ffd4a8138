use Rattle.std.proofs.Common.{◌≡◌, ℕ, ◌+◌, ◌-◌, List, length, subst, bit_or}
use Rattle.kb_share.specs.Signatures.{window_mark, AreBitsOf, IsSignature}
use Rattle.kb_share.proofs.Marks.{signature_is}
use Rattle.kb_share.proofs.signature.Signature.of.Goals as goal

of_letters : (word letters : List ℕ) (a b c d : ℕ) → letters ≡ word → AreBitsOf (window_mark 1 letters) (length letters + 1 - 1) a
    → AreBitsOf (window_mark 2 letters) (length letters + 1 - 2) b → AreBitsOf (window_mark 5 letters) (length letters + 1 - 5) c
    → AreBitsOf (window_mark 12 letters) (length letters + 1 - 12) d → IsSignature word (bit_or (bit_or (bit_or a b) c) d)
of_letters word letters a b c d same one two five twelve =
    subst (λ (w : List ℕ). IsSignature w (bit_or (bit_or (bit_or a b) c) d)) same (signature_is letters a b c d one two five twelve)

pub returns : goal.returns
returns c =
    of_letters c.args.word.now c.letters-letters.result.now c.window_marks.result c.window_marks-2.result c.window_marks-3.result
    c.window_marks-4.result c.letters-letters.ensures.letters c.window_marks.ensures c.window_marks-2.ensures c.window_marks-3.ensures
    c.window_marks-4.ensures
