-- The letter that a number stands for beside a word over the generators.
use Rattle.std.proofs.Common.{◌≡◌, ◌≢◌, ℕ, ◌+◌, List, [], ◌∷◌, refl, arith}
use Rattle.std.proofs.lemmas.Bool.{eq-eqb, ne_eqb}
use Rattle.kb_word.specs.Relations.{IsOver}
use Rattle.kb_fsa.specs.Padding.{letters_of}
use Rattle.kb_structure.proofs.Letters.{over_first}

letter_kept : (n number : ℕ) → number ≢ n + 1 → letters_of n number ≡ number ∷ []
letter_kept n number differ = rw (ne_eqb number (n + 1) differ) refl

-- the first letter of a word over the generators stands for itself
pub letter_alone : (n x : ℕ) (w : List ℕ) → IsOver n (x ∷ w) → letters_of n x ≡ x ∷ []
letter_alone n x w over =
    let letter = over_first n x w over in letter_kept n x (λ same. absurd (omega (arith, same, letter.1)))

-- the padding stands for nothing
pub padding_empty : (n : ℕ) → letters_of n (n + 1) ≡ []
padding_empty n = rw (eq-eqb (n + 1) (n + 1) refl) refl
