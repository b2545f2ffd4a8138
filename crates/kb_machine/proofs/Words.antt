-- Factors and irreducible words.
use Rattle.std.proofs.Common.{◌≡◌, ℕ, List, [], ◌++◌, length, refl, sym, ◌∙◌, ap}
use Rattle.std.proofs.lemmas.List.{append-nil}
use Rattle.kb_word.specs.Words.{Pair, IsFactor}
use Rattle.kb_word.specs.Rewriting.{IsIrreducible}
use Rattle.kb_word.proofs.PathLemmas.{append-between}

-- a word between others is a factor
pub factor_between : (w before v after : List ℕ) → w ≡ before ++ v ++ after → IsFactor w v
factor_between w before v after whole =
    (length before, record { before = before; after = after; whole = whole; at = refl })

-- each word is a factor of itself
pub factor_itself : (w : List ℕ) → IsFactor w w
factor_itself w = factor_between w [] w [] (sym (append-nil w))

-- a factor of a factor is a factor
pub factor_transitive : (w v x : List ℕ) → IsFactor w v → IsFactor v x → IsFactor w x
factor_transitive w v x one two =
    let outer = one.1 in
    let inner = two.1 in
    factor_between w (outer.before ++ inner.before) x (inner.after ++ outer.after)
    (outer.whole ∙ ap (λ middle. outer.before ++ middle ++ outer.after) inner.whole
    ∙ append-between outer.before inner.before x inner.after outer.after)

-- Where the left side of each pair has that of another as a factor, what the others don't reduce the pairs don't
-- either.
pub irreducible_by_factors : (others allowed : Pair → Type 0) (w : List ℕ)
    → ((pair : Pair) → allowed pair → (rule : Pair) × others rule × IsFactor pair.0 rule.0)
    → IsIrreducible others w → IsIrreducible allowed w
irreducible_by_factors others allowed w factors irreducible = λ before pair after is_allowed whole.
    let has = factors pair is_allowed in
    let at = has.2.1 in
    irreducible (before ++ at.before) has.0 (at.after ++ after) has.1
    (whole ∙ ap (λ middle. before ++ middle ++ after) at.whole ∙ append-between before at.before has.0.0 at.after after)
