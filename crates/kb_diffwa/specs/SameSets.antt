-- Sets of rivals whose members are tested as equal are the same.
use Rattle.std.specs.Prelude.{◌≡◌, ℕ, Bool, true, ◌&&◌, nat_eq, List, [], ◌∷◌}
use Rattle.std.specs.Bool.{beq}
use Rattle.std.specs.Cmp.{booleans_Decides}
use Rattle.std.specs.Cmp.Lexicographic.{pointwise}
use Rattle.std.specs.Hash.{slice}
use Rattle.std.proofs.Common.{refl, sym, ap, ◌∙◌}
use Rattle.std.proofs.lemmas.Bool.{and_parts, eqb-true, true≢false}
use Rattle.kb_diffwa.specs.declared.comparisons.Comparisons.{Comparisons}
use Rattle.kb_diffwa.specs.declared.rivals.Rivals.{Rivals}
use Rattle.kb_diffwa.specs.RivalSets.{fed_rivals, same_comparisons, same_rivals}

comparisons_of : Bool → Bool → Bool → Bool → Comparisons
comparisons_of equal less greater ended =
    record { equal = equal; less = less; greater = greater; ended = ended }

same_bool : (one other : Bool) → beq one other ≡ true → one ≡ other
same_bool one other tie = (booleans_Decides one other).0 tie

pub same_from_comparisons : (one other : Comparisons) → same_comparisons one other ≡ true
    → one ≡ other
unfolding comparisons_of
same_from_comparisons one other tie =
    let equal = and_parts (beq one.equal other.equal) (beq one.less other.less
    && (beq one.greater other.greater && beq one.ended other.ended)) tie in
    let less = and_parts (beq one.less other.less)
    (beq one.greater other.greater && beq one.ended other.ended) equal.1 in
    let rest = and_parts (beq one.greater other.greater) (beq one.ended other.ended) less.1 in
    ap (λ x. comparisons_of x one.less one.greater one.ended)
    (same_bool one.equal other.equal equal.0)
    ∙ ap (λ x. comparisons_of other.equal x one.greater one.ended)
    (same_bool one.less other.less less.0)
    ∙ ap (λ x. comparisons_of other.equal other.less x one.ended)
    (same_bool one.greater other.greater rest.0)
    ∙ ap (λ x. comparisons_of other.equal other.less other.greater x)
    (same_bool one.ended other.ended rest.1)

pub same_from_rivals : (one other : Rivals) → same_rivals one other ≡ true → one ≡ other
same_from_rivals one other tie =
    let parts = and_parts (nat_eq one.difference other.difference)
    (same_comparisons one.comparisons other.comparisons) tie in
    let differences = eqb-true one.difference other.difference parts.0 in
    let comparisons =
    same_from_comparisons one.comparisons other.comparisons parts.1 in
    ap (λ (d : ℕ). record { difference = d; comparisons = one.comparisons }) differences
    ∙ ap (λ (c : Comparisons). record { difference = other.difference; comparisons = c })
    comparisons

pub same_from_members : (one other : List Rivals) → pointwise same_rivals one other ≡ true
    → one ≡ other
same_from_members [] [] tie = refl
same_from_members [] (y ∷ ys) tie = absurd (true≢false (sym tie))
same_from_members (x ∷ xs) [] tie = absurd (true≢false (sym tie))
same_from_members (x ∷ xs) (y ∷ ys) tie =
    let parts = and_parts (same_rivals x y) (pointwise same_rivals xs ys) tie in
    ap (λ (item : Rivals). item ∷ xs) (same_from_rivals x y parts.0)
    ∙ ap (λ (rest : List Rivals). y ∷ rest) (same_from_members xs ys parts.1)

-- they are hashed alike
pub hashed_alike : (one other : List Rivals) → pointwise same_rivals one other ≡ true
    → slice fed_rivals one ≡ slice fed_rivals other
hashed_alike one other tie = ap (slice fed_rivals) (same_from_members one other tie)
