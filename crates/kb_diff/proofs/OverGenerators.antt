-- Differences are words over the generators.
use Rattle.std.proofs.Common.{◌≡◌, ℕ, zero, suc, ◌<◌, ◌≤◌, List, [], ◌∷◌, ◌++◌, length, take, slice_get, Option, Some, None, refl, sym, subst, arith}
use Rattle.std.specs.Option.{option_map, option_and_then}
use Rattle.std.proofs.lemmas.List.Elements.{All-append, All-nil, All-push, All-take}
use Rattle.std.proofs.lemmas.Option.{none-some, same_Some, slice_get_within}
use Rattle.kb_word.specs.Words.{Pair}
use Rattle.kb_word.specs.Relations.{IsOver, IsPresentation, inverse_letter, inverse_word}
use Rattle.kb_word.specs.Rewriting.{FirstRewrite, NormalForm}
use Rattle.kb_word.specs.declared.word_order.WordOrder.{WordOrder}
use Rattle.kb_word.proofs.PathLemmas.{path_keeps}
use Rattle.kb_rules.proofs.Lists.{All-front, All-rest}
use Rattle.kb_diff.specs.Groups.{AreRulesOver, Group, InvertWithin}
use Rattle.kb_diff.specs.Differences.{IsDifference}

-- ---- inverses

some_inside : (o : Option (Option ℕ)) (y : ℕ) → option_and_then (λ inverse. inverse) o ≡ Some y → (inside : Option ℕ) × (o ≡ Some inside)
some_inside None y is = absurd (none-some y is)
some_inside (Some inside) y is = (inside, refl)

letter_within : (inverses : List (Option ℕ)) (y x : ℕ) → inverse_letter inverses y ≡ Some x → (0 < y) × (y ≤ length inverses)
letter_within inverses zero x is = absurd (none-some x is)
letter_within inverses (suc place) x is =
    let inside = some_inside (slice_get inverses place) x is in
    let within = slice_get_within inverses place inside.0 inside.1 in (omega arith, omega arith)

-- the inverses of a presentation are generators
pub invert_within : (n : ℕ) (order : WordOrder) (names : List (List ℕ)) (inverses : List (Option ℕ)) (equations : List Pair)
    → IsPresentation n order names inverses equations → InvertWithin n inverses
invert_within n order names inverses equations given x y is =
    let within = letter_within inverses y x (given.mutual_inverses x y is) in
    let count = given.one_inverse_each in
    let positive = within.0 in
    let most = within.1 in (positive, omega arith)

push_over : (n : ℕ) (first : Option ℕ) (rest : Option (List ℕ)) (inverse : List ℕ) → ((y : ℕ) → first ≡ Some y → (0 < y) × (y ≤ n))
    → ((v : List ℕ) → rest ≡ Some v → IsOver n v) → option_and_then (λ y. option_map (λ v. v ++ y ∷ []) rest) first ≡ Some inverse
    → IsOver n inverse
push_over n None rest inverse letter word is = absurd (none-some inverse is)
push_over n (Some y) None inverse letter word is = absurd (none-some inverse is)
push_over n (Some y) (Some v) inverse letter word is =
    let P : List ℕ → Type 0 = λ w. IsOver n w in
    subst P (same_Some (v ++ y ∷ []) inverse is) (All-push (λ x. (0 < x) × (x ≤ n)) v y (word v refl) (letter y refl))

pub inverse_over : (n : ℕ) (inverses : List (Option ℕ)) (w inverse : List ℕ) → InvertWithin n inverses → inverse_word inverses w ≡ Some inverse
    → IsOver n inverse
inverse_over n inverses [] inverse within is =
    let P : List ℕ → Type 0 = λ w. IsOver n w in subst P (same_Some [] inverse is) (All-nil (λ x. (0 < x) × (x ≤ n)))
inverse_over n inverses (x ∷ w) inverse within is =
    push_over n (inverse_letter inverses x) (inverse_word inverses w) inverse (within x) (λ v e. inverse_over n inverses w v within e) is

-- ---- normal forms

rewrite_over : (n : ℕ) (rules : List Pair) → AreRulesOver n rules → (u v : List ℕ) → FirstRewrite rules u v → IsOver n u → IsOver n v
rewrite_over n rules over u v first over_u =
    let P : ℕ → Type 0 = λ x. (0 < x) × (x ≤ n) in
    let left = first.before ++ first.rule.0 in
    let front = All-front P left u first.after first.from over_u in
    let before = All-front P first.before left first.rule.0 refl front in
    let after = All-rest P first.after u left first.from over_u in
    let right = (over first.rule (first.index, first.is_rule)).1 in
    let Q : List ℕ → Type 0 = λ w. IsOver n w in
    subst Q (sym first.to)
    (All-append P (first.before ++ first.rule.1) first.after (All-append P first.before first.rule.1 before right) after)

pub normal_over : (n : ℕ) (rules : List Pair) (w m : List ℕ) → AreRulesOver n rules → NormalForm rules w m → IsOver n w → IsOver n m
normal_over n rules w m over normal over_w = path_keeps (λ (v : List ℕ). IsOver n v) (rewrite_over n rules over) normal.path over_w

-- the difference of words over the generators is one
pub difference_over : (group : Group) (u v : List ℕ) (place : ℕ) (d : List ℕ) → AreRulesOver group.n group.rules → InvertWithin group.n group.inverses
    → IsOver group.n v → IsDifference group u v place d → IsOver group.n d
difference_over group u v place d rules within over is =
    let P : ℕ → Type 0 = λ x. (0 < x) × (x ≤ group.n) in
    let inverse = inverse_over group.n group.inverses (take place u) is.inverse within is.inverts in
    normal_over group.n group.rules (is.inverse ++ take place v) d rules is.normal
    (All-append P is.inverse (take place v) inverse (All-take P place v over))
