-- Whether a left side stands strictly inside a word: whether the word without its first and last letter is reducible.
use Rattle.std.proofs.Common.{◌≡◌, ◌≢◌, ℕ, ◌<◌, ◌⊎◌, List, [], ◌∷◌, ◌++◌, length, refl, sym, ◌∙◌, ap, inl, inr, arith, append_assoc, length-append}
use Rattle.std.proofs.lemmas.List.{same_from_push}
use Rattle.kb_word.specs.Words.{Pair, OneOf}
use Rattle.kb_word.specs.Order.{IsReductionOrder}
use Rattle.kb_word.specs.Rewriting.{AreDecreasing, IsIrreducible, FirstRewrite}
use Rattle.kb_rules.proofs.Exists.{cases_reducible}
use Rattle.kb_rules.proofs.Exists.Reading.{rewritten, read}
use Rattle.kb_rules.proofs.Lists.{FromEnd, from_end}
use Rattle.kb_rules.proofs.Lists.FromEnd.{empty, last}
use Rattle.kb_overlap.specs.Composite.{StandsInside}
use Rattle.kb_overlap.proofs.Occurrences.{same-tail}

-- some rule's left side stands strictly inside w
pub record HasInside (rules : List Pair) (w : List ℕ) : Type 0 where
  pub inner : Pair
  pub is_rule : OneOf rules inner
  pub inside : StandsInside w inner.0

long_around : (before v after : List ℕ) → before ≢ [] → after ≢ [] → 1 < length (before ++ v ++ after)
long_around [] v after some other = absurd (some refl)
long_around (x ∷ before) v [] some other = absurd (other refl)
long_around (x ∷ before) v (y ∷ after) some other =
    omega (arith, length-append ((x ∷ before) ++ v) (y ∷ after), length-append (x ∷ before) v)

-- nothing stands strictly inside a word of one letter or none
none_inside_short : (rules : List Pair) (w : List ℕ) → length w < 2 → ¬ HasInside rules w
none_inside_short rules w short has =
    let i = has.inside in
    let long = long_around i.before has.inner.0 i.after i.begins_later i.ends_earlier in
    let whole = ap length i.whole in
    omega arith

inside_rewritten : (rules : List Pair) (x : ℕ) (middle : List ℕ) (y : ℕ) (v : List ℕ) → FirstRewrite rules middle v
    → HasInside rules (x ∷ (middle ++ y ∷ []))
inside_rewritten rules x middle y v f = record {
  inner = f.rule;
  is_rule = (f.index, f.is_rule);
  inside = record {
    before = x ∷ f.before;
    after = f.after ++ y ∷ [];
    whole = ap (λ w. x ∷ (w ++ y ∷ [])) f.from ∙ ap (λ w. x ∷ w) (append_assoc (f.before ++ f.rule.0) f.after (y ∷ []));
    begins_later = λ none. cc;
    ends_earlier = λ none. omega (arith, ap length none, length-append f.after (y ∷ []));
  };
}

factor_of_middle : (x : ℕ) (middle : List ℕ) (y : ℕ) (v : List ℕ) (i : StandsInside (x ∷ (middle ++ y ∷ [])) v)
    (before after : List ℕ) → i.before ≡ before → i.after ≡ after → FromEnd after
    → (front : List ℕ) × (back : List ℕ) × (middle ≡ front ++ v ++ back)
factor_of_middle x middle y v i [] after e d end = absurd (i.begins_later e)
factor_of_middle x middle y v i (z ∷ before) after e d empty = absurd (i.ends_earlier d)
factor_of_middle x middle y v i (z ∷ before) after e d (last part t) =
    let whole : x ∷ (middle ++ y ∷ []) ≡ z ∷ (before ++ v ++ (part ++ t ∷ [])) =
    i.whole ∙ ap (λ front. front ++ v ++ i.after) e ∙ ap (λ back. (z ∷ before) ++ v ++ back) d in
    let tails : middle ++ y ∷ [] ≡ (before ++ v ++ part) ++ t ∷ [] =
    same-tail whole ∙ sym (append_assoc (before ++ v) part (t ∷ [])) in
    (before, part, (same_from_push middle (before ++ v ++ part) y t tails).0)

none_inside : (rules : List Pair) (x : ℕ) (middle : List ℕ) (y : ℕ) → IsIrreducible (OneOf rules) middle
    → ¬ HasInside rules (x ∷ (middle ++ y ∷ []))
none_inside rules x middle y irreducible has =
    let i = has.inside in
    let factor = factor_of_middle x middle y has.inner.0 i i.before i.after refl refl (from_end i.after) in
    irreducible factor.0 has.inner factor.1 has.is_rule factor.2

cases_middle : {below : List ℕ → List ℕ → Type 0} → IsReductionOrder below → (rules : List Pair) → AreDecreasing below rules
    → (x : ℕ) (rest : List ℕ) → FromEnd rest → HasInside rules (x ∷ rest) ⊎ (¬ HasInside rules (x ∷ rest))
cases_middle order rules falling x rest empty = inr (none_inside_short rules (x ∷ []) (omega arith))
cases_middle order rules falling x rest (last middle y) =
    elim (cases_reducible order rules falling middle) [
      | rewritten v f ↦ inl (inside_rewritten rules x middle y v f)
      | read irreducible ↦ inr (none_inside rules x middle y irreducible)
    ]

-- some left side stands strictly inside the word, or none does
pub cases_inside : {below : List ℕ → List ℕ → Type 0} → IsReductionOrder below → (rules : List Pair) → AreDecreasing below rules
    → (w : List ℕ) → HasInside rules w ⊎ (¬ HasInside rules w)
cases_inside order rules falling [] = inr (none_inside_short rules [] (omega arith))
cases_inside order rules falling (x ∷ rest) = cases_middle order rules falling x rest (from_end rest)
