-- Whether a left side ends a word, and the first rule whose left side does.
use Rattle.std.proofs.Common.{◌≡◌, ◌≢◌, ℕ, zero, suc, ◌-◌, ◌<◌, ◌⊎◌, List, [], ◌∷◌, ◌++◌, length, take, drop, slice_get, Some, refl, sym, ap, ◌∙◌, subst, inl, inr, arith, append_assoc}
use Rattle.std.proofs.lemmas.List.{append-nil, take-append-drop, same_from_push}
use Rattle.std.proofs.lemmas.List.Prefix.{end_rest}
use Rattle.std.proofs.lemmas.Option.{same_Some, none-some}
use Rattle.kb_word.specs.Words.{Pair, OneOf, EndsWith}
use Rattle.kb_word.specs.Rewriting.{IsIrreducible, FirstRewrite}
use Rattle.kb_rules.specs.Ending.{IsFirstEnding, NoneEnds}
use Rattle.kb_rules.specs.Steps.{IsFirstStep}
use Rattle.kb_rules.proofs.Lists.{cases_list, FromEnd, from_end}
use Rattle.kb_rules.proofs.Lists.FromEnd.{empty, last}

-- v ends w, or it doesn't
pub cases_ends : (w v : List ℕ) → EndsWith w v ⊎ (¬ EndsWith w v)
cases_ends w v =
    let at = length w - length v in
    elim (cases_list (drop at w) v) [
      | inl same ↦ inl (take at w, sym (take-append-drop at w) ∙ ap (λ rest. take at w ++ rest) same)
      | inr apart ↦ inr (λ ends. apart (end_rest w v ends.0 ends.1))
    ]

none_here : (rule : Pair) (rules : List Pair) (w : List ℕ) → (¬ EndsWith w rule.0) → NoneEnds rules w
    → (pair : Pair) (index : ℕ) → slice_get (rule ∷ rules) index ≡ Some pair → ¬ EndsWith w pair.0
none_here rule rules w apart none pair zero is ends =
    let P : Pair → Type 0 = λ r. EndsWith w r.0 in apart (subst P (sym (same_Some rule pair is)) ends)
none_here rule rules w apart none pair (suc index) is ends = none pair (index, is) ends

first_later : (rule : Pair) (rules : List Pair) (w : List ℕ) → (¬ EndsWith w rule.0)
    → {index : ℕ} {first_rule : Pair} → IsFirstEnding rules w index first_rule
    → (earlier : ℕ) (other : Pair) → earlier < suc index → slice_get (rule ∷ rules) earlier ≡ Some other
    → ¬ EndsWith w other.0
first_later rule rules w apart f zero other below is ends =
    let P : Pair → Type 0 = λ r. EndsWith w r.0 in apart (subst P (sym (same_Some rule other is)) ends)
first_later rule rules w apart f (suc earlier) other below is ends = f.first earlier other (omega arith) is ends

later : (rule : Pair) (rules : List Pair) (w : List ℕ) → (¬ EndsWith w rule.0) → {index : ℕ} {other : Pair}
    → IsFirstEnding rules w index other → IsFirstEnding (rule ∷ rules) w (suc index) other
later rule rules w apart f =
    record { is_rule = f.is_rule; ends = f.ends; first = first_later rule rules w apart f }

here : (rule : Pair) (rules : List Pair) (w : List ℕ) → EndsWith w rule.0 → IsFirstEnding (rule ∷ rules) w 0 rule
here rule rules w ends =
    record { is_rule = refl; ends = ends; first = λ earlier other below is _. absurd (omega arith) }

-- some rule is the first whose left side ends the word
abbrev pub SomeEnds : List Pair → List ℕ → Type 0
SomeEnds rules w = (index : ℕ) × (rule : Pair) × IsFirstEnding rules w index rule

-- some rule's left side ends the word, the first such one being known, or none does
pub cases_ending : (rules : List Pair) (w : List ℕ) → SomeEnds rules w ⊎ NoneEnds rules w
cases_ending [] w = inr (λ pair one ends. absurd (none-some pair one.1))
cases_ending (rule ∷ rules) w =
    elim (cases_ends w rule.0) [
      | inl ends ↦ inl (0, rule, here rule rules w ends)
      | inr apart ↦
          elim (cases_ending rules w) [
            | inl f ↦ inl (suc f.0, f.1, later rule rules w apart f.2)
            | inr none ↦ inr (λ pair one. none_here rule rules w apart none pair one.0 one.1)
          ]
    ]

-- a factor that ends before the last letter is a factor of the rest
grown : (rules : List Pair) (front : List ℕ) (x : ℕ) → IsIrreducible (OneOf rules) front
    → NoneEnds rules (front ++ x ∷ [])
    → (before : List ℕ) (pair : Pair) (after : List ℕ) → OneOf rules pair → FromEnd after
    → front ++ x ∷ [] ≢ before ++ pair.0 ++ after
grown rules front x irreducible none before pair after one empty whole =
    none pair one (before, whole ∙ append-nil (before ++ pair.0))
grown rules front x irreducible none before pair after one (last rest y) whole =
    let split : front ++ x ∷ [] ≡ (before ++ pair.0 ++ rest) ++ y ∷ [] = whole ∙ sym (append_assoc (before ++ pair.0) rest (y ∷ [])) in
    irreducible before pair rest one (same_from_push front (before ++ pair.0 ++ rest) x y split).0

-- an irreducible word stays so with a letter more, where no left side ends at the letter
pub irreducible_more : (rules : List Pair) (front : List ℕ) (x : ℕ) → IsIrreducible (OneOf rules) front
    → NoneEnds rules (front ++ x ∷ [])
    → IsIrreducible (OneOf rules) (front ++ x ∷ [])
irreducible_more rules front x irreducible none before pair after one =
    grown rules front x irreducible none before pair after one (from_end after)

-- a prefix of an irreducible word is irreducible
pub irreducible_front : (rules : List Pair) (front rest : List ℕ) → IsIrreducible (OneOf rules) (front ++ rest)
    → IsIrreducible (OneOf rules) front
irreducible_front rules front rest irreducible before pair after one whole =
    irreducible before pair (after ++ rest) one (ap (λ w. w ++ rest) whole ∙ append_assoc (before ++ pair.0) after rest)

pub proper : (rules : List Pair) (front : List ℕ) (x : ℕ) → IsIrreducible (OneOf rules) front
    → (prefix rest : List ℕ) → front ++ x ∷ [] ≡ prefix ++ rest → FromEnd rest → rest ≢ []
    → IsIrreducible (OneOf rules) prefix
proper rules front x irreducible prefix rest whole empty some = absurd (some refl)
proper rules front x irreducible prefix rest whole (last part y) some =
    let split : front ++ x ∷ [] ≡ (prefix ++ part) ++ y ∷ [] = whole ∙ sym (append_assoc prefix part (y ∷ [])) in
    let e : front ≡ prefix ++ part = (same_from_push front (prefix ++ part) x y split).0 in
    let P : List ℕ → Type 0 = λ w. IsIrreducible (OneOf rules) w in
    irreducible_front rules prefix part (subst P e irreducible)

-- The first rewrite: an irreducible front with a letter more that ends with a left side.
pub first_rewrite_at : (rules : List Pair) (front : List ℕ) (x : ℕ) (rest : List ℕ) (index : ℕ) (rule : Pair)
    → IsIrreducible (OneOf rules) front
    → (f : IsFirstEnding rules (front ++ x ∷ []) index rule)
    → FirstRewrite rules (front ++ x ∷ rest) (f.ends.0 ++ rule.1 ++ rest)
first_rewrite_at rules front x rest index rule irreducible f =
    let whole : front ++ x ∷ [] ≡ f.ends.0 ++ rule.0 = f.ends.1 in
    let P : List ℕ → Type 0 =
    λ w. (earlier : ℕ) (other : Pair) → earlier < index → slice_get rules earlier ≡ Some other → ¬ EndsWith w other.0 in
    record {
      before = f.ends.0;
      index = index;
      rule = rule;
      after = rest;
      is_rule = f.is_rule;
      from = sym (append_assoc front (x ∷ []) rest) ∙ ap (λ w. w ++ rest) whole;
      to = refl;
      shortest = λ prefix part split some. proper rules front x irreducible prefix part (whole ∙ split) (from_end part) some;
      first = subst P whole f.first;
    }

-- that rewrite is a step, at the place where the front without the left side ends
pub first_step_at : (rules : List Pair) (front : List ℕ) (x : ℕ) (rest : List ℕ) (index : ℕ) (rule : Pair) (place : ℕ)
    → IsIrreducible (OneOf rules) front
    → (f : IsFirstEnding rules (front ++ x ∷ []) index rule) → length f.ends.0 ≡ place
    → IsFirstStep rules (front ++ x ∷ rest) (record { place = place; rule = index }) (f.ends.0 ++ rule.1 ++ rest)
unfolding first_rewrite_at
first_step_at rules front x rest index rule place irreducible f at =
    record { rewrite = first_rewrite_at rules front x rest index rule irreducible f; by = refl; at = at }
