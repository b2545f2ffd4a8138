-- The inverses of letters and words.
use Rattle.std.proofs.Common.{◌≡◌, ℕ, zero, suc, ◌<◌, List, [], ◌∷◌, ◌++◌, length, reverse, get_or, Option, Some, None, IsNone, Any, ◌↔◌, refl, sym, subst, inl, inr, ◌⊎◌, arith}
use Rattle.std.specs.Option.{option_map, option_and_then}
use Rattle.kb_word.specs.Relations.{inverse_letter, inverse_word}

no_letter_in_none : (P : ℕ → Type 0) → ¬ Any P []
no_letter_in_none P found = let within = found.2 in omega arith

Any-first : (P : ℕ → Type 0) (x : ℕ) (w : List ℕ) → P x → Any P (x ∷ w)
Any-first P x w h = (0, x, omega arith, refl, h)

Any-later : (P : ℕ → Type 0) (x : ℕ) (w : List ℕ) → Any P w → Any P (x ∷ w)
Any-later P x w found = (suc found.0, found.1, omega arith, found.3, found.4)

Any-split : (P : ℕ → Type 0) (x : ℕ) (w : List ℕ) (k y : ℕ) → k < length (x ∷ w) → get_or (x ∷ w) k y ≡ y → P y → P x ⊎ Any P w
Any-split P x w zero y within at h = inl (subst P (sym at) h)
Any-split P x w (suc k) y within at h = inr (k, y, omega arith, at, h)

-- an inverse is missing: that of the first letter, or one further on
missing : (o : Option ℕ) (r : Option (List ℕ)) → IsNone (option_and_then (λ y. option_map (λ v. v ++ y ∷ []) r) o)
    → (o ≡ None) ⊎ IsNone r
missing None r h = inl refl
missing (Some y) None h = inr refl
missing (Some y) (Some v) h = cc

missing_first : (o : Option ℕ) (r : Option (List ℕ)) → o ≡ None → IsNone (option_and_then (λ y. option_map (λ v. v ++ y ∷ []) r) o)
missing_first None r h = refl
missing_first (Some y) r h = cc

missing_later : (o : Option ℕ) (r : Option (List ℕ)) → IsNone r → IsNone (option_and_then (λ y. option_map (λ v. v ++ y ∷ []) r) o)
missing_later None r h = refl
missing_later (Some y) None h = refl
missing_later (Some y) (Some v) h = cc

lacks_forward : (inverses : List (Option ℕ)) (w : List ℕ) → IsNone (inverse_word inverses w) → Any (λ x. inverse_letter inverses x ≡ None) w
lacks_forward inverses [] h = cc
lacks_forward inverses (x ∷ w) h = elim (missing (inverse_letter inverses x) (inverse_word inverses w) h) [
  | inl first ↦ Any-first (λ y. inverse_letter inverses y ≡ None) x w first
  | inr later ↦ Any-later (λ y. inverse_letter inverses y ≡ None) x w (lacks_forward inverses w later)
]

lacks_back : (inverses : List (Option ℕ)) (w : List ℕ) → Any (λ x. inverse_letter inverses x ≡ None) w → IsNone (inverse_word inverses w)
lacks_back inverses [] found = absurd (no_letter_in_none (λ x. inverse_letter inverses x ≡ None) found)
lacks_back inverses (x ∷ w) found =
    elim (Any-split (λ y. inverse_letter inverses y ≡ None) x w found.0 found.1 found.2 found.3 found.4) [
      | inl first ↦ missing_first (inverse_letter inverses x) (inverse_word inverses w) first
      | inr later ↦ missing_later (inverse_letter inverses x) (inverse_word inverses w) (lacks_back inverses w later)
    ]

-- a word has no inverse exactly where one of its letters has none
pub lacks_inverse : (inverses : List (Option ℕ)) (w : List ℕ)
    → IsNone (inverse_word inverses w) ↔ Any (λ x. inverse_letter inverses x ≡ None) w
lacks_inverse inverses w = (lacks_forward inverses w, lacks_back inverses w)

-- What the rest of a word inverts to, before the inverses so far in reverse order: what the loop of
-- `inverse_of` keeps.
abbrev pub inverted : Option (List ℕ) → List ℕ → Option (List ℕ)
inverted rest so_far = option_map (λ v. v ++ reverse so_far) rest
