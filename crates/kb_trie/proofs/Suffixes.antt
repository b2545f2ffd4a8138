-- Suffixes of words.
use Rattle.std.proofs.Common.{◌≡◌, ℕ, ◌⊎◌, List, [], ◌∷◌, ◌++◌, length, drop, refl, sym, ap, ◌∙◌, inl, inr, arith, append_assoc, length-append, length-drop, subst, ◌≤◌}
use Rattle.std.proofs.lemmas.List.{append-nil, same_from_push, nil_from_length, length_push}
use Rattle.kb_word.specs.Words.{EndsWith}

pub ends_nil : (w : List ℕ) → EndsWith w []
ends_nil w = (w, sym (append-nil w))

pub ends_all : (w : List ℕ) → EndsWith w w
ends_all w = ([], refl)

pub ends_within : (w u v : List ℕ) → EndsWith w u → EndsWith u v → EndsWith w v
ends_within w u v outer inner =
    (outer.0 ++ inner.0, outer.1 ∙ ap (λ rest. outer.0 ++ rest) inner.1 ∙ sym (append_assoc outer.0 inner.0 v))

-- with a letter more
pub ends_push : (w u : List ℕ) (x : ℕ) → EndsWith w u → EndsWith (w ++ x ∷ []) (u ++ x ∷ [])
ends_push w u x ends =
    (ends.0, ap (λ all. all ++ x ∷ []) ends.1 ∙ append_assoc ends.0 u (x ∷ []))

-- with a letter less
pub ends_pop : (w v : List ℕ) (x y : ℕ) → EndsWith (w ++ x ∷ []) (v ++ y ∷ []) → EndsWith w v × (x ≡ y)
ends_pop w v x y ends =
    let both = same_from_push w (ends.0 ++ v) x y (ends.1 ∙ sym (append_assoc ends.0 v (y ∷ []))) in
    ((ends.0, both.0), both.1)

-- a suffix is the whole word or one of the word without its first letter
pub ends_shorter : (u v : List ℕ) → EndsWith u v → (v ≡ u) ⊎ EndsWith (drop 1 u) v
ends_shorter u v ([], whole) = inl (sym whole)
ends_shorter u v (x ∷ before, whole) = inr (before, ap (drop 1) whole)

pub drop_ends : (u : List ℕ) → EndsWith u (drop 1 u)
drop_ends [] = ([], refl)
drop_ends (x ∷ u) = (x ∷ [], refl)

none_before : (before u v : List ℕ) → u ≡ before ++ v → length u ≡ length v → before ≡ []
none_before before u v whole long =
    nil_from_length before (omega (arith, ap length whole, length-append before v))

pub same_ends : (u v : List ℕ) → EndsWith u v → EndsWith v u → u ≡ v
same_ends u v one two =
    let long : length u ≡ length v =
    omega (arith, ap length one.1, length-append one.0 v, ap length two.1, length-append two.0 u) in
    one.1 ∙ ap (λ before. before ++ v) (none_before one.0 u v one.1 long)

pub ends_of_nil : (v : List ℕ) → EndsWith [] v → v ≡ []
ends_of_nil v ends = nil_from_length v (omega (arith, ap length ends.1, length-append ends.0 v))

pub ends_length : (w v : List ℕ) → EndsWith w v → length v ≤ length w
ends_length w v ends = omega (arith, ap length ends.1, length-append ends.0 v)

-- with a letter more, where the longer word is known by an equation
pub ends_spelled : (w u v : List ℕ) (x : ℕ) → v ≡ u ++ x ∷ [] → EndsWith w u → EndsWith (w ++ x ∷ []) v
ends_spelled w u v x spelled ends =
    let P : List ℕ → Type 0 = λ v. EndsWith (w ++ x ∷ []) v in
    subst P (sym spelled) (ends_push w u x ends)

compare : (a b w u v : List ℕ) → w ≡ a ++ u → w ≡ b ++ v → EndsWith u v ⊎ EndsWith v u
compare [] b w u v one two = inl (b, sym one ∙ two)
compare (x ∷ a) [] w u v one two = inr (x ∷ a, sym two ∙ one)
compare (x ∷ a) (y ∷ b) w u v one two = compare a b (drop 1 w) u v (ap (drop 1) one) (ap (drop 1) two)

-- of two suffixes of a word one is a suffix of the other
pub ends_compare : (w u v : List ℕ) → EndsWith w u → EndsWith w v → EndsWith u v ⊎ EndsWith v u
ends_compare w u v one two = compare one.0 two.0 w u v one.1 two.1

-- no word without its first letter ends with all of it
pub ends_no_longer : (u : List ℕ) (x : ℕ) → EndsWith (drop 1 (u ++ x ∷ [])) (u ++ x ∷ []) → ⊥
ends_no_longer u x ends =
    omega (arith, ends_length (drop 1 (u ++ x ∷ [])) (u ++ x ∷ []) ends, length-drop 1 (u ++ x ∷ []), length_push u x)

-- of two suffixes of a word the one that is no longer is a suffix of the other
pub ends_of_both : (w u v : List ℕ) → EndsWith w u → EndsWith w v → length v ≤ length u → EndsWith u v
ends_of_both w u v one two short =
    elim (ends_compare w u v one two) [
      | inl inner ↦ inner
      | inr outer ↦
          let long : length v ≡ length u = omega (arith, ends_length v u outer) in
          let same : v ≡ u = outer.1 ∙ ap (λ (before : List ℕ). before ++ u) (none_before outer.0 v u outer.1 long) in
          let P : List ℕ → Type 0 = λ x. EndsWith u x in
          subst P (sym same) (ends_all u)
    ]
