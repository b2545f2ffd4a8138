-- Words cancel in a group.
use Rattle.std.proofs.Common.{◌≡◌, ℕ, ◌<◌, ◌≤◌, List, [], ◌∷◌, ◌++◌, Option, Some, None, refl, sym, subst, append_assoc}
use Rattle.std.specs.Option.{option_map, option_and_then}
use Rattle.std.proofs.lemmas.List.{append-nil}
use Rattle.kb_word.specs.Words.{OneOf}
use Rattle.kb_word.specs.Congruence.{Congruent}
use Rattle.kb_word.specs.Relations.{IsOver, inverse_letter, inverse_word}
use Rattle.kb_word.proofs.PathLemmas.{congruent_reflexive, congruent_symmetric, congruent_transitive}
use Rattle.kb_structure.specs.Labels.{Labelling, IsGroup, relations, generators_of}
use Rattle.kb_structure.proofs.Letters.{over_first, over_later}
use Rattle.kb_structure.proofs.Words.{congruent_behind, congruent_before}
use Rattle.kb_structure.proofs.InverseRelations.{letter_cancels}

-- the words are the same element of the group
abbrev pub AreSame : Labelling → List ℕ → List ℕ → Type 0
AreSame labelling = Congruent (OneOf (relations labelling))

-- the last of the inverse letters, and those before it
record Split (o : Option ℕ) (r : Option (List ℕ)) (v : List ℕ) : Type 0 where
  letter : ℕ
  rest : List ℕ
  is_letter : o ≡ Some letter
  is_rest : r ≡ Some rest
  whole : rest ++ letter ∷ [] ≡ v

inverse_split : (o : Option ℕ) (r : Option (List ℕ)) (v : List ℕ)
    → option_and_then (λ y. option_map (λ w. w ++ y ∷ []) r) o ≡ Some v → Split o r v
inverse_split None r v is = absurd (cc is)
inverse_split (Some y) None v is = absurd (cc is)
inverse_split (Some y) (Some w) v is = record { letter = y; rest = w; is_letter = refl; is_rest = refl; whole = cc is }

-- a letter behind a word cancels with its inverse
ends_cancel : (labelling : Labelling) (z : List ℕ) (a b : ℕ) → inverse_letter labelling.inverses a ≡ Some b
    → AreSame labelling ((z ++ a ∷ []) ++ b ∷ []) z
ends_cancel labelling z a b is =
    let P : List ℕ → Type 0 = λ w. AreSame labelling w z in
    let Q : List ℕ → Type 0 = AreSame labelling (z ++ a ∷ b ∷ []) in
    subst P (sym (append_assoc z (a ∷ []) (b ∷ [])))
    (subst Q (append-nil z) (congruent_behind z (letter_cancels labelling.inverses labelling.equations a b is)))

module _ (labelling : Labelling) (group : IsGroup labelling) where
  letter_cancels_left : (a : ℕ) (z other : List ℕ) → (0 < a) × (a ≤ generators_of labelling)
      → AreSame labelling (a ∷ z) (a ∷ other) → AreSame labelling z other
  letter_cancels_left a z other letter equal =
      let inverse = group.each a letter.0 letter.1 in
      let back = letter_cancels labelling.inverses labelling.equations inverse.0 a (group.mutual_inverses a inverse.0 inverse.1) in
      let left : AreSame labelling (inverse.0 ∷ a ∷ z) z = congruent_before z back in
      let right : AreSame labelling (inverse.0 ∷ a ∷ other) other = congruent_before other back in
      let both : AreSame labelling (inverse.0 ∷ a ∷ z) (inverse.0 ∷ a ∷ other) = congruent_behind (inverse.0 ∷ []) equal in
      congruent_transitive (congruent_symmetric left) (congruent_transitive both right)

  letter_cancels_right : (a : ℕ) (z other : List ℕ) → (0 < a) × (a ≤ generators_of labelling)
      → AreSame labelling (z ++ a ∷ []) (other ++ a ∷ []) → AreSame labelling z other
  letter_cancels_right a z other letter equal =
      let inverse = group.each a letter.0 letter.1 in
      congruent_transitive (congruent_symmetric (ends_cancel labelling z a inverse.0 inverse.1))
      (congruent_transitive (congruent_before (inverse.0 ∷ []) equal) (ends_cancel labelling other a inverse.0 inverse.1))

  -- words that are the same behind a word are the same
  pub cancel_left : (u z other : List ℕ) → IsOver (generators_of labelling) u → AreSame labelling (u ++ z) (u ++ other)
      → AreSame labelling z other
  cancel_left [] z other over equal = equal
  cancel_left (a ∷ u) z other over equal =
      let n = generators_of labelling in
      cancel_left u z other (over_later n a u over)
      (letter_cancels_left a (u ++ z) (u ++ other) (over_first n a u over) equal)

  -- so are words that are the same before a word
  pub cancel_right : (w z other : List ℕ) → IsOver (generators_of labelling) w → AreSame labelling (z ++ w) (other ++ w)
      → AreSame labelling z other
  cancel_right [] z other over equal =
      let P : List ℕ → Type 0 = λ w. AreSame labelling w (other ++ []) in
      let Q : List ℕ → Type 0 = AreSame labelling z in
      subst Q (append-nil other) (subst P (append-nil z) equal)
  cancel_right (a ∷ w) z other over equal =
      let n = generators_of labelling in
      let P : List ℕ → Type 0 = λ y. AreSame labelling y (other ++ a ∷ w) in
      let Q : List ℕ → Type 0 = AreSame labelling ((z ++ a ∷ []) ++ w) in
      let longer : AreSame labelling ((z ++ a ∷ []) ++ w) ((other ++ a ∷ []) ++ w) =
      subst Q (sym (append_assoc other (a ∷ []) w)) (subst P (sym (append_assoc z (a ∷ []) w)) equal) in
      letter_cancels_right a z other (over_first n a w over)
      (cancel_right w (z ++ a ∷ []) (other ++ a ∷ []) (over_later n a w over) longer)

  -- a word cancels with its inverse before it
  pub inverse_cancels : (w v : List ℕ) → inverse_word labelling.inverses w ≡ Some v → AreSame labelling (v ++ w) []
  inverse_cancels [] v is =
      let empty : [] ≡ v = cc is in
      let P : List ℕ → Type 0 = λ z. AreSame labelling (z ++ []) [] in
      subst P empty (congruent_reflexive [])
  inverse_cancels (x ∷ w) v is =
      let split = inverse_split (inverse_letter labelling.inverses x) (inverse_word labelling.inverses w) v is in
      let y : ℕ = split.letter in
      let rest : List ℕ = split.rest in
      let shorter = inverse_cancels w rest split.is_rest in
      let back = letter_cancels labelling.inverses labelling.equations y x (group.mutual_inverses x y split.is_letter) in
      let middle : AreSame labelling (y ∷ x ∷ w) w = congruent_before w back in
      let P : List ℕ → Type 0 = λ z. AreSame labelling z [] in
      let Q : List ℕ → Type 0 = λ z. AreSame labelling (z ++ x ∷ w) [] in
      subst Q split.whole
      (subst P (sym (append_assoc rest (y ∷ []) (x ∷ w))) (congruent_transitive (congruent_behind rest middle) shorter))
