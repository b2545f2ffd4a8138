-- A word of a group and its inverse cancel.
use Rattle.std.proofs.Common.{◌≡◌, ℕ, List, [], ◌∷◌, ◌++◌, Option, Some, None, refl, sym, ap, ◌∙◌, subst, append_assoc}
use Rattle.std.specs.Option.{option_map, option_and_then}
use Rattle.std.proofs.lemmas.List.{append-nil}
use Rattle.kb_word.specs.Words.{Pair}
use Rattle.kb_word.specs.Congruence.{Congruent}
use Rattle.kb_word.specs.Relations.{IsOver, inverse_letter, inverse_word}
use Rattle.kb_word.specs.Presentations.{PresentationParts}
use Rattle.kb_word.proofs.PathLemmas.{congruent_reflexive, congruent_transitive, congruent_between, congruent_sides}
use Rattle.kb_coset.specs.Subgroups.{EachInverts}
use Rattle.kb_coset.specs.Marked.{AreCongruent, ArePresentation}
use Rattle.kb_coset.proofs.Letters.{over_first, over_later}
use Rattle.kb_coset.proofs.Relations.{inverse_relation}

-- congruent words stay so behind a word, and before one
pub congruent_behind : {allowed : Pair → Type 0} (front : List ℕ) {u v : List ℕ} → Congruent allowed u v
    → Congruent allowed (front ++ u) (front ++ v)
congruent_behind {allowed = allowed} front {u = u} {v = v} equal =
    let P : List ℕ → Type 0 = λ w. Congruent allowed w (front ++ v ++ []) in
    let Q : List ℕ → Type 0 = λ w. Congruent allowed (front ++ u) w in
    subst Q (append-nil (front ++ v)) (subst P (append-nil (front ++ u)) (congruent_between front [] equal))

pub congruent_before : {allowed : Pair → Type 0} (after : List ℕ) {u v : List ℕ} → Congruent allowed u v
    → Congruent allowed (u ++ after) (v ++ after)
congruent_before after equal = congruent_between [] after equal

-- The last of the inverse letters, and those before it.
record Split (o : Option ℕ) (r : Option (List ℕ)) (v : List ℕ) : Type 0 where
  letter : ℕ
  rest : List ℕ
  is_letter : o ≡ Some letter
  is_rest : r ≡ Some rest
  whole : rest ++ letter ∷ [] ≡ v

inverse_split : (o : Option ℕ) (r : Option (List ℕ)) (v : List ℕ)
    → option_and_then (λ y. option_map (λ w. w ++ y ∷ []) r) o ≡ Some v → Split o r v
inverse_split None r v is = absurd (cc is)
inverse_split (Some y) None v is = absurd (cc is)
inverse_split (Some y) (Some w) v is = record { letter = y; rest = w; is_letter = refl; is_rest = refl; whole = cc is }

-- a word over the generators has an inverse, where each generator has one
pub word_inverts : (n : ℕ) (inverses : List (Option ℕ)) (w : List ℕ) → EachInverts n inverses → IsOver n w
    → (inverse : List ℕ) × (inverse_word inverses w ≡ Some inverse)
word_inverts n inverses [] each over = ([], refl)
word_inverts n inverses (x ∷ w) each over =
    let letter = over_first n x w over in
    let last = each x letter.0 letter.1 in
    let rest = word_inverts n inverses w each (over_later n x w over) in
    let first : inverse_word inverses (x ∷ w) ≡ option_map (λ v. v ++ last.0 ∷ []) (inverse_word inverses w) =
    ap (option_and_then (λ y. option_map (λ v. v ++ y ∷ []) (inverse_word inverses w))) last.1 in
    (rest.0 ++ last.0 ∷ [], first ∙ ap (option_map (λ v. v ++ last.0 ∷ [])) rest.1)

module _ (n : ℕ) (parts : PresentationParts) (is : ArePresentation n parts) where
  letter_cancels : (x y : ℕ) → inverse_letter parts.inverses x ≡ Some y → AreCongruent parts (x ∷ y ∷ []) []
  letter_cancels x y inverts = congruent_sides (x ∷ y ∷ [], []) (inverse_relation parts x y inverts)

  -- a word cancels with its inverse before it
  pub inverse_before : (w inverse : List ℕ) → inverse_word parts.inverses w ≡ Some inverse → AreCongruent parts (inverse ++ w) []
  inverse_before [] inverse inverts =
      let empty : [] ≡ inverse = cc inverts in
      let P : List ℕ → Type 0 = λ z. AreCongruent parts (z ++ []) [] in subst P empty (congruent_reflexive [])
  inverse_before (x ∷ w) inverse inverts =
      let split = inverse_split (inverse_letter parts.inverses x) (inverse_word parts.inverses w) inverse inverts in
      let y : ℕ = split.letter in
      let rest : List ℕ = split.rest in
      let back = letter_cancels y x (is.mutual_inverses x y split.is_letter) in
      let middle : AreCongruent parts (y ∷ x ∷ w) w = congruent_before w back in
      let P : List ℕ → Type 0 = λ z. AreCongruent parts z [] in
      let Q : List ℕ → Type 0 = λ z. AreCongruent parts (z ++ x ∷ w) [] in
      subst Q split.whole
      (subst P (sym (append_assoc rest (y ∷ []) (x ∷ w)))
      (congruent_transitive (congruent_behind rest middle) (inverse_before w rest split.is_rest)))

  -- and behind it
  pub inverse_behind : (w inverse : List ℕ) → inverse_word parts.inverses w ≡ Some inverse → AreCongruent parts (w ++ inverse) []
  inverse_behind [] inverse inverts =
      let empty : [] ≡ inverse = cc inverts in
      let P : List ℕ → Type 0 = λ z. AreCongruent parts ([] ++ z) [] in subst P empty (congruent_reflexive [])
  inverse_behind (x ∷ w) inverse inverts =
      let split = inverse_split (inverse_letter parts.inverses x) (inverse_word parts.inverses w) inverse inverts in
      let y : ℕ = split.letter in
      let rest : List ℕ = split.rest in
      let shorter : AreCongruent parts ((x ∷ (w ++ rest)) ++ y ∷ []) (x ∷ y ∷ []) =
      congruent_between (x ∷ []) (y ∷ []) (inverse_behind w rest split.is_rest) in
      let P : List ℕ → Type 0 = λ z. AreCongruent parts z [] in
      let Q : List ℕ → Type 0 = λ z. AreCongruent parts ((x ∷ w) ++ z) [] in
      subst Q split.whole
      (subst P (append_assoc (x ∷ w) rest (y ∷ [])) (congruent_transitive shorter (letter_cancels x y split.is_letter)))
