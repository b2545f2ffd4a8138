-- A printed word means the word.
use Rattle.std.proofs.Common.{◌≡◌, ℕ, zero, suc, ◌+◌, ◌<◌, ◌≤◌, false, List, [], ◌∷◌, ◌++◌, map, length, Option, Some, Ok, inl, inr, nat_lt, nat_eq, refl, sym, ap, ◌∙◌, append_assoc, append-nil, length-append, arith}
use Rattle.std.specs.Prelude.{codes}
use Rattle.std.specs.Cmp.Lexicographic.{pointwise}
use Rattle.std.proofs.lemmas.Bool.{le-ltb, false_from_ne_true}
use Rattle.std.proofs.lemmas.List.Elements.{All-head, All-tail}
use Rattle.std.proofs.lemmas.Option.{slice_get_within, get_or_from_slice_get}
use Rattle.std.proofs.lemmas.Slice.Eq.{bytes_eq-Decides}
use Rattle.kb_word.specs.Words.{Pair, OneOf}
use Rattle.kb_word.specs.Names.{name_of}
use Rattle.kb_word.specs.Printed.{letter_name}
use Rattle.kb_word.specs.Relations.{IsOver}
use Rattle.kb_record.specs.Meaning.{most_letters, letter_from, name_meaning, product_meaning, word_meaning}
use Rattle.kb_record.proofs.WordMeanings.{letter_found, name_known}
use Rattle.kb_fields.specs.Generators.{AreGeneratorNames}
use Rattle.kb_presprint.specs.Printed.{letter_factors, word_factors, side_factors}
use Rattle.kb_presprint.proofs.WrittenTrees.{letter_named}
use Rattle.kb_presfile.specs.Holds.{AreMeanings}

-- names of generators
module _ (names : List (List ℕ)) (free : AreGeneratorNames names) where
  -- no earlier letter has a letter's name
  first_named : (x earlier : ℕ) (name : List ℕ) → name_of names x ≡ Some name → earlier < x → name_of names earlier ≡ Some name → ⊥
  first_named zero earlier name at before at_earlier = cc
  first_named (suc place) zero name at before at_earlier = cc
  first_named (suc place) (suc earlier) name at before at_earlier =
      free.free name (inl (record { first = earlier; again = place; later = omega (arith, before); at_first = at_earlier; at_again = at }))

  -- the letter of its name is found again
  pub letter_read : (x : ℕ) → (0 < x) × (x ≤ length names) → letter_from 1 names (letter_name names x) ≡ Some x
  letter_read x over =
      let named = letter_named names x over.0 over.1 in
      letter_found names (letter_name names x) x named (λ earlier before at. first_named x earlier (letter_name names x) named before at)

  -- no letter is called `IdWord`
  not_empty_word : (x : ℕ) (name : List ℕ) → name_of names x ≡ Some name → name ≡ codes "IdWord" → ⊥
  not_empty_word zero name at same = cc
  not_empty_word (suc place) name at same =
      free.free name (inr ((place, slice_get_within names place name at, get_or_from_slice_get names place name name at), inl same))

  name_read : (x : ℕ) → (0 < x) × (x ≤ length names) → name_meaning names (letter_name names x) ≡ Ok (x ∷ [])
  name_read x over =
      let name = letter_name names x in
      let other = false_from_ne_true (pointwise nat_eq name (codes "IdWord"))
      (λ e. not_empty_word x name (letter_named names x over.0 over.1) ((bytes_eq-Decides name (codes "IdWord")).0 e)) in
      name_known names name x other (letter_read x over)

  module _ (inverses : List (Option ℕ)) where
    letters_read : (so_far w : List ℕ) → IsOver (length names) w → length so_far + length w ≤ most_letters
        → product_meaning names inverses so_far (letter_factors names w) ≡ Ok (so_far ++ w)
    letters_read so_far [] over short = ap Ok (sym (append-nil so_far))
    letters_read so_far (x ∷ w) over short =
        let P : ℕ → Type 0 = λ y. (0 < y) × (y ≤ length names) in
        let name = name_read x (All-head P x w over) in
        let fits : nat_lt most_letters (length so_far + 1) ≡ false = le-ltb most_letters (length so_far + 1) (omega (arith, short)) in
        let longer = length-append so_far (x ∷ []) in
        let rest = letters_read (so_far ++ x ∷ []) w (All-tail P x w over) (omega (arith, short, longer)) in
        rw (name, fits) (rest ∙ ap Ok (append_assoc so_far (x ∷ []) w))

    pub word_read : (w : List ℕ) → IsOver (length names) w → length w ≤ most_letters → word_meaning names inverses (word_factors names w) ≡ Ok w
    word_read [] over short = refl
    word_read (x ∷ w) over short = letters_read [] (x ∷ w) over (omega (arith, short))

    pub rules_read : (rules : List Pair) → ((rule : Pair) → OneOf rules rule → IsOver (length names) rule.0 × IsOver (length names) rule.1)
        → ((rule : Pair) → OneOf rules rule → (length rule.0 ≤ most_letters) × (length rule.1 ≤ most_letters))
        → AreMeanings names inverses (map (side_factors names) rules) rules
    rules_read [] over short = refl
    rules_read (rule ∷ rules) over short =
        let letters = over rule (0, refl) in
        let fit = short rule (0, refl) in (
          word_read rule.0 letters.0 fit.0,
          word_read rule.1 letters.1 fit.1,
          rules_read rules (λ other at. over other (suc at.0, at.1)) (λ other at. short other (suc at.0, at.1)),
        )
