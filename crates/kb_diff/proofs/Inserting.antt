-- What looking a word up among those that are kept, and adding it, says.
use Rattle.std.proofs.Common.{◌≡◌, ℕ, zero, suc, ◌<◌, List, [], ◌∷◌, ◌++◌, ◌≤◌, ◌+◌, length, get_or, slice_get, Some, true, false, nat_eq, refl, sym, ap, ◌∙◌, subst, inl, inr, true≢false, if◌then◌else◌, length-append, arith}
use Rattle.std.specs.List.{Contains, list_any, position}
use Rattle.std.specs.Cmp.Lexicographic.{pointwise, nat_list_eq_equiv}
use Rattle.std.proofs.lemmas.Map.Views.{list_any-from_Contains, Contains-from_any}
use Rattle.std.proofs.lemmas.List.Elements.{All-push}
use Rattle.std.proofs.lemmas.List.Quantifiers.{position-Some}
use Rattle.std.proofs.lemmas.Option.{none-some, slice_get_within, slice_get-get_or, get_or_from_slice_get}
use Rattle.std.proofs.lemmas.Slice.Eq.{bytes_eq-Decides}
use Rattle.indexmap.specs.IndexSet.{insert_key}
use Rattle.kb_word.specs.Words.{OneOf}
use Rattle.kb_word.specs.Names.{AreApart}
use Rattle.kb_word.specs.Relations.{IsOver}
use Rattle.kb_word.specs.Rewriting.{IsIrreducible}
use Rattle.kb_diff.specs.Kept.{AreKept}
use Rattle.kb_diff.specs.Tables.{IsNumberOf, kept}
use Rattle.kb_diff.specs.Groups.{Group}
use Rattle.kb_diff.proofs.Places.{push_at}

abbrev Words : Type 0
Words = List (List ℕ)

pub has_word : (words : Words) (word : List ℕ) → list_any (pointwise nat_eq word) words ≡ true → Contains words word
has_word words word found = Contains-from_any (λ x y e. (bytes_eq-Decides x y).0 e) word words found

pub lacks_word : (words : Words) (word : List ℕ) → list_any (pointwise nat_eq word) words ≡ false → ¬ Contains words word
lacks_word words word missed has =
    true≢false (sym (list_any-from_Contains nat_list_eq_equiv word words has) ∙ missed)

pub word_added : (words new : Words) (word : List ℕ) → list_any (pointwise nat_eq word) words ≡ false → new ≡ insert_key (pointwise nat_eq) words word
    → new ≡ words ++ word ∷ []
word_added words new word missed keys = keys ∙ ap (λ b. if b then words else words ++ word ∷ []) missed

pub has_at : (words : Words) (place : ℕ) (word : List ℕ) → slice_get words place ≡ Some word → Contains words word
has_at words place word at = (place, slice_get_within words place word at, get_or_from_slice_get words place word word at)

apart_push : (words : Words) (word : List ℕ) → AreApart words → ¬ Contains words word → AreApart (words ++ word ∷ [])
apart_push words word apart fresh place other x one two =
    elim (push_at words word place x one) [
      | inl first ↦ elim (push_at words word other x two) [
        | inl second ↦ apart place other x first second
        | inr last ↦ absurd (fresh (has_at words place word (first ∙ ap Some last.1)))
      ]
      | inr here ↦ elim (push_at words word other x two) [
        | inl second ↦ absurd (fresh (has_at words other word (second ∙ ap Some here.1)))
        | inr last ↦ here.0 ∙ sym last.0
      ]
    ]

first_push : (words : Words) (word first : List ℕ) → slice_get words 0 ≡ Some first → slice_get (words ++ word ∷ []) 0 ≡ Some first
first_push [] word first at = absurd (none-some first at)
first_push (x ∷ words) word first at = at

-- what is kept stays so by a word more
pub kept_more : (group : Group) (most : ℕ) (words new : Words) (word : List ℕ) → AreKept (record { group = group; most = most; words = words })
    → IsOver group.n word → IsIrreducible (OneOf group.rules) word → ¬ Contains words word → length words < most → new ≡ words ++ word ∷ []
    → AreKept (record { group = group; most = most; words = new })
kept_more group most words new word are over irreducible fresh less longer =
    let P : Words → Type 0 = λ w. AreKept (record { group = group; most = most; words = w }) in
    let long = length-append words (word ∷ []) in
    subst P (sym longer) (record {
      inverses = are.inverses;
      within_letters = are.within_letters;
      letters = are.letters;
      empty = are.empty;
      first = first_push words word [] are.first;
      apart = apart_push words word are.apart fresh;
      within = omega arith;
      limit = are.limit;
      over = All-push (λ (w : List ℕ). IsOver group.n w) words word are.over over;
      irreducible = All-push (λ (w : List ℕ). IsIrreducible (OneOf group.rules) w) words word are.irreducible irreducible;
    })

pub apart_alone : AreApart ([] ∷ [])
apart_alone zero zero name one two = refl
apart_alone zero (suc other) name one two = absurd (none-some name two)
apart_alone (suc place) other name one two = absurd (none-some name one)

-- the number of a word that is found, and of one that isn't
pub found_number : (words : Words) (word : List ℕ) (index : ℕ) → position (pointwise nat_eq word) words ≡ Some index
    → IsNumberOf words word (index + 1)
found_number words word index found =
    let at = position-Some (pointwise nat_eq word) words index word found in
    let same : word ≡ get_or words index word = (bytes_eq-Decides word (get_or words index word)).0 at.1 in
    kept (record { index = index; is = omega arith; at = slice_get-get_or words index word at.0 ∙ ap Some (sym same) })

pub index_fits : (words : Words) (word : List ℕ) (index most : ℕ) → position (pointwise nat_eq word) words ≡ Some index → length words ≤ most
    → index + 1 ≤ most
index_fits words word index most found within =
    let at = position-Some (pointwise nat_eq word) words index word found in omega arith
