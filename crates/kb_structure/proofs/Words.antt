-- Words that are the same element.
use Rattle.std.proofs.Common.{◌≡◌, ℕ, List, [], ◌++◌, sym, subst, inl, inr}
use Rattle.std.proofs.lemmas.List.{append-nil}
use Rattle.kb_word.specs.Words.{Pair, OneOf}
use Rattle.kb_word.specs.Congruence.{Touches, Congruent}
use Rattle.kb_word.specs.Relations.{IsOver}
use Rattle.kb_word.proofs.PathLemmas.{path_keeps, congruent_between}
use Rattle.kb_structure.specs.Structure.{Structure, AreOverGenerators, AreEqual}
use Rattle.kb_structure.proofs.Letters.{over_replaced}

-- congruent words stay so behind a word, and before one
pub congruent_behind : {allowed : Pair → Type 0} (front : List ℕ) {u v : List ℕ} → Congruent allowed u v
    → Congruent allowed (front ++ u) (front ++ v)
congruent_behind {allowed = allowed} front {u = u} {v = v} equal =
    let P : List ℕ → Type 0 = λ w. Congruent allowed w (front ++ v ++ []) in
    let Q : List ℕ → Type 0 = λ w. Congruent allowed (front ++ u) w in
    subst Q (append-nil (front ++ v)) (subst P (append-nil (front ++ u)) (congruent_between front [] equal))

pub congruent_before : {allowed : Pair → Type 0} (after : List ℕ) {u v : List ℕ} → Congruent allowed u v
    → Congruent allowed (u ++ after) (v ++ after)
congruent_before after equal = congruent_between [] after equal

module _ (structure : Structure) (over : AreOverGenerators structure) where
  replaced_over : (w other before left right after : List ℕ) → w ≡ before ++ left ++ after → other ≡ before ++ right ++ after
      → IsOver structure.n right → IsOver structure.n w → IsOver structure.n other
  replaced_over w other before left right after from to letters whole =
      let P : List ℕ → Type 0 = λ z. IsOver structure.n z in
      subst P (sym to) (over_replaced structure.n before left right after (subst P from whole) letters)

  touched_over : (w other : List ℕ) → Touches (OneOf structure.relations) w other → IsOver structure.n w → IsOver structure.n other
  touched_over w other (inl forth) letters =
      let relation = forth.pair in
      replaced_over w other forth.before relation.0 relation.1 forth.after forth.from forth.to
      (over relation forth.is_allowed).1 letters
  touched_over w other (inr back) letters =
      let relation = back.pair in
      replaced_over w other back.before relation.1 relation.0 back.after back.to back.from
      (over relation back.is_allowed).0 letters

  -- what is equal to a word over the generators is over them too
  pub equal_over : (w other : List ℕ) → AreEqual structure w other → IsOver structure.n w → IsOver structure.n other
  equal_over w other equal letters = path_keeps (λ z. IsOver structure.n z) touched_over equal letters
