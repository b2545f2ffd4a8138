-- Marked words are congruent exactly where the words are in one right coset.
use Rattle.std.proofs.Common.{◌≡◌, ◌↔◌, ℕ, ◌+◌, List, [], ◌∷◌, ◌++◌, refl, sym, ap, subst, inl, inr, arith}
use Rattle.std.specs.List.{All}
use Rattle.kb_word.specs.Words.{Pair, OneOf}
use Rattle.kb_word.specs.Congruence.{Replaces, Touches}
use Rattle.kb_word.specs.Relations.{IsOver}
use Rattle.kb_word.specs.Presentations.{PresentationParts}
use Rattle.kb_word.proofs.PathLemmas.{path_mapped, congruent_implied}
use Rattle.kb_coset.specs.Cosets.{CosetStep, by_relation, comes, goes, SameCoset}
use Rattle.kb_coset.specs.Marked.{AreCongruent, ArePresentation, relations, marked_parts, marked_word, marker_equation}
use Rattle.kb_coset.proofs.Letters.{nothing_in_front}
use Rattle.kb_coset.proofs.Relations.{relations_over, marked_relation, given_is_marked, marks_is_marked}
use Rattle.kb_coset.proofs.Behind.{HasBehind, stays_behind}

-- a replacement, behind the marker
marked_replacement : {allowed more : Pair → Type 0} (n : ℕ) → ((pair : Pair) → allowed pair → more pair)
    → (u v : List ℕ) → Replaces allowed u v → Replaces more (marked_word n u) (marked_word n v)
marked_replacement n implies u v r = record {
  before = (n + 1) ∷ r.before;
  pair = r.pair;
  after = r.after;
  is_allowed = implies r.pair r.is_allowed;
  from = ap (λ w. (n + 1) ∷ w) r.from;
  to = ap (λ w. (n + 1) ∷ w) r.to;
}

-- a generator of the subgroup goes behind the marker
generator_goes : {allowed : Pair → Type 0} (n : ℕ) (h w whole : List ℕ) → allowed (marker_equation n h) → whole ≡ h ++ w
    → Replaces allowed (marked_word n whole) (marked_word n w)
generator_goes n h w whole is from = record {
  before = [];
  pair = marker_equation n h;
  after = w;
  is_allowed = is;
  from = ap (λ v. (n + 1) ∷ v) from;
  to = refl;
}

module _ (n : ℕ) (generators : List (List ℕ)) (parts : PresentationParts) where
  marked_step : (u v : List ℕ) → CosetStep (relations parts) generators u v
      → Touches (OneOf (relations (marked_parts n generators parts))) (marked_word n u) (marked_word n v)
  marked_step u v (by_relation (inl r)) = inl (marked_replacement n (given_is_marked n generators parts) u v r)
  marked_step u v (by_relation (inr r)) = inr (marked_replacement n (given_is_marked n generators parts) v u r)
  marked_step u v (comes h is_generator is) = inr (generator_goes n h u v (marks_is_marked n generators parts h is_generator) is)
  marked_step u v (goes h is_generator is) = inl (generator_goes n h v u (marks_is_marked n generators parts h is_generator) is)

  -- words of one coset are congruent behind the marker
  pub congruent_of_coset : (u v : List ℕ) → SameCoset (relations parts) generators u v
      → AreCongruent (marked_parts n generators parts) (marked_word n u) (marked_word n v)
  congruent_of_coset u v same = path_mapped (marked_word n) marked_step same

  module _ (is : ArePresentation n parts) (generators_over : All (IsOver n) generators) where
    -- a word that is congruent to a marked word has the marker once, in front of a word of the coset
    pub behind_marker : (u w : List ℕ) → IsOver n u
        → AreCongruent (marked_parts n generators parts) (marked_word n u) w
        → HasBehind n (relations parts) generators u w
    behind_marker u w over equal =
        stays_behind n (relations parts) generators (relations_over n parts is) generators_over u w over
        (congruent_implied (marked_relation n generators parts) equal)

    pub coset_of_congruent : (u v : List ℕ) → IsOver n u
        → AreCongruent (marked_parts n generators parts) (marked_word n u) (marked_word n v)
        → SameCoset (relations parts) generators u v
    coset_of_congruent u v over equal =
        let has = behind_marker u (marked_word n v) over equal in
        let whole = nothing_in_front n (n + 1) has.front has.back v (omega arith) has.front_over (sym has.whole) in
        let P : List ℕ → Type 0 = λ w. SameCoset (relations parts) generators u w in
        subst P whole.1 has.same_coset

    pub marked_cosets : (u v : List ℕ) → IsOver n u
        → AreCongruent (marked_parts n generators parts) (marked_word n u) (marked_word n v)
        ↔ SameCoset (relations parts) generators u v
    marked_cosets u v over = (coset_of_congruent u v over, congruent_of_coset u v)
