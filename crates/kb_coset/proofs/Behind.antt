-- What stands behind the marker stays in one right coset: a word that is congruent to a marked one, by the marked
-- presentation, has the marker once, and behind it a word of the coset.
use Rattle.std.proofs.Common.{◌≡◌, ℕ, ◌+◌, List, [], ◌∷◌, ◌++◌, refl, sym, ap, ◌∙◌, subst, inl, inr, arith, append_assoc}
use Rattle.std.specs.List.{All}
use Rattle.kb_word.specs.Words.{Pair, OneOf}
use Rattle.kb_word.specs.Congruence.{Replaces, Touches, Congruent}
use Rattle.kb_word.specs.Relations.{IsOver}
use Rattle.kb_word.proofs.PathLemmas.{path_none, path_then, path_keeps}
use Rattle.kb_coset.specs.Cosets.{CosetStep, by_relation, comes, goes, SameCoset}
use Rattle.kb_coset.specs.Marked.{marked_word}
use Rattle.kb_coset.proofs.Letters.{over_none, over_append, over_rest, over_replaced, generator_over, one_place, ahead, behind, side}
use Rattle.kb_coset.proofs.Relations.{IsMarkedRelation, was_given, marks}

-- The word has the marker once, in front of a word that is in the right coset of u.
pub record HasBehind (n : ℕ) (given : List Pair) (generators : List (List ℕ)) (u w : List ℕ) : Type 0 where
  pub front : List ℕ
  pub back : List ℕ
  pub whole : w ≡ front ++ (n + 1) ∷ back
  pub front_over : IsOver n front
  pub back_over : IsOver n back
  pub same_coset : SameCoset given generators u back

module _ (n : ℕ) (given : List Pair) (generators : List (List ℕ))
    (over : (pair : Pair) → OneOf given pair → IsOver n pair.0 × IsOver n pair.1) (generators_over : All (IsOver n) generators) where
  IsBehind : List ℕ → List ℕ → Type 0
  IsBehind u w = HasBehind n given generators u w

  -- a word over the generators is replaced by another, with a step within the coset where both stand behind the marker
  factor_replaced : (u w other before left right after : List ℕ) → w ≡ before ++ left ++ after → other ≡ before ++ right ++ after
      → IsOver n left → IsOver n right
      → ((front rest : List ℕ) → CosetStep given generators (front ++ left ++ rest) (front ++ right ++ rest))
      → IsBehind u w → IsBehind u other
  unfolding IsBehind
  factor_replaced u w other before left right after from to left_over right_over step has =
      elim (side n (n + 1) before left after has.front has.back (omega arith) left_over (sym from ∙ has.whole)) [
        | ahead middle is rest ↦
            let P : List ℕ → Type 0 = λ v. IsOver n v in
            let shorter = append_assoc (before ++ right) middle ((n + 1) ∷ has.back) in
            record {
              front = before ++ right ++ middle;
              back = has.back;
              whole = to ∙ ap (λ v. before ++ right ++ v) rest ∙ sym shorter;
              front_over = over_replaced n before left right middle (subst P is has.front_over) right_over;
              back_over = has.back_over;
              same_coset = has.same_coset;
            }
        | behind middle is rest ↦
            let P : List ℕ → Type 0 = λ v. IsOver n v in
            let Q : List ℕ → Type 0 = λ v. SameCoset given generators u v in
            record {
              front = has.front;
              back = middle ++ right ++ after;
              whole = to ∙ ap (λ v. v ++ right ++ after) is ∙ simp append_assoc;
              front_over = has.front_over;
              back_over = over_replaced n middle left right after (subst P rest has.back_over) right_over;
              same_coset = path_then (subst Q rest has.same_coset) (step middle after);
            }
      ]

  -- what stands behind the marker is exchanged at its front
  marker_replaced : (u w other before left right after : List ℕ) → w ≡ before ++ marked_word n left ++ after
      → other ≡ before ++ marked_word n right ++ after → IsOver n right
      → CosetStep given generators (left ++ after) (right ++ after)
      → IsBehind u w → IsBehind u other
  unfolding IsBehind
  marker_replaced u w other before left right after from to right_over step has =
      let apart : before ++ marked_word n left ++ after ≡ before ++ (n + 1) ∷ (left ++ after) =
      append_assoc before (marked_word n left) after in
      let places = one_place n (n + 1) has.front has.back before (left ++ after) (omega arith) has.front_over has.back_over
      (sym has.whole ∙ from ∙ apart) in
      let P : List ℕ → Type 0 = λ v. IsOver n v in
      let Q : List ℕ → Type 0 = λ v. SameCoset given generators u v in
      let rest = over_rest n left after (subst P places.1 has.back_over) in
      record {
        front = before;
        back = right ++ after;
        whole = to ∙ append_assoc before (marked_word n right) after;
        front_over = subst P places.0 has.front_over;
        back_over = over_append n right after right_over rest;
        same_coset = path_then (subst Q places.1 has.same_coset) step;
      }

  -- the sides of a relation, in a longer word
  relation_forth : (pair : Pair) → OneOf given pair → (front rest : List ℕ)
      → CosetStep given generators (front ++ pair.0 ++ rest) (front ++ pair.1 ++ rest)
  relation_forth pair one front rest =
      by_relation
      (inl (record { before = front; pair = pair; after = rest; is_allowed = one; from = refl; to = refl }))

  relation_back : (pair : Pair) → OneOf given pair → (front rest : List ℕ)
      → CosetStep given generators (front ++ pair.1 ++ rest) (front ++ pair.0 ++ rest)
  relation_back pair one front rest =
      by_relation
      (inr (record { before = front; pair = pair; after = rest; is_allowed = one; from = refl; to = refl }))

  forth : (u w other : List ℕ) (r : Replaces (IsMarkedRelation n generators given) w other)
      → IsMarkedRelation n generators given r.pair → IsBehind u w → IsBehind u other
  forth u w other r (was_given one) has =
      let both = over r.pair one in
      factor_replaced u w other r.before r.pair.0 r.pair.1 r.after r.from r.to both.0 both.1 (relation_forth r.pair one) has
  forth u w other r (marks h is_generator is) has =
      let from : w ≡ r.before ++ marked_word n h ++ r.after = r.from ∙ ap (λ (pair : Pair). r.before ++ pair.0 ++ r.after) is in
      let to : other ≡ r.before ++ marked_word n [] ++ r.after = r.to ∙ ap (λ (pair : Pair). r.before ++ pair.1 ++ r.after) is in
      marker_replaced u w other r.before h [] r.after from to (over_none n) (goes h is_generator refl) has

  back : (u w other : List ℕ) (r : Replaces (IsMarkedRelation n generators given) other w)
      → IsMarkedRelation n generators given r.pair → IsBehind u w → IsBehind u other
  back u w other r (was_given one) has =
      let both = over r.pair one in
      factor_replaced u w other r.before r.pair.1 r.pair.0 r.after r.to r.from both.1 both.0 (relation_back r.pair one) has
  back u w other r (marks h is_generator is) has =
      let from : w ≡ r.before ++ marked_word n [] ++ r.after = r.to ∙ ap (λ (pair : Pair). r.before ++ pair.1 ++ r.after) is in
      let to : other ≡ r.before ++ marked_word n h ++ r.after = r.from ∙ ap (λ (pair : Pair). r.before ++ pair.0 ++ r.after) is in
      marker_replaced u w other r.before [] h r.after from to (generator_over n generators h generators_over is_generator)
      (comes h is_generator refl) has

  touched : (u w other : List ℕ) → Touches (IsMarkedRelation n generators given) w other → IsBehind u w → IsBehind u other
  touched u w other (inl r) has = forth u w other r r.is_allowed has
  touched u w other (inr r) has = back u w other r r.is_allowed has

  -- each word that is congruent to a marked word has the marker before a word of the coset
  pub stays_behind : (u w : List ℕ) → IsOver n u → Congruent (IsMarkedRelation n generators given) (marked_word n u) w
      → HasBehind n given generators u w
  unfolding IsBehind
  stays_behind u w u_over path =
      let first : HasBehind n given generators u (marked_word n u) = record {
        front = [];
        back = u;
        whole = refl;
        front_over = over_none n;
        back_over = u_over;
        same_coset = path_none u;
      } in
      path_keeps (λ (v : List ℕ). HasBehind n given generators u v) (touched u) path first
