-- Words that are connected below a word: replacements, in one direction or the other, lead from one to the other
-- through words that are all below it. Winkler, Buchberger, A criterion for eliminating unnecessary reductions in the
-- Knuth-Bendix algorithm (1983).
use Rattle.std.proofs.Common.{◌≡◌, ℕ, List, [], ◌∷◌, ◌++◌, sym, ◌∙◌, subst, inl, inr}
use Rattle.kb_word.specs.Words.{Pair, OneOf}
use Rattle.kb_word.specs.Path.{Linked, Path}
use Rattle.kb_word.specs.Order.{Accessible, IsReductionOrder}
use Rattle.kb_word.specs.Order.Accessible.{accessible}
use Rattle.kb_word.specs.Congruence.{Replaces, Touches}
use Rattle.kb_word.specs.Rewriting.{AreDecreasing, IsIrreducible, ReducesTo}
use Rattle.kb_word.proofs.PathLemmas.{path_equal, path_step, path_append, path_mapped, path_reversed, path_keeps, Replaces-between}
use Rattle.kb_rules.proofs.Exists.{normal_form_exists}
use Rattle.kb_rules.proofs.Reducts.{normal_form_reduct, replaced_below}
use Rattle.kb_overlap.proofs.Replacements.{CommonReduct}

-- one replacement, in one direction or the other, both words being below w
pub record TouchesBelow (below : List ℕ → List ℕ → Type 0) (rules : List Pair) (w u v : List ℕ) : Type 0 where
  pub touches : Touches (OneOf rules) u v
  pub left : below u w
  pub right : below v w

-- u and v are connected below w
abbrev pub Connected : (List ℕ → List ℕ → Type 0) → List Pair → List ℕ → List ℕ → List ℕ → Type 0
Connected below rules w = Path (TouchesBelow below rules w)

-- words that are one replacement away from one word are connected below it
abbrev pub PeaksAreConnected : (List ℕ → List ℕ → Type 0) → List Pair → Type 0
PeaksAreConnected below rules =
    (w u v : List ℕ) → Replaces (OneOf rules) w u → Replaces (OneOf rules) w v → Connected below rules w u v

-- w has one irreducible reduct at most
abbrev pub HasOneEnd : List Pair → List ℕ → Type 0
HasOneEnd rules w = (m n : List ℕ) → ReducesTo (OneOf rules) w m → ReducesTo (OneOf rules) w n
    → IsIrreducible (OneOf rules) m → IsIrreducible (OneOf rules) n → m ≡ n

touched_back : {allowed : Pair → Type 0} (u v : List ℕ) → Touches allowed u v → Touches allowed v u
touched_back u v (inl r) = inr r
touched_back u v (inr r) = inl r

touched_between : {allowed : Pair → Type 0} (before after u v : List ℕ)
    → Touches allowed u v → Touches allowed (before ++ u ++ after) (before ++ v ++ after)
touched_between before after u v (inl r) = inl (Replaces-between before after r)
touched_between before after u v (inr r) = inr (Replaces-between before after r)

module _ {below : List ℕ → List ℕ → Type 0} (order : IsReductionOrder below) (rules : List Pair)
    (falling : AreDecreasing below rules) where
  pub connected_symmetric : (w u v : List ℕ) → Connected below rules w u v → Connected below rules w v u
  connected_symmetric w u v connected =
      path_reversed (λ x y step. record { touches = touched_back x y step.touches; left = step.right; right = step.left }) connected

  -- connected words are connected between other words
  pub connected_between : (before after w u v : List ℕ) → Connected below rules w u v
      → Connected below rules (before ++ w ++ after) (before ++ u ++ after) (before ++ v ++ after)
  connected_between before after w u v connected =
      path_mapped (λ z. before ++ z ++ after)
      (λ x y step. record {
        touches = touched_between before after x y step.touches;
        left = order.kept before after x w step.left;
        right = order.kept before after y w step.right;
      }) connected

  connected_along : (w u v : List ℕ) (steps : List (List ℕ)) → Linked (Replaces (OneOf rules)) u steps v → below u w
      → Connected below rules w u v
  connected_along w u v [] same low = path_equal u v same
  connected_along w u v (next ∷ rest) linked low =
      let fall : below next w = order.transitive next u w (replaced_below order falling linked.0) low in
      path_step (record { touches = inl linked.0; left = low; right = fall }) (connected_along w next v rest linked.1 fall)

  -- words below w that have a common reduct are connected below it
  pub common_connected : (w u v : List ℕ) → Replaces (OneOf rules) w u → Replaces (OneOf rules) w v
      → CommonReduct (OneOf rules) u v → Connected below rules w u v
  common_connected w u v f g common =
      let left = connected_along w u common.joint common.left.steps common.left.linked (replaced_below order falling f) in
      let right = connected_along w v common.joint common.right.steps common.right.linked (replaced_below order falling g) in
      path_append left (connected_symmetric w v common.joint right)

  -- a replacement, in either direction, keeps the irreducible reduct of a word that has no other
  pub kept_by_touch : (m : List ℕ) → IsIrreducible (OneOf rules) m → (u v : List ℕ) → HasOneEnd rules u
      → Touches (OneOf rules) u v → ReducesTo (OneOf rules) u m → ReducesTo (OneOf rules) v m
  kept_by_touch m irreducible u v one (inl r) reduces =
      let end = normal_form_exists order rules falling v in
      let path = normal_form_reduct end.1 in
      let same : end.0 ≡ m = one end.0 m (path_step r path) reduces end.1.irreducible irreducible in
      let P : List ℕ → Type 0 = λ n. ReducesTo (OneOf rules) v n in
      subst P same path
  kept_by_touch m irreducible u v one (inr r) reduces = path_step r reduces

  stuck : (u v : List ℕ) → IsIrreducible (OneOf rules) u → ¬ Replaces (OneOf rules) u v
  stuck u v irreducible r = irreducible r.before r.pair r.after r.is_allowed r.from

  one_end_along : PeaksAreConnected below rules → (w : List ℕ) → ((z : List ℕ) → below z w → HasOneEnd rules z)
      → (m n : List ℕ) (steps others : List (List ℕ)) → Linked (Replaces (OneOf rules)) w steps m
      → Linked (Replaces (OneOf rules)) w others n
      → IsIrreducible (OneOf rules) m → IsIrreducible (OneOf rules) n → m ≡ n
  one_end_along peaks w lower m n [] [] p q is_end other_end = sym p ∙ q
  one_end_along peaks w lower m n [] (z ∷ others) p q is_end other_end =
      let at_w : IsIrreducible (OneOf rules) w = subst (IsIrreducible (OneOf rules)) (sym p) is_end in
      absurd (stuck w z at_w q.0)
  one_end_along peaks w lower m n (y ∷ steps) [] p q is_end other_end =
      let at_w : IsIrreducible (OneOf rules) w = subst (IsIrreducible (OneOf rules)) (sym q) other_end in
      absurd (stuck w y at_w p.0)
  one_end_along peaks w lower m n (y ∷ steps) (z ∷ others) p q is_end other_end =
      let first : ReducesTo (OneOf rules) y m = record { steps = steps; linked = p.1 } in
      let second : ReducesTo (OneOf rules) z n = record { steps = others; linked = q.1 } in
      let carried : ReducesTo (OneOf rules) z m =
      path_keeps (λ u. ReducesTo (OneOf rules) u m)
      (λ u v step. kept_by_touch m is_end u v (lower u step.left) step.touches) (peaks w y z p.0 q.0) first in
      lower z (replaced_below order falling q.0) m n carried second is_end other_end

  one_end_from : PeaksAreConnected below rules → (w : List ℕ) → Accessible below w → HasOneEnd rules w
  one_end_from peaks w (accessible lower) m n p q =
      one_end_along peaks w (λ z fall. one_end_from peaks z (lower z fall)) m n p.steps q.steps p.linked q.linked

  -- Newman's lemma, for peaks that are connected: a word has one irreducible reduct at most.
  pub one_end : PeaksAreConnected below rules → (w : List ℕ) → HasOneEnd rules w
  one_end peaks w = one_end_from peaks w (order.well_founded w)
