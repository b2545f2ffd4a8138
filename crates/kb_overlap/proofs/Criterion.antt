-- Where the critical pair of each prime overlap is joined, words that are one replacement away from one word are
-- connected below it. So a word has one normal form, and the critical pairs of all overlaps are joined.
use Rattle.std.proofs.Common.{◌≡◌, ◌≢◌, ℕ, zero, suc, ◌+◌, ◌-◌, ◌<◌, ◌≤◌, List, [], ◌∷◌, ◌++◌, length, take, drop, refl, sym, ◌∙◌, ap, subst, inl, inr, arith, length-append, length-drop, length-take}
use Rattle.std.specs.Prelude.{slice_get}
use Rattle.std.proofs.lemmas.Bool.{cases_lt, cases_eq}
use Rattle.kb_word.specs.Words.{Pair, OneOf}
use Rattle.kb_word.specs.Order.{IsReductionOrder}
use Rattle.kb_word.specs.Congruence.{Replaces}
use Rattle.kb_word.specs.Rewriting.{AreDecreasing, NormalForm}
use Rattle.kb_word.specs.Overlap.{OverlapOf, IsResolved, IsConfluent, critical_pair, superposition}
use Rattle.kb_word.proofs.PathLemmas.{path_equal, path_step, path_append, append-between, Replaces-implied}
use Rattle.kb_rules.proofs.Exists.{normal_form_exists}
use Rattle.kb_rules.proofs.Reducts.{normal_form_reduct}
use Rattle.kb_rules.proofs.Superposed.{replaced-by-first, replaced-by-second}
use Rattle.kb_overlap.specs.Composite.{BothStickOut, IsPrime, PrimesAreJoined}
use Rattle.kb_overlap.specs.Composite.IsPrime.{contained, proper}
use Rattle.kb_overlap.proofs.Occurrences.{Within, cases_occurrences}
use Rattle.kb_overlap.proofs.Replacements.{common_apart, common_overlapping, superposed_within, one_rule, same_within}
use Rattle.kb_overlap.proofs.Narrowed.{Narrowed, narrowed_by_first, narrowed_by_last}
use Rattle.kb_overlap.proofs.Inside.{HasInside, cases_inside}
use Rattle.kb_overlap.proofs.Connected.{Connected, PeaksAreConnected, HasOneEnd, connected_symmetric, connected_between, common_connected, one_end}

none-right : (xs ys : List ℕ) → xs ++ ys ≡ [] → ys ≡ []
none-right [] ys e = e
none-right (x ∷ xs) ys e = absurd (cc)

none-left : (xs ys : List ℕ) → xs ++ ys ≡ [] → xs ≡ []
none-left [] ys e = refl
none-left (x ∷ xs) ys e = absurd (cc)

-- a left side with which a longer one begins is contained in it, at place 0
mirrored : {rules : List Pair} {i j : ℕ} {first second : Pair} → OverlapOf rules i j 0 first second
    → 0 < length second.0 → OverlapOf rules j i 0 second first
mirrored {first = first} {second = second} o some = record {
  is_first = o.is_second;
  is_second = o.is_first;
  overlaps = record {
    within = some;
    agree = λ k low high.
        let e : 0 + k ≡ k = omega arith in
        ap (slice_get second.0) e ∙ sym (o.overlaps.agree k (omega arith) (omega arith)) ∙ ap (slice_get first.0) e;
  };
  proper = λ same. o.proper (sym same);
}

-- its critical pair is the same, the other way round
mirrored_joined : {rules : List Pair} (first second : Pair) → IsResolved rules (critical_pair second first 0)
    → IsResolved rules (critical_pair first second 0)
mirrored_joined {rules = rules} first second joined =
    let l = first.0 in let m = second.0 in
    let e : 0 + length l ≡ length l - 0 = omega arith in
    let d : length m - 0 ≡ 0 + length m = omega arith in
    let P : ℕ → Type 0 = λ n. NormalForm rules (first.1 ++ drop n m) joined.joint in
    let Q : ℕ → Type 0 = λ n. NormalForm rules (second.1 ++ drop n l) joined.joint in
    record { joint = joined.joint; left = subst P e joined.right; right = subst Q d joined.left }

module _ {below : List ℕ → List ℕ → Type 0} (order : IsReductionOrder below) (rules : List Pair)
    (falling : AreDecreasing below rules) (joined : PrimesAreJoined rules) where
  -- peaks in words of less than n letters are connected
  abbrev PeaksTo : ℕ → Type 0
  PeaksTo n = (w u v : List ℕ) → length w < n → Replaces (OneOf rules) w u → Replaces (OneOf rules) w v → Connected below rules w u v

  narrowed_connected : (w u v : List ℕ) → PeaksTo (length w) → Narrowed (OneOf rules) w u v → Connected below rules w u v
  narrowed_connected w u v lower narrowed =
      let before = narrowed.before in let after = narrowed.after in
      let inner = lower narrowed.inner narrowed.left narrowed.right narrowed.shorter narrowed.to_left narrowed.to_right in
      let wide : Connected below rules (before ++ narrowed.inner ++ after) (before ++ narrowed.left ++ after) (before ++ narrowed.right ++ after) =
      connected_between order rules falling before after narrowed.inner narrowed.left narrowed.right inner in
      let P : List ℕ → Type 0 = λ z. Connected below rules z u v in
      let Q : List ℕ → Type 0 = λ z. Connected below rules (before ++ narrowed.inner ++ after) z v in
      let R : List ℕ → Type 0 = λ z. Connected below rules (before ++ narrowed.inner ++ after) (before ++ narrowed.left ++ after) z in
      subst P (sym narrowed.whole_is) (subst Q (sym narrowed.left_is) (subst R (sym narrowed.right_is) wide))

  -- With an inner occurrence: it leaves the last letter, as the first one does, and the first, as the second one does.
  composite_connected : (w u v : List ℕ) → PeaksTo (length w) → (f : Replaces (OneOf rules) w u) (g : Replaces (OneOf rules) w v)
      → (places : Within f.before f.pair.0 f.after g.before g.pair.0 g.after) → BothStickOut f.pair.0 g.pair.0 places.place
      → HasInside rules (superposition f.pair.0 g.pair.0 places.place) → Connected below rules w u v
  composite_connected w u v lower f g places sticks has =
      let l = f.pair.0 in let m = g.pair.0 in let p = places.place in
      let i = has.inside in
      let before = f.before ++ i.before in
      let after = i.after ++ places.rest in
      let z = before ++ has.inner.1 ++ after in
      let c : Replaces (OneOf rules) w z = record {
        before = before;
        pair = has.inner;
        after = after;
        is_allowed = has.is_rule;
        from = superposed_within f g places ∙ ap (λ s. f.before ++ s ++ places.rest) i.whole
            ∙ append-between f.before i.before has.inner.0 i.after places.rest;
        to = refl;
      } in
      let within : p < length l = places.overlaps.within in
      let ends_earlier : f.after ≢ [] = λ none.
      omega (arith, ap length none, ap length places.after_is, length-append (drop (length l - p) m) places.rest, length-drop (length l - p) m) in
      let begins_later : g.before ≢ [] = λ none.
      omega (arith, ap length none, ap length places.front_is, length-append f.before (take p l), length-take p l) in
      let inner_earlier : after ≢ [] = λ none. i.ends_earlier (none-left i.after places.rest none) in
      let inner_later : before ≢ [] = λ none. i.begins_later (none-right f.before i.before none) in
      path_append (narrowed_connected w u z lower (narrowed_by_last f c ends_earlier inner_earlier))
      (narrowed_connected w z v lower (narrowed_by_first c g inner_later begins_later))

  -- both stick out: composite, or joined
  sticking_connected : (w u v : List ℕ) → PeaksTo (length w) → (f : Replaces (OneOf rules) w u) (g : Replaces (OneOf rules) w v)
      → (places : Within f.before f.pair.0 f.after g.before g.pair.0 g.after)
      → OverlapOf rules f.is_allowed.0 g.is_allowed.0 places.place f.pair g.pair
      → BothStickOut f.pair.0 g.pair.0 places.place → Connected below rules w u v
  sticking_connected w u v lower f g places o sticks =
      elim (cases_inside order rules falling (superposition f.pair.0 g.pair.0 places.place)) [
        | inl has ↦ composite_connected w u v lower f g places sticks has
        | inr none ↦
            let prime : IsPrime rules f.pair.0 g.pair.0 places.place = proper sticks
            (λ composite. none (record { inner = composite.inner; is_rule = composite.is_rule; inside = composite.inside })) in
            common_connected order rules falling w u v f g (common_overlapping f g places
            (joined f.is_allowed.0 g.is_allowed.0 places.place f.pair g.pair o prime))
      ]

  -- m begins where l does, and is longer: l is contained in m
  mirrored_resolved : (i j place : ℕ) (first second : Pair) → OverlapOf rules i j place first second → place ≡ 0
      → length first.0 < length second.0 → IsResolved rules (critical_pair first second place)
  mirrored_resolved i j place first second o zero_place longer =
      let P : ℕ → Type 0 = λ n. OverlapOf rules i j n first second in
      let Q : ℕ → Type 0 = λ n. IsResolved rules (critical_pair first second n) in
      let other : OverlapOf rules j i 0 second first = mirrored (subst P zero_place o) (omega arith) in
      subst Q (sym zero_place) (mirrored_joined first second (joined j i 0 second first other (contained (omega arith))))

  overlapping_connected : (w u v : List ℕ) → PeaksTo (length w) → (f : Replaces (OneOf rules) w u) (g : Replaces (OneOf rules) w v)
      → (places : Within f.before f.pair.0 f.after g.before g.pair.0 g.after)
      → OverlapOf rules f.is_allowed.0 g.is_allowed.0 places.place f.pair g.pair → Connected below rules w u v
  overlapping_connected w u v lower f g places o =
      let l = f.pair.0 in let m = g.pair.0 in let p = places.place in
      let i = f.is_allowed.0 in let j = g.is_allowed.0 in
      let resolved : IsResolved rules (critical_pair f.pair g.pair p) → Connected below rules w u v = λ it.
      common_connected order rules falling w u v f g (common_overlapping f g places it) in
      elim (cases_lt (length l) (p + length m)) [
        | inl longer ↦ elim (cases_lt 0 p) [
          | inl later ↦ sticking_connected w u v lower f g places o (record { begins_later = later; ends_later = longer })
          | inr none ↦ resolved (mirrored_resolved i j p f.pair g.pair o (omega arith) (omega arith))
        ]
        | inr inside ↦ resolved (joined i j p f.pair g.pair o (contained inside))
      ]

  -- m begins within l: they overlap, or they are one rule at one place
  within_connected : (w u v : List ℕ) → PeaksTo (length w) → (f : Replaces (OneOf rules) w u) (g : Replaces (OneOf rules) w v)
      → Within f.before f.pair.0 f.after g.before g.pair.0 g.after → Connected below rules w u v
  within_connected w u v lower f g places =
      let i = f.is_allowed.0 in let j = g.is_allowed.0 in
      let overlapping : (i ≡ j → 0 < places.place) → Connected below rules w u v = λ distinct.
      overlapping_connected w u v lower f g places (record {
        is_first = f.is_allowed.1;
        is_second = g.is_allowed.1;
        overlaps = places.overlaps;
        proper = distinct;
      }) in
      elim (cases_lt 0 places.place) [
        | inl later ↦ overlapping (λ _. later)
        | inr none ↦ elim (cases_eq i j) [
          | inl same ↦ path_equal u v (same_within rules f g places (omega arith) (one_rule rules i j f.pair g.pair f.is_allowed.1 g.is_allowed.1 same))
          | inr different ↦ overlapping (λ same. absurd (different same))
        ]
      ]

  ordered_connected : (w u v : List ℕ) → PeaksTo (length w) → (f : Replaces (OneOf rules) w u) (g : Replaces (OneOf rules) w v)
      → length f.before ≤ length g.before → Connected below rules w u v
  ordered_connected w u v lower f g low =
      elim (cases_occurrences f.before f.pair.0 f.after g.before g.pair.0 g.after (sym f.from ∙ g.from) low) [
        | inl places ↦ common_connected order rules falling w u v f g (common_apart f g places)
        | inr places ↦ within_connected w u v lower f g places
      ]

  peak_connected : (w u v : List ℕ) → PeaksTo (length w) → Replaces (OneOf rules) w u → Replaces (OneOf rules) w v → Connected below rules w u v
  peak_connected w u v lower f g =
      elim (cases_lt (length g.before) (length f.before)) [
        | inl later ↦ connected_symmetric order rules falling w v u (ordered_connected w v u lower g f (omega arith))
        | inr low ↦ ordered_connected w u v lower f g low
      ]

  peaks_to : (n : ℕ) → PeaksTo n
  peaks_to zero w u v short f g = absurd (omega arith)
  peaks_to (suc n) w u v short f g =
      peak_connected w u v (λ w' u' v' shorter. peaks_to n w' u' v' (omega arith)) f g

  -- words that are one replacement away from a word are connected below it
  pub peaks_connected : PeaksAreConnected below rules
  peaks_connected w u v f g = peak_connected w u v (peaks_to (length w)) f g

  -- a word has one irreducible reduct at most
  pub one_normal_form : (w : List ℕ) → HasOneEnd rules w
  one_normal_form w = one_end order rules falling peaks_connected w

  resolved_by_one_end : (w : List ℕ) (pair : Pair) → Replaces (OneOf rules) w pair.0 → Replaces (OneOf rules) w pair.1 → IsResolved rules pair
  resolved_by_one_end w pair f g =
      let left = normal_form_exists order rules falling pair.0 in
      let right = normal_form_exists order rules falling pair.1 in
      let same : right.0 ≡ left.0 = one_normal_form w right.0 left.0 (path_step g (normal_form_reduct right.1))
      (path_step f (normal_form_reduct left.1)) right.1.irreducible left.1.irreducible in
      let P : List ℕ → Type 0 = λ m. NormalForm rules pair.1 m in
      record { joint = left.0; left = left.1; right = subst P same right.1 }

  -- the critical pair of each overlap is joined
  pub primes_suffice : IsConfluent rules
  primes_suffice i j place first second o =
      let one : (pair : Pair) → pair ≡ first → OneOf rules pair = λ pair e.
      let P : Pair → Type 0 = OneOf rules in subst P (sym e) (i, o.is_first) in
      let other : (pair : Pair) → pair ≡ second → OneOf rules pair = λ pair e.
      let P : Pair → Type 0 = OneOf rules in subst P (sym e) (j, o.is_second) in
      resolved_by_one_end (superposition first.0 second.0 place) (critical_pair first second place)
      (Replaces-implied one (replaced-by-first first second place o.overlaps))
      (Replaces-implied other (replaced-by-second first second place o.overlaps))
