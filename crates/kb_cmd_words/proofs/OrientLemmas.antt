-- Orienting relations one after another.
use Rattle.std.proofs.Common.{◌≡◌, ◌∙◌, ℕ, zero, suc, inl, inr, Bool, true, false, true≢false, if◌then◌else◌, nat_eq, List, [], ◌∷◌, ◌++◌, refl, sym, ap, subst, length, Some, append_assoc, arith}
use Rattle.std.specs.Cmp.Lexicographic.{pointwise}
use Rattle.std.specs.List.{list_any}
use Rattle.std.proofs.lemmas.Bool.{and_parts}
use Rattle.std.proofs.lemmas.Map.Views.{list_any-from_Contains, Contains-from_any}
use Rattle.std.proofs.lemmas.Option.{slice_get_read, slice_get_within, get_or_from_slice_get}
use Rattle.indexmap.specs.IndexSet.{insert_key}
use Rattle.kb_word.specs.Comparison.{same_from_pointwise}
use Rattle.kb_rules.specs.Sides.{same_sides, same_sides_equiv}
use Rattle.kb_word.proofs.PathLemmas.{congruent_reflexive, congruent_symmetric, congruent_sides, congruent_implied}
use Rattle.std.proofs.lemmas.List.{append-nil}
use Rattle.kb_word.specs.Words.{Pair, OneOf}
use Rattle.kb_word.specs.Congruence.{Congruent, SameCongruence}
use Rattle.kb_word.specs.Rewriting.{AreDecreasing}
use Rattle.kb_word.specs.Relations.{IsOrientation, Orients, AreOriented, none_left, equal_sides, repeated, added}
use Rattle.kb_cmd_words.proofs.ValueLemmas.{not_both, same_value}

-- the relations of a list are oriented, and then those of another beside the rules that they gave
pub Orients-append : {below : List ℕ → List ℕ → Type 0} {standing front rules rest more : List Pair} → Orients below standing front rules → Orients below (standing ++ rules) rest more
    → Orients below standing (front ++ rest) (rules ++ more)
Orients-append {below} {standing} {rest = rest} {more = more} none_left h = subst (λ l. Orients below l rest more) (append-nil standing) h
Orients-append (equal_sides g) h = equal_sides (Orients-append g h)
Orients-append (repeated is stands g) h = repeated is stands (Orients-append g h)
Orients-append {below} {standing} {rest = rest} {more = more} (added {rules = rules} {rule = rule} is fresh g) h =
    added is fresh (Orients-append g (subst (λ l. Orients below l rest more) (sym (append_assoc standing (rule ∷ []) rules)) h))

-- one relation more
pub oriented_more : {below : List ℕ → List ℕ → Type 0} (relations old more new : List Pair) (relation : Pair) → AreOriented below relations old
    → Orients below old (relation ∷ []) more → new ≡ old ++ more → AreOriented below (relations ++ relation ∷ []) new
oriented_more {below} relations old more new relation so_far one is = subst (AreOriented below (relations ++ relation ∷ [])) (sym is) (Orients-append so_far one)

-- what one relation adds
pub adds_nothing : {below : List ℕ → List ℕ → Type 0} (old : List Pair) (left right : List ℕ) → left ≡ right → Orients below old ((left, right) ∷ []) []
adds_nothing {below} old left right same = subst (λ r. Orients below old ((left, r) ∷ []) []) same (equal_sides none_left)

pub adds_no_repeat : {below : List ℕ → List ℕ → Type 0} (old : List Pair) (relation rule : Pair) → IsOrientation below relation rule → OneOf old rule → Orients below old (relation ∷ []) []
adds_no_repeat old relation rule is stands = repeated is stands none_left

pub adds_rule : {below : List ℕ → List ℕ → Type 0} (old : List Pair) (relation rule : Pair) → IsOrientation below relation rule → ¬ OneOf old rule → Orients below old (relation ∷ []) (rule ∷ [])
adds_rule old relation rule is fresh = added is fresh none_left

-- rules whose sides are the same are equal
same_rule : (one other : Pair) → same_sides one other ≡ true → one ≡ other
same_rule one other e =
    let parts = and_parts (pointwise nat_eq one.0 other.0) (pointwise nat_eq one.1 other.1) e in
    let left : one.0 ≡ other.0 = same_from_pointwise one.0 other.0 parts.0 in
    let right : one.1 ≡ other.1 = same_from_pointwise one.1 other.1 parts.1 in
    λ j. (left j, right j)

-- a rule is one of the keys exactly where the look-up finds it
found_is_one : (keys : List Pair) (rule : Pair) → list_any (same_sides rule) keys ≡ true → OneOf keys rule
found_is_one keys rule found =
    let has = Contains-from_any same_rule rule keys found in
    (has.0, slice_get_read keys (length keys) has.0 rule refl has.1 (sym has.2))

one_is_found : (keys : List Pair) (rule : Pair) → OneOf keys rule → list_any (same_sides rule) keys ≡ true
one_is_found keys rule one = list_any-from_Contains same_sides_equiv rule keys
    (one.0, slice_get_within keys one.0 rule one.1, get_or_from_slice_get keys one.0 rule rule one.1)

-- what the insertion of a relation's rule adds
pub key_adds : {below : List ℕ → List ℕ → Type 0} (old new : List Pair) (relation rule : Pair) → IsOrientation below relation rule → new ≡ insert_key same_sides old rule
    → (added : List Pair) × Orients below old (relation ∷ []) added × (new ≡ old ++ added)
key_adds {below} old new relation rule is keys = by (list_any (same_sides rule) old) refl
  where
    by : (b : Bool) → list_any (same_sides rule) old ≡ b → (added : List Pair) × Orients below old (relation ∷ []) added × (new ≡ old ++ added)
    by true found = (
      [],
      adds_no_repeat old relation rule is (found_is_one old rule found),
      keys ∙ ap (λ b. if b then old else old ++ rule ∷ []) found ∙ sym (append-nil old),
    )
    by false missed = (
      rule ∷ [],
      adds_rule old relation rule is (λ one. true≢false (sym (one_is_found old rule one) ∙ missed)),
      keys ∙ ap (λ b. if b then old else old ++ rule ∷ []) missed,
    )

module _ {X : Type 0} where
  pub nothing_left : (xs : List X) → length xs ≡ 0 → xs ≡ []
  nothing_left [] e = refl
  nothing_left (x ∷ xs) e = absurd (omega arith)

-- ---- what the oriented relations are

-- each rule is less on the right
pub oriented_decrease : {below : List ℕ → List ℕ → Type 0} {standing relations rules : List Pair} → Orients below standing relations rules → AreDecreasing below rules
oriented_decrease none_left rule (index, is) = cc
oriented_decrease (equal_sides h) rule one = oriented_decrease h rule one
oriented_decrease (repeated is stands h) rule one = oriented_decrease h rule one
oriented_decrease {below} (added {rule = first} is fresh h) rule (zero, at) =
    let same : first ≡ rule = same_value (Some first) first rule refl at in
    subst (λ (p : Pair). below p.1 p.0) same is.0
oriented_decrease (added is fresh h) rule (suc index, at) = oriented_decrease h rule (index, at)

-- a rule stands at its place in a list
pub one_of_middle : (xs : List Pair) (x : Pair) (ys : List Pair) → OneOf (xs ++ x ∷ ys) x
one_of_middle [] x ys = (zero, refl)
one_of_middle (y ∷ xs) x ys = let one = one_of_middle xs x ys in (suc one.0, one.1)

-- ---- the congruence

-- what stands in a list stands in a longer one
pub one_of_front : (xs ys : List Pair) (pair : Pair) → OneOf xs pair → OneOf (xs ++ ys) pair
one_of_front [] ys pair (index, at) = absurd (not_both _ pair at refl)
one_of_front (x ∷ xs) ys pair (zero, at) = (zero, at)
one_of_front (x ∷ xs) ys pair (suc index, at) = let one = one_of_front xs ys pair (index, at) in (suc one.0, one.1)

-- a rule and the pair that it orients are congruent by each other
oriented_congruent : (below : List ℕ → List ℕ → Type 0) {allowed : Pair → Type 0} (pair rule : Pair) → IsOrientation below pair rule → Congruent allowed pair.0 pair.1 → Congruent allowed rule.0 rule.1
oriented_congruent below {allowed} pair rule is h = elim is.1 [
  | inl as_is ↦ subst (λ (p : Pair). Congruent allowed p.0 p.1) (sym as_is) h
  | inr turned ↦ subst (λ (p : Pair). Congruent allowed p.0 p.1) (sym turned) (congruent_symmetric h)
]

pair_congruent : (below : List ℕ → List ℕ → Type 0) {allowed : Pair → Type 0} (pair rule : Pair) → IsOrientation below pair rule → Congruent allowed rule.0 rule.1 → Congruent allowed pair.0 pair.1
pair_congruent below {allowed} pair rule is h = elim is.1 [
  | inl as_is ↦ subst (λ (p : Pair). Congruent allowed p.0 p.1) as_is h
  | inr turned ↦ congruent_symmetric (subst (λ (p : Pair). Congruent allowed p.0 p.1) turned h)
]

one_more : (first : Pair) (rest : List Pair) (u v : List ℕ) → Congruent (OneOf rest) u v → Congruent (OneOf (first ∷ rest)) u v
one_more first rest u v h = congruent_implied (λ pair one. (suc one.0, one.1)) h

moved : (pairs : List Pair) (a b : Pair) → a ≡ b → Congruent (OneOf pairs) a.0 a.1 → Congruent (OneOf pairs) b.0 b.1
moved pairs a b same h = subst (λ (p : Pair). Congruent (OneOf pairs) p.0 p.1) same h

-- each rule is congruent by the relations
pub rules_covered : {below : List ℕ → List ℕ → Type 0} {standing relations rules : List Pair} → Orients below standing relations rules
    → (rule : Pair) → OneOf rules rule → Congruent (OneOf relations) rule.0 rule.1
rules_covered none_left rule one = absurd (not_both _ rule one.1 refl)
rules_covered (equal_sides h) rule one = one_more _ _ rule.0 rule.1 (rules_covered h rule one)
rules_covered (repeated is stands h) rule one = one_more _ _ rule.0 rule.1 (rules_covered h rule one)
rules_covered {below} (added {rest = rest} {pair = pair} {rule = first} is fresh h) rule (zero, at) =
    let same : first ≡ rule = same_value (Some first) first rule refl at in
    let here : OneOf (pair ∷ rest) pair = (zero, refl) in
    moved (pair ∷ rest) first rule same (oriented_congruent below pair first is (congruent_sides pair here))
rules_covered (added is fresh h) rule (suc index, at) = one_more _ _ rule.0 rule.1 (rules_covered h rule (index, at))

-- each relation is congruent by the rules
pub relations_covered : {below : List ℕ → List ℕ → Type 0} {standing relations rules : List Pair} → Orients below standing relations rules
    → (pair : Pair) → OneOf relations pair → Congruent (OneOf (standing ++ rules)) pair.0 pair.1
relations_covered none_left pair one = absurd (not_both _ pair one.1 refl)
relations_covered {below} {standing} {rules = rules} (equal_sides {side = side} h) pair (zero, at) =
    let same : (side, side) ≡ pair = same_value (Some (side, side)) (side, side) pair refl at in
    moved (standing ++ rules) (side, side) pair same (congruent_reflexive side)
relations_covered (equal_sides h) pair (suc index, at) = relations_covered h pair (index, at)
relations_covered {below} {standing} {rules = rules} (repeated {pair = first} {rule = rule} is stands h) pair (zero, at) =
    let same : first ≡ pair = same_value (Some first) first pair refl at in
    moved (standing ++ rules) first pair same (pair_congruent below first rule is (congruent_sides rule (one_of_front standing rules rule stands)))
relations_covered (repeated is stands h) pair (suc index, at) = relations_covered h pair (index, at)
relations_covered {below} {standing} (added {rules = rules} {pair = first} {rule = rule} is fresh h) pair (zero, at) =
    let same : first ≡ pair = same_value (Some first) first pair refl at in
    moved (standing ++ rule ∷ rules) first pair same (pair_congruent below first rule is (congruent_sides rule (one_of_middle standing rule rules)))
relations_covered {below} {standing} (added {rules = rules} {rule = rule} is fresh h) pair (suc index, at) =
    subst (λ l. Congruent (OneOf l) pair.0 pair.1) (append_assoc standing (rule ∷ []) rules) (relations_covered h pair (index, at))

pub oriented_congruence : {below : List ℕ → List ℕ → Type 0} (relations rules : List Pair) → AreOriented below relations rules → SameCongruence rules relations
oriented_congruence relations rules h = record {
  covered = rules_covered h;
  covers = relations_covered h;
}
