-- Relations are oriented in one way, by any reduction order.
use Rattle.std.proofs.Common.{◌≡◌, ◌∙◌, ◌⊎◌, inl, inr, ℕ, List, [], ◌∷◌, ◌++◌, refl, sym, ap₂, subst}
use Rattle.kb_word.specs.Order.{IsReductionOrder}
use Rattle.kb_word.specs.Words.{Pair, OneOf}
use Rattle.kb_word.specs.Relations.{IsOrientation, Orients, none_left, equal_sides, repeated, added}

module _ {below : List ℕ → List ℕ → Type 0} (order : IsReductionOrder below) where
  -- one orientation at most
  pub one_orientation : (pair one other : Pair) → IsOrientation below pair one
      → IsOrientation below pair other
      → one ≡ other
  one_orientation pair one other a b = elim a.1 [
    | inl as_is ↦ elim b.1 [
      | inl too ↦ as_is ∙ sym too
      | inr turned ↦
          let less = subst (λ (p : Pair). below p.1 p.0) as_is a.0 in
          let more = subst (λ (p : Pair). below p.1 p.0) turned b.0 in
          absurd (order.irreflexive pair.0 (order.transitive pair.0 pair.1 pair.0 more less))
    ]
    | inr turned ↦ elim b.1 [
      | inl as_is ↦
          let more = subst (λ (p : Pair). below p.1 p.0) turned a.0 in
          let less = subst (λ (p : Pair). below p.1 p.0) as_is b.0 in
          absurd (order.irreflexive pair.0 (order.transitive pair.0 pair.1 pair.0 more less))
      | inr too ↦ turned ∙ sym too
    ]
  ]

  -- equal sides have no orientation
  pub equal_not_oriented : (side : List ℕ) (rule : Pair) → ¬ IsOrientation below (side, side) rule
  equal_not_oriented side rule is = elim is.1 [
    | inl as_is ↦ order.irreflexive side (subst (λ (p : Pair). below p.1 p.0) as_is is.0)
    | inr turned ↦ order.irreflexive side (subst (λ (p : Pair). below p.1 p.0) turned is.0)
  ]

  -- what a list of relations was oriented by, from its first relation on
  abbrev pub Inverted : List Pair → List Pair → List Pair → Type 0
  Inverted standing [] rules = rules ≡ []
  Inverted standing (pair ∷ rest) rules = ((pair.0 ≡ pair.1) × Orients below standing rest rules)
      ⊎ (((rule : Pair) × IsOrientation below pair rule × OneOf standing rule
      × Orients below standing rest rules)
      ⊎ ((rule : Pair) × (more : List Pair) × IsOrientation below pair rule
      × (¬ OneOf standing rule)
      × Orients below (standing ++ rule ∷ []) rest more × (rules ≡ rule ∷ more)))

  inverted : {standing relations rules : List Pair} → Orients below standing relations rules
      → Inverted standing relations rules
  inverted none_left = refl
  inverted (equal_sides h) = inl (refl, h)
  inverted (repeated {rule = rule} is stands h) = inr (inl (rule, is, stands, h))
  inverted (added {rules = rules} {rule = rule} is fresh h) =
      inr (inr (rule, rules, is, fresh, h, refl))

  not_equal : (pair rule : Pair) → pair.0 ≡ pair.1 → ¬ IsOrientation below pair rule
  not_equal pair rule same is =
      equal_not_oriented pair.0 rule
      (subst (λ r. IsOrientation below (pair.0, r) rule) (sym same) is)

  -- relations are oriented in one way
  pub one_orienting : (standing relations one other : List Pair)
      → Orients below standing relations one
      → Orients below standing relations other → one ≡ other
  one_orienting standing [] one other a b = inverted a ∙ sym (inverted b)
  one_orienting standing (pair ∷ rest) one other a b =
      by_cases (λ s u v g h. one_orienting s rest u v g h) (inverted a) (inverted b)
    where
      by_cases : ((s u v : List Pair) → Orients below s rest u → Orients below s rest v → u ≡ v)
          → Inverted standing (pair ∷ rest) one → Inverted standing (pair ∷ rest) other
          → one ≡ other
      by_cases again (inl g) (inl h) = again standing one other g.1 h.1
      by_cases again (inl g) (inr (inl h)) = absurd (not_equal pair h.0 g.0 h.1)
      by_cases again (inl g) (inr (inr h)) = absurd (not_equal pair h.0 g.0 h.2)
      by_cases again (inr (inl g)) (inl h) = absurd (not_equal pair g.0 h.0 g.1)
      by_cases again (inr (inl g)) (inr (inl h)) = again standing one other g.3 h.3
      by_cases again (inr (inl g)) (inr (inr h)) =
          let same = one_orientation pair g.0 h.0 g.1 h.2 in
          absurd (h.3 (subst (OneOf standing) same g.2))
      by_cases again (inr (inr g)) (inl h) = absurd (not_equal pair g.0 h.0 g.2)
      by_cases again (inr (inr g)) (inr (inl h)) =
          let same = one_orientation pair h.0 g.0 h.1 g.2 in
          absurd (g.3 (subst (OneOf standing) same h.2))
      by_cases again (inr (inr g)) (inr (inr h)) =
          let same = one_orientation pair g.0 h.0 g.2 h.2 in
          let rest_same =
          again (standing ++ h.0 ∷ []) g.1 h.1
          (subst (λ r. Orients below (standing ++ r ∷ []) rest g.1) same g.4) h.4 in
          g.5 ∙ (ap₂ (λ r l. r ∷ l) same rest_same ∙ sym h.5)
