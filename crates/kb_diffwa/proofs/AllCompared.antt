-- How the words of one difference compare as they go on: each as it does by itself.
use Rattle.std.proofs.Common.{◌≡◌, ◌≢◌, ℕ, ◌+◌, ◌<◌, nat_eq, nat_lt, Bool, true, false, not, ◌&&◌, ◌||◌, Some, None, get_or, refl, sym, ap, ◌∙◌, subst, inl, inr, arith}
use Rattle.std.proofs.lemmas.Bool.{and_from, and_parts, cases_eq, cases_lt, eq-eqb, eqb-true, false≢true, le-ltb, lt-ltb, ltb-true, ne_eqb, or_cases, or_left, or_right}
use Rattle.std.proofs.lemmas.Option.{none-some, same_Some}
use Rattle.kb_diffwa.specs.Comparing.{Comparison, Ended, Equal, Greater, Less, compared, compared_by}
use Rattle.kb_diffwa.specs.declared.comparisons.Comparisons.{Comparisons}
use Rattle.kb_diffwa.specs.RivalSets.{all_compared, includes, is_none, joined, no_comparisons, outcome_place, outcomes}
use Rattle.kb_diffwa.proofs.ComparisonRuns.{by_greater, by_lesser, by_same, padding_ends}

-- ---- none, and those of both

pub none_included : (c : Comparison) → ¬ (includes no_comparisons c ≡ true)
none_included Equal among = false≢true among
none_included Less among = false≢true among
none_included Greater among = false≢true among
none_included Ended among = false≢true among

pub included_joined : (one other : Comparisons) (c : Comparison)
    → includes (joined one other) c ≡ (includes one c || includes other c)
included_joined one other Equal = refl
included_joined one other Less = refl
included_joined one other Greater = refl
included_joined one other Ended = refl

-- ---- some comparison

any_of : Comparisons → Bool
any_of f = f.equal || (f.less || (f.greater || f.ended))

not_not : (b : Bool) → not (not b) ≡ b
not_not true = refl
not_not false = refl

some_included : (f : Comparisons) → not (is_none f) ≡ true → (c : Comparison) × (includes f c ≡ true)
some_included f some =
    let any = sym (not_not (f.equal || (f.less || (f.greater || f.ended)))) ∙ some in
    elim (or_cases f.equal (f.less || (f.greater || f.ended)) any) [
      | inl equal ↦ (Equal, equal)
      | inr later ↦ elim (or_cases f.less (f.greater || f.ended) later) [
        | inl less ↦ (Less, less)
        | inr last ↦ elim (or_cases f.greater f.ended last) [
          | inl greater ↦ (Greater, greater)
          | inr ended ↦ (Ended, ended)
        ]
      ]
    ]

pub some_from : (f : Comparisons) (c : Comparison) → includes f c ≡ true → not (is_none f) ≡ true
some_from f c among = not_not (f.equal || (f.less || (f.greater || f.ended))) ∙ by c among
  where
    by : (c : Comparison) → includes f c ≡ true → (f.equal || (f.less || (f.greater || f.ended))) ≡ true
    by Equal among = or_left f.equal (f.less || (f.greater || f.ended)) among
    by Less among = or_right f.equal (f.less || (f.greater || f.ended)) (or_left f.less (f.greater || f.ended) among)
    by Greater among =
        or_right f.equal (f.less || (f.greater || f.ended))
        (or_right f.less (f.greater || f.ended) (or_left f.greater f.ended among))
    by Ended among =
        or_right f.equal (f.less || (f.greater || f.ended))
        (or_right f.less (f.greater || f.ended) (or_right f.greater f.ended among))

-- ---- by one letter of the suffix

-- a comparison that leads to the later one
pub record ComesFrom (n : ℕ) (f : Comparisons) (a b : ℕ) (later : Comparison) : Type 0 where
  pub earlier : Comparison
  pub among : includes f earlier ≡ true
  pub leads : compared n earlier a b ≡ Some later

module _ (n : ℕ) (f : Comparisons) (a b : ℕ) where
  padded : Comparisons
  padded = record { equal = false; less = false; greater = false; ended = not (is_none f) }

  lettered : Comparisons
  lettered = record {
    equal = f.equal && nat_eq b a;
    less = f.less || (f.equal && nat_lt b a);
    greater = f.greater || (f.equal && nat_lt a b);
    ended = false;
  }

  by_padding : b ≡ n + 1 → all_compared n f a b ≡ padded
  unfolding padded
  by_padding pads = rw (eq-eqb b (n + 1) pads) refl

  by_letter : b ≢ n + 1 → all_compared n f a b ≡ lettered
  unfolding lettered
  by_letter differ = rw (ne_eqb b (n + 1) differ) refl

  ends : (c : Comparison) → b ≡ n + 1 → compared n c a b ≡ Some Ended
  ends c pads = ap (compared n c a) pads ∙ padding_ends n a c

  equal_on : b ≢ n + 1 → compared n Equal a b ≡ Some (compared_by a b)
  equal_on differ = rw (ne_eqb b (n + 1) differ) refl

  less_on : b ≢ n + 1 → compared n Less a b ≡ Some Less
  less_on differ = rw (ne_eqb b (n + 1) differ) refl

  greater_on : b ≢ n + 1 → compared n Greater a b ≡ Some Greater
  greater_on differ = rw (ne_eqb b (n + 1) differ) refl

  ended_none : b ≢ n + 1 → compared n Ended a b ≡ None
  ended_none differ = rw (ne_eqb b (n + 1) differ) refl

  from_padded : (later : Comparison) → b ≡ n + 1 → includes padded later ≡ true → ComesFrom n f a b later
  unfolding padded
  from_padded Equal pads among = absurd (false≢true among)
  from_padded Less pads among = absurd (false≢true among)
  from_padded Greater pads among = absurd (false≢true among)
  from_padded Ended pads among =
      let some = some_included f among in record { earlier = some.0; among = some.1; leads = ends some.0 pads }

  from_lettered : (later : Comparison) → b ≢ n + 1 → includes lettered later ≡ true → ComesFrom n f a b later
  unfolding lettered
  from_lettered Equal differ among =
      let parts = and_parts f.equal (nat_eq b a) among in record {
        earlier = Equal;
        among = parts.0;
        leads = equal_on differ ∙ ap (λ (c : Comparison). Some c) (by_same a b (eqb-true b a parts.1));
      }
  from_lettered Less differ among = elim (or_cases f.less (f.equal && nat_lt b a) among) [
    | inl before ↦ record { earlier = Less; among = before; leads = less_on differ }
    | inr now ↦
        let parts = and_parts f.equal (nat_lt b a) now in record {
          earlier = Equal;
          among = parts.0;
          leads = equal_on differ ∙ ap (λ (c : Comparison). Some c) (by_lesser a b (ltb-true b a parts.1));
        }
  ]
  from_lettered Greater differ among = elim (or_cases f.greater (f.equal && nat_lt a b) among) [
    | inl before ↦ record { earlier = Greater; among = before; leads = greater_on differ }
    | inr now ↦
        let parts = and_parts f.equal (nat_lt a b) now in record {
          earlier = Equal;
          among = parts.0;
          leads = equal_on differ ∙ ap (λ (c : Comparison). Some c) (by_greater a b (ltb-true a b parts.1));
        }
  ]
  from_lettered Ended differ among = absurd (false≢true among)

  pub comes_from : (later : Comparison) → includes (all_compared n f a b) later ≡ true → ComesFrom n f a b later
  comes_from later among =
      let P : Comparisons → Type 0 = λ g. includes g later ≡ true in
      elim (cases_eq b (n + 1)) [
        | inl pads ↦ from_padded later pads (subst P (by_padding pads) among)
        | inr differ ↦ from_lettered later differ (subst P (by_letter differ) among)
      ]

  -- ---- and where it leads

  to_padded : (earlier later : Comparison) → b ≡ n + 1 → includes f earlier ≡ true → compared n earlier a b ≡ Some later
      → includes padded later ≡ true
  unfolding padded
  to_padded earlier later pads among leads =
      let is : Ended ≡ later = same_Some Ended later (sym (ends earlier pads) ∙ leads) in
      let P : Comparison → Type 0 = λ c. includes padded c ≡ true in
      subst P is (some_from f earlier among)

  equal_to : f.equal ≡ true → includes lettered (compared_by a b) ≡ true
  unfolding lettered
  equal_to among =
      let P : Comparison → Type 0 = λ c. includes lettered c ≡ true in
      elim (cases_eq b a) [
        | inl same ↦ subst P (sym (by_same a b same)) (and_from f.equal (nat_eq b a) among (eq-eqb b a same))
        | inr apart ↦ elim (cases_lt b a) [
          | inl lesser ↦
              subst P (sym (by_lesser a b lesser))
              (or_right f.less (f.equal && nat_lt b a) (and_from f.equal (nat_lt b a) among (lt-ltb b a lesser)))
          | inr more ↦
              let above : a < b = omega (arith, apart, more) in
              subst P (sym (by_greater a b above))
              (or_right f.greater (f.equal && nat_lt a b) (and_from f.equal (nat_lt a b) among (lt-ltb a b above)))
        ]
      ]

  to_lettered : (earlier later : Comparison) → b ≢ n + 1 → includes f earlier ≡ true → compared n earlier a b ≡ Some later
      → includes lettered later ≡ true
  unfolding lettered
  to_lettered Equal later differ among leads =
      let is : compared_by a b ≡ later = same_Some (compared_by a b) later (sym (equal_on differ) ∙ leads) in
      let P : Comparison → Type 0 = λ c. includes lettered c ≡ true in
      subst P is (equal_to among)
  to_lettered Less later differ among leads =
      let is : Less ≡ later = same_Some Less later (sym (less_on differ) ∙ leads) in
      let P : Comparison → Type 0 = λ c. includes lettered c ≡ true in
      subst P is (or_left f.less (f.equal && nat_lt b a) among)
  to_lettered Greater later differ among leads =
      let is : Greater ≡ later = same_Some Greater later (sym (greater_on differ) ∙ leads) in
      let P : Comparison → Type 0 = λ c. includes lettered c ≡ true in
      subst P is (or_left f.greater (f.equal && nat_lt a b) among)
  to_lettered Ended later differ among leads = absurd (none-some later (sym (ended_none differ) ∙ leads))

  pub leads_to : (earlier later : Comparison) → includes f earlier ≡ true → compared n earlier a b ≡ Some later
      → includes (all_compared n f a b) later ≡ true
  leads_to earlier later among leads =
      let P : Comparisons → Type 0 = λ g. includes g later ≡ true in
      elim (cases_eq b (n + 1)) [
        | inl pads ↦ subst P (sym (by_padding pads)) (to_padded earlier later pads among leads)
        | inr differ ↦ subst P (sym (by_letter differ)) (to_lettered earlier later differ among leads)
      ]

-- ---- the table of outcomes

or_false : (b : Bool) → (b || false) ≡ b
or_false true = refl
or_false false = refl

and_true : (b : Bool) → (b && true) ≡ b
and_true true = refl
and_true false = refl

and_false : (b : Bool) → (b && false) ≡ false
and_false true = refl
and_false false = refl

four : Bool → Bool → Bool → Bool → Comparisons
four equal less greater ended = record { equal = equal; less = less; greater = greater; ended = ended }

-- by how b stands to a
by_order : (f : Comparisons) (same lesser more : Bool) → Comparisons
by_order f same lesser more =
    four (f.equal && same) (f.less || (f.equal && lesser)) (f.greater || (f.equal && more)) false

order_same : (f : Comparisons) → by_order f true false false ≡ four f.equal f.less f.greater false
unfolding by_order
order_same f =
    ap (λ x. four x (f.less || (f.equal && false)) (f.greater || (f.equal && false)) false) (and_true f.equal)
    ∙ ap (λ x. four f.equal (f.less || x) (f.greater || x) false) (and_false f.equal)
    ∙ ap (λ x. four f.equal x (f.greater || false) false) (or_false f.less)
    ∙ ap (λ x. four f.equal f.less x false) (or_false f.greater)

order_lesser : (f : Comparisons) → by_order f false true false ≡ four false (f.less || f.equal) f.greater false
unfolding by_order
order_lesser f =
    ap (λ x. four x (f.less || (f.equal && true)) (f.greater || x) false) (and_false f.equal)
    ∙ ap (λ x. four false (f.less || x) (f.greater || false) false) (and_true f.equal)
    ∙ ap (λ x. four false (f.less || f.equal) x false) (or_false f.greater)

order_more : (f : Comparisons) → by_order f false false true ≡ four false f.less (f.greater || f.equal) false
unfolding by_order
order_more f =
    ap (λ x. four x (f.less || x) (f.greater || (f.equal && true)) false) (and_false f.equal)
    ∙ ap (λ x. four false (f.less || false) (f.greater || x) false) (and_true f.equal)
    ∙ ap (λ x. four false x (f.greater || f.equal) false) (or_false f.less)

pub outcome_at : (n : ℕ) (f : Comparisons) (a b : ℕ) (d : Comparisons)
    → get_or (outcomes f) (outcome_place n a b) d ≡ all_compared n f a b
unfolding by_order four
outcome_at n f a b d = elim (cases_eq b (n + 1)) [
  | inl pads ↦ rw (eq-eqb b (n + 1) pads) refl
  | inr letter ↦ elim (cases_eq b a) [
    | inl same ↦
        rw (ne_eqb b (n + 1) letter, eq-eqb b a same, le-ltb b a (omega arith), le-ltb a b (omega arith)) (sym (order_same f))
    | inr apart ↦ elim (cases_lt b a) [
      | inl lesser ↦
          rw (ne_eqb b (n + 1) letter, ne_eqb b a apart, lt-ltb b a lesser, le-ltb a b (omega arith)) (sym (order_lesser f))
      | inr more ↦
          rw (ne_eqb b (n + 1) letter, ne_eqb b a apart, le-ltb b a more, lt-ltb a b (omega (arith, apart, more)))
          (sym (order_more f))
    ]
  ]
]

pub outcome_within : (n a b : ℕ) → outcome_place n a b < 4
outcome_within n a b = elim (cases_eq b (n + 1)) [
  | inl pads ↦ rw (eq-eqb b (n + 1) pads) (omega arith)
  | inr letter ↦ elim (cases_lt b a) [
    | inl lesser ↦ rw (ne_eqb b (n + 1) letter, lt-ltb b a lesser) (omega arith)
    | inr more ↦ elim (cases_eq b a) [
      | inl same ↦ rw (ne_eqb b (n + 1) letter, le-ltb b a more, eq-eqb b a same) (omega arith)
      | inr apart ↦ rw (ne_eqb b (n + 1) letter, le-ltb b a more, ne_eqb b a apart) (omega arith)
    ]
  ]
]

-- ---- comparisons are told apart by what they include

made : Bool → Bool → Bool → Bool → Comparisons
made equal less greater ended = record { equal = equal; less = less; greater = greater; ended = ended }

same_bit : (x y : Bool) → (x ≡ true → y ≡ true) → (y ≡ true → x ≡ true) → x ≡ y
same_bit true y forth back = sym (forth refl)
same_bit false true forth back = back refl
same_bit false false forth back = refl

pub same_comparisons_of : (one other : Comparisons) → ((c : Comparison) → includes one c ≡ true → includes other c ≡ true)
    → ((c : Comparison) → includes other c ≡ true → includes one c ≡ true) → one ≡ other
unfolding made
same_comparisons_of one other forth back =
    ap (λ x. made x one.less one.greater one.ended) (same_bit one.equal other.equal (forth Equal) (back Equal))
    ∙ ap (λ x. made other.equal x one.greater one.ended) (same_bit one.less other.less (forth Less) (back Less))
    ∙ ap (λ x. made other.equal other.less x one.ended) (same_bit one.greater other.greater (forth Greater) (back Greater))
    ∙ ap (λ x. made other.equal other.less other.greater x) (same_bit one.ended other.ended (forth Ended) (back Ended))
