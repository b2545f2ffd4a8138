-- The minimal rules that are found among confluent rules are those of the reduced system.
use Rattle.std.proofs.Common.{◌≡◌, ◌↔◌, ℕ, zero, suc, ◌+◌, ◌-◌, ◌<◌, Bool, IsTrue, List, [], ◌∷◌, ◌++◌, length, take, drop, Some, refl, sym, ap, ◌∙◌, subst, inl, inr, arith}
use Rattle.std.specs.Prelude.{slice_get}
use Rattle.std.proofs.lemmas.Bool.{cases_lt}
use Rattle.std.proofs.lemmas.Option.{same_Some, slice_get_within}
use Rattle.kb_word.specs.Words.{Pair, OneOf}
use Rattle.kb_word.specs.Order.{IsReductionOrder}
use Rattle.kb_word.specs.WordOrders.{Below}
use Rattle.kb_word.specs.WordOrderLaws.{word_orders}
use Rattle.kb_word.specs.declared.word_order.WordOrder.{WordOrder}
use Rattle.kb_word.specs.Rewriting.{AreDecreasing, IsIrreducible, NormalForm}
use Rattle.kb_word.specs.Overlap.{IsConfluent}
use Rattle.kb_word.proofs.PathLemmas.{congruent_sides}
use Rattle.kb_rules.proofs.Exists.{normal_form_exists, cases_reducible}
use Rattle.kb_rules.proofs.Exists.Reading.{rewritten, read}
use Rattle.kb_rules.proofs.Listed.{cases_push}
use Rattle.kb_rules.proofs.Unique.{normal_form_unique, normal_form_of_irreducible}
use Rattle.kb_reduced.specs.Minimal.{PartsAreIrreducible, IsMinimal, AddsMinimal, HasMinimal, HaveOneRightSide, IsSortedFrom}
use Rattle.kb_reduced.specs.Minimal.AddsMinimal.{added, left_out}
use Rattle.kb_reduced.specs.Reduced.{IsLeastWord, IsReducedRule, IsReducedComplete}
use Rattle.kb_reduced.proofs.Factors.{whole_word}
use Rattle.kb_reduced.proofs.Sorted.{pair_same}
use Rattle.kb_reduced.proofs.Least.{one_least, least_irreducible, normal_least, irreducible_least}

-- a word is irreducible exactly where it is its own normal form
pub own_normal_form : (rules : List Pair) (letters word m : List ℕ) (b : Bool) → word ≡ letters → NormalForm rules word m
    → IsTrue b ↔ (m ≡ word) → IsTrue b ↔ IsIrreducible (OneOf rules) letters
own_normal_form rules letters word m b same normal answer =
    let P : List ℕ → Type 0 = λ w. IsIrreducible (OneOf rules) w in (
      λ own. subst P (answer.0 own ∙ same) normal.irreducible,
      λ irreducible. answer.1 (normal_form_of_irreducible (subst P (sym same) irreducible) normal),
    )

-- the parts are irreducible where the first is and the second is
pub both_parts : (rules : List Pair) (w letters behind before : List ℕ) (first second : Bool) → letters ≡ w → behind ≡ drop 1 letters
    → before ≡ take (length letters - 1) letters → IsTrue first ↔ IsIrreducible (OneOf rules) behind → IsTrue first
    → IsTrue second ↔ IsIrreducible (OneOf rules) before → IsTrue second ↔ PartsAreIrreducible (OneOf rules) w
both_parts rules w letters behind before first second same behind_is before_is one holds other =
    let P : List ℕ → Type 0 = λ u. IsIrreducible (OneOf rules) u in
    let behind_first : behind ≡ drop 1 w = behind_is ∙ ap (drop 1) same in
    let before_last : before ≡ take (length w - 1) w = before_is ∙ ap (λ u. take (length u - 1) u) same in (
      λ last. record { behind_first = subst P behind_first (one.0 holds); before_last = subst P before_last (other.0 last) },
      λ parts. other.1 (subst P (sym before_last) parts.before_last),
    )

pub added_rule : (rules : List Pair) (left copied right : List ℕ) (rule : Pair) (before after : List Pair) (b : Bool)
    → IsTrue b ↔ PartsAreIrreducible (OneOf rules) left → IsTrue b → NormalForm rules left right → copied ≡ left
    → rule ≡ (copied, right) → after ≡ before ++ rule ∷ [] → AddsMinimal rules left before after
added_rule rules left copied right rule before after b answer holds normal same is pushed =
    added right (record { parts = answer.0 holds; normal = normal })
    (pushed ∙ ap (λ (p : Pair). before ++ p ∷ []) (is ∙ ap (λ w. (w, right)) same))

pub has_none : (rules : List Pair) → HasMinimal rules 0 []
has_none rules = record {
  each = λ rule one. absurd (no_element rule one.0 one.1);
  given = λ rule one. absurd (no_element rule one.0 one.1);
  all = λ index old rule less. absurd (let no : ⊥ = omega arith in no);
}
  where
    no_element : (rule : Pair) (k : ℕ) → slice_get [] k ≡ Some rule → ⊥
    no_element rule k is = let within : k < length {A = Pair} [] = slice_get_within [] k rule is in omega arith

-- what a list with one element more has
pub one_of_front : (pairs : List Pair) (last pair : Pair) (k : ℕ) → slice_get pairs k ≡ Some pair → slice_get (pairs ++ last ∷ []) k ≡ Some pair
one_of_front [] last pair k is = let within : k < length {A = Pair} [] = slice_get_within [] k pair is in absurd (let no : ⊥ = omega arith in no)
one_of_front (p ∷ pairs) last pair zero is = is
one_of_front (p ∷ pairs) last pair (suc k) is = one_of_front pairs last pair k is

pub one_of_last : (pairs : List Pair) (last : Pair) → OneOf (pairs ++ last ∷ []) last
one_of_last [] last = (0, refl)
one_of_last (p ∷ pairs) last = let later = one_of_last pairs last in (suc later.0, later.1)

-- an index of the first n + 1 is one of the first n, or the last
minimal_more : (rules : List Pair) (n : ℕ) (old : Pair) (before after : List Pair) → slice_get rules n ≡ Some old
    → ((rule : Pair) → OneOf before rule → OneOf after rule)
    → ((rule : Pair) → old.0 ≡ rule.0 → IsMinimal rules rule → OneOf after rule) → HasMinimal rules n before
    → (index : ℕ) (other rule : Pair) → index < n + 1 → slice_get rules index ≡ Some other → other.0 ≡ rule.0 → IsMinimal rules rule
    → OneOf after rule
minimal_more rules n old before after is_old more last has index other rule less is_other same minimal =
    elim (cases_lt index n) [
      | inl earlier ↦ more rule (has.all index other rule earlier is_other same minimal)
      | inr late ↦
          let at : index ≡ n = omega arith in
          let one : old ≡ other = same_Some old other (sym is_old ∙ ap (slice_get rules) (sym at) ∙ is_other) in
          last rule (ap (λ (p : Pair). p.0) one ∙ same) minimal
    ]

has_more_added : (rules : List Pair) (n : ℕ) (old : Pair) (before : List Pair) (right : List ℕ) → slice_get rules n ≡ Some old
    → IsMinimal rules (old.0, right) → HasMinimal rules n before → HasMinimal rules (n + 1) (before ++ (old.0, right) ∷ [])
has_more_added rules n old before right is_old minimal has = record {
  each = λ rule one. elim (cases_push before (old.0, right) rule one.0 one.1) [
    | inl earlier ↦ has.each rule earlier
    | inr same ↦ let P : Pair → Type 0 = λ p. IsMinimal rules p in subst P same minimal
  ];
  given = λ rule one. elim (cases_push before (old.0, right) rule one.0 one.1) [
    | inl earlier ↦ has.given rule earlier
    | inr same ↦
        let P : Pair → Type 0 = λ p. (old_right : List ℕ) × OneOf rules (p.0, old_right) in
        subst P same (old.1, (n, is_old))
  ];
  all = minimal_more rules n old before (before ++ (old.0, right) ∷ []) is_old
      (λ rule one. (one.0, one_of_front before (old.0, right) rule one.0 one.1))
      (λ rule same other.
      let e : right ≡ rule.1 =
      let P : List ℕ → Type 0 = λ w. NormalForm rules w right in normal_form_unique (subst P same minimal.normal) other.normal in
      let pair : (old.0, right) ≡ rule = pair_same (old.0, right) rule same e in
      let P : Pair → Type 0 = λ p. OneOf (before ++ (old.0, right) ∷ []) p in
      subst P pair (one_of_last before (old.0, right)))
      has;
}

has_more_left_out : (rules : List Pair) (n : ℕ) (old : Pair) (before : List Pair) → slice_get rules n ≡ Some old
    → (¬ PartsAreIrreducible (OneOf rules) old.0) → HasMinimal rules n before → HasMinimal rules (n + 1) before
has_more_left_out rules n old before is_old reducible has = record {
  each = has.each;
  given = has.given;
  all = minimal_more rules n old before before is_old (λ rule one. one)
      (λ rule same minimal.
      let P : List ℕ → Type 0 = λ w. PartsAreIrreducible (OneOf rules) w in
      absurd (reducible (subst P (sym same) minimal.parts)))
      has;
}

-- one left side more
pub has_more : (rules own : List Pair) (n : ℕ) (old : Pair) (before after : List Pair) → own ≡ rules
    → slice_get rules n ≡ Some old → AddsMinimal own old.0 before after → HasMinimal rules n before → HasMinimal rules (n + 1) after
has_more rules own n old before after by_rules is_old adds has =
    let P : List Pair → Type 0 = λ r. AddsMinimal r old.0 before after in
    let Q : List Pair → Type 0 = λ list. HasMinimal rules (n + 1) list in
    elim (subst P by_rules adds) [
      | added right minimal is ↦ subst Q (sym is) (has_more_added rules n old before right is_old minimal has)
      | left_out reducible is ↦ subst Q (sym is) (has_more_left_out rules n old before is_old reducible has)
    ]

-- minimal rules of one left side are one rule
pub one_right_side : (rules : List Pair) (n : ℕ) (minimal : List Pair) → HasMinimal rules n minimal → HaveOneRightSide minimal
one_right_side rules n minimal has one other is_one is_other same =
    let P : List ℕ → Type 0 = λ w. NormalForm rules w one.1 in
    let first = has.each one is_one in
    let second = has.each other is_other in
    let right : one.1 ≡ other.1 = normal_form_unique (subst P same first.normal) second.normal in
    pair_same one other same right

module _ {below : List ℕ → List ℕ → Type 0} (order : IsReductionOrder below) (rules : List Pair)
    (falling : AreDecreasing below rules) (confluent : IsConfluent rules) where
  -- a minimal rule with a given left side is one of the reduced system
  minimal_reduced : (rule : Pair) (old_right : List ℕ) → OneOf rules (rule.0, old_right) → IsMinimal rules rule
      → IsReducedRule below rules rule
  minimal_reduced rule old_right one minimal = record {
    not_least = λ least. least.least old_right (congruent_sides (rule.0, old_right) one) (falling (rule.0, old_right) one);
    behind_first = irreducible_least order rules falling confluent (drop 1 rule.0) minimal.parts.behind_first;
    before_last = irreducible_least order rules falling confluent (take (length rule.0 - 1) rule.0) minimal.parts.before_last;
    least = normal_least order rules falling confluent rule.0 rule.1 minimal.normal;
  }

  least_word_irreducible : (w : List ℕ) → IsLeastWord below rules w → IsIrreducible (OneOf rules) w
  least_word_irreducible w least = least_irreducible order rules falling (λ rule one. congruent_sides rule one) w least

  -- a rule of the reduced system is minimal
  reduced_minimal : (rule : Pair) → IsReducedRule below rules rule → IsMinimal rules rule
  reduced_minimal rule is =
      let normal = normal_form_exists order rules falling rule.0 in
      let right : normal.0 ≡ rule.1 =
      one_least order rule.0 normal.0 rule.1 (normal_least order rules falling confluent rule.0 normal.0 normal.1) is.least in
      let P : List ℕ → Type 0 = λ m. NormalForm rules rule.0 m in
      record {
        parts = record {
          behind_first = least_word_irreducible (drop 1 rule.0) is.behind_first;
          before_last = least_word_irreducible (take (length rule.0 - 1) rule.0) is.before_last;
        };
        normal = subst P right normal.1;
      }

  -- and its left side is a given one
  left_side_given : (rule : Pair) → IsReducedRule below rules rule → IsMinimal rules rule → (old : Pair) × OneOf rules old × (old.0 ≡ rule.0)
  left_side_given rule is minimal =
      elim (cases_reducible order rules falling rule.0) [
        | rewritten v first ↦
            let one : OneOf rules first.rule = (first.index, first.is_rule) in
            let whole : rule.0 ≡ first.rule.0 = whole_word rule.0 first.before first.rule first.after one minimal.parts first.from in
            (first.rule, one, sym whole)
        | read irreducible ↦ absurd (is.not_least (irreducible_least order rules falling confluent rule.0 irreducible))
      ]

  pub minimal_sorted_reduced : (minimal sorted : List Pair) → HasMinimal rules (length rules) minimal → IsSortedFrom below minimal sorted
      → IsReducedComplete below rules sorted
  minimal_sorted_reduced minimal sorted has from = record {
    each = λ rule one.
        let found = from.each rule one in
        let old = has.given rule found in
        minimal_reduced rule old.0 old.1 (has.each rule found);
    all = λ rule is.
        let is_minimal = reduced_minimal rule is in
        let old = left_side_given rule is is_minimal in
        let within = slice_get_within rules old.1.0 old.0 old.1.1 in
        from.all rule (has.all old.1.0 old.0 rule within old.1.1 old.2 is_minimal);
    sorted = from.in_order;
  }

-- the same, of the list's order and rules by equal ones
pub reduced_found : (order : WordOrder) (rules : List Pair) (sort_order : WordOrder) (slice minimal sorted : List Pair)
    → AreDecreasing (Below order) rules → IsConfluent rules → slice ≡ rules → sort_order ≡ order → HasMinimal slice (length slice) minimal
    → IsSortedFrom (Below sort_order) minimal sorted → IsReducedComplete (Below order) rules sorted
reduced_found order rules sort_order slice minimal sorted falling confluent same_rules same_order has from =
    let P : List Pair → Type 0 = λ list. HasMinimal list (length list) minimal in
    let Q : WordOrder → Type 0 = λ one. IsSortedFrom (Below one) minimal sorted in
    minimal_sorted_reduced (word_orders order) rules falling confluent minimal sorted (subst P same_rules has) (subst Q same_order from)
