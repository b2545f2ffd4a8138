-- The first classes, by labels, and the first states of classes.
use Rattle.std.proofs.Common.{◌≡◌, ◌≢◌, ◌↔◌, ℕ, zero, suc, ◌+◌, ◌<◌, ◌≤◌, ◌^◌, Bool, true, false, Some, None, if◌then◌else◌, List, [], ◌∷◌, ◌++◌, length, get_or, set, replicate, All, refl, sym, ap, ◌∙◌, subst, inl, inr, arith, length-set, get_or-set_same, get_or-set_other}
use Rattle.std.proofs.lemmas.Bool.{cases_eq, cases_lt, false≢true}
use Rattle.std.proofs.lemmas.Option.{none-some, same_Some}
use Rattle.std.proofs.lemmas.List.{length-replicate, length_push, get_or_push, get_or_append_left, get_or_past, get_or_default}
use Rattle.kb_fsa.specs.Table.{Table, IsTable, is_accepting, IsLive}
use Rattle.kb_fsa.specs.Canonical.{IsState}
use Rattle.kb_fsamin.specs.Classes.{representative, AreRepresentatives}
use Rattle.kb_fsa.specs.Graphs.{IsMarked}
use Rattle.kb_fsamin.specs.Rounds.{class_of, IsClassing, IsStable}
use Rattle.kb_fsamin.specs.Firsts.{AreByNumber, AreFirsts, first_class, output_at}
use Rattle.kb_fsamin.specs.Splitting.{AreNumbered}
use Rattle.kb_fsamin.proofs.Numberings.{numbered_apart, numbered_same}
use Rattle.kb_labelled.specs.Labels.{AreAlike, label_of}
use Rattle.kb_labelled.proofs.Likeness.{accepts_alike}
use Rattle.kb_fsa.proofs.LinkLemmas.{zeros}

-- ---- first classes

pub by_none : (marks : List Bool) (numbers : List ℕ) → AreByNumber marks numbers 1 (0 ∷ [])
by_none marks numbers = record { one_each = refl; none = refl; each = λ place h. absurd (omega arith) }

pub by_more : (marks : List Bool) (numbers : List ℕ) (place class : ℕ) (classes : List ℕ)
    → class ≡ first_class (get_or marks (suc place) false) (get_or numbers place 0)
    → AreByNumber marks numbers (place + 1) classes → AreByNumber marks numbers (place + 1 + 1) (classes ++ class ∷ [])
by_more marks numbers place class classes is by = record {
  one_each = length_push classes class ∙ ap (λ n. n + 1) by.one_each;
  none = get_or_append_left classes (class ∷ []) 0 0 (omega (arith, by.one_each)) ∙ by.none;
  each = λ other h. elim (cases_eq other place) [
    | inl here ↦
        let newest : class_of (classes ++ class ∷ []) (suc place) ≡ class = get_or_push classes class 0 (suc place) (omega (arith, by.one_each)) in
        let P : ℕ → Type 0 = λ p. class_of (classes ++ class ∷ []) (suc p) ≡ first_class (get_or marks (suc p) false) (get_or numbers p 0) in
        subst P (sym here) (newest ∙ is)
    | inr before ↦
        get_or_append_left classes (class ∷ []) 0 (suc other) (omega (arith, by.one_each)) ∙ by.each other (omega arith)
  ];
}

alive : (leads : Bool) (number : ℕ) → first_class leads number ≢ 0 → leads ≡ true
alive false number some = absurd (some refl)
alive true number some = refl

has_class : (leads : Bool) (number : ℕ) → leads ≡ true → first_class leads number ≢ 0
has_class false number is = absurd (false≢true is)
has_class true number is = λ h. absurd (omega arith)

same_number : (m n : Bool) (a b : ℕ) → first_class m a ≢ 0 → first_class m a ≡ first_class n b → a ≡ b
same_number false n a b some same = absurd (some refl)
same_number true false a b some same = absurd (some same)
same_number true true a b some same = omega (arith, same)

one_truth : (a b : Bool) → (a ≡ true → b ≡ true) → (b ≡ true → a ≡ true) → a ≡ b
one_truth false false one two = refl
one_truth false true one two = two refl
one_truth true false one two = sym (one refl)
one_truth true true one two = refl

not_more : (leads : Bool) (number : ℕ) → first_class leads number ≤ suc number
not_more false number = omega arith
not_more true number = omega arith

-- classes are below one more than the count of numbers
pub by_few : (marks : List Bool) (numbers : List ℕ) (count : ℕ) → All (λ number. number < count) numbers → (done : ℕ) (classes : List ℕ)
    → done ≤ suc (length numbers) → AreByNumber marks numbers done classes → All (λ class. class < count + 1) classes
by_few marks numbers count few done classes short by k d h = omega (arith, get_or_default classes k d 0 h, each k h)
  where
    each : (place : ℕ) → place < length classes → class_of classes place < count + 1
    each zero h = omega (arith, by.none)
    each (suc place) h =
        omega (
          arith,
          by.each place (omega (arith, by.one_each)),
          not_more (get_or marks (suc place) false) (get_or numbers place 0),
          few place 0 (omega (arith, by.one_each)),
        )

pub numbers_few : (thing : ℕ → ℕ) (done : ℕ) (seen numbers : List ℕ) → AreNumbered thing done seen numbers
    → All (λ number. number < length seen) numbers
numbers_few thing done seen numbers all k d h = omega (arith, get_or_default numbers k d 0 h, (all.place k (omega (arith, all.one_each))).0)

-- states with one output have one label, or none
outputs_alike : (a b : Bool) (x y : ℕ) → (if a then suc x else 0) ≡ (if b then suc y else 0) → (if a then Some x else None) ≡ (if b then Some y else None)
outputs_alike false false x y same = refl
outputs_alike false true x y same = absurd (let no : ⊥ = omega (arith, same) in no)
outputs_alike true false x y same = absurd (let no : ⊥ = omega (arith, same) in no)
outputs_alike true true x y same = ap (λ (l : ℕ). Some l) (let is : x ≡ y = omega (arith, same) in is)

labels_alike : (a b : Bool) (x y : ℕ) → (if a then Some x else None) ≡ (if b then Some y else None) → (if a then suc x else 0) ≡ (if b then suc y else 0)
labels_alike false false x y same = refl
labels_alike false true x y same = absurd (none-some y same)
labels_alike true false x y same = absurd (none-some x (sym same))
labels_alike true true x y same = ap suc (same_Some x y same)

-- the outputs of a table's states are numbered, and what leads to acceptance is marked
pub record AreOutputs (table : Table) (labels : List ℕ) (marks : List Bool) (seen numbers : List ℕ) : Type 0 where
  pub is_table : IsTable table
  pub marked : (state : ℕ) → IsMarked marks state ↔ IsLive table state
  pub numbered : AreNumbered (output_at table labels) (length table.rows) seen numbers

pub classing_by : (table : Table) (labels : List ℕ) (marks : List Bool) (seen numbers classes : List ℕ) → AreOutputs table labels marks seen numbers
    → AreByNumber marks numbers (suc (length table.rows)) classes → IsClassing table labels classes
classing_by table labels marks seen numbers classes are by = record {
  is_table = are.is_table;
  one_each = by.one_each;
  none = by.none;
  live = live;
  labelled = labelled;
  respects = respects;
}
  where
    class_is : (place : ℕ) → suc place ≤ length table.rows
        → class_of classes (suc place) ≡ first_class (get_or marks (suc place) false) (get_or numbers place 0)
    class_is place within = by.each place (omega arith)

    live : (state : ℕ) → IsState table state → class_of classes state ≢ 0 ↔ IsLive table state
    live zero is = absurd (omega (arith, is.positive))
    live (suc place) is =
        let at = class_is place is.within in (
          λ some. (are.marked (suc place)).0 (alive _ _ (λ none. some (at ∙ none))),
          λ leads none. has_class _ _ ((are.marked (suc place)).1 leads) (sym at ∙ none),
        )

    labelled : (p q : ℕ) → IsState table p → IsState table q → class_of classes p ≢ 0 → class_of classes p ≡ class_of classes q
        → label_of table labels p ≡ label_of table labels q
    labelled zero q one two some same = absurd (omega (arith, one.positive))
    labelled (suc p) zero one two some same = absurd (omega (arith, two.positive))
    labelled (suc p) (suc q) one two some same =
        let first = class_is p one.within in
        let second = class_is q two.within in
        let number : get_or numbers p 0 ≡ get_or numbers q 0 =
        same_number (get_or marks (suc p) false) (get_or marks (suc q) false) (get_or numbers p 0) (get_or numbers q 0)
        (λ none. some (first ∙ none)) (sym first ∙ same ∙ second) in
        outputs_alike (is_accepting table (suc p)) (is_accepting table (suc q)) (get_or labels p 0) (get_or labels q 0)
        (numbered_apart (output_at table labels) (length table.rows) seen numbers are.numbered p q (omega (arith, one.within)) (omega (arith, two.within)) number)

    respects : (p q : ℕ) → IsState table p → IsState table q → AreAlike table labels p q → class_of classes p ≡ class_of classes q
    respects zero q one two same = absurd (omega (arith, one.positive))
    respects (suc p) zero one two same = absurd (omega (arith, two.positive))
    respects (suc p) (suc q) one two same =
        let lead : get_or marks (suc p) false ≡ get_or marks (suc q) false = one_truth _ _
        (λ is.
        let text = (are.marked (suc p)).0 is in
        (are.marked (suc q)).1 (text.0, accepts_alike table labels (suc p) (suc q) text.0 (same text.0) text.1))
        (λ is.
        let text = (are.marked (suc q)).0 is in
        (are.marked (suc p)).1 (text.0, accepts_alike table labels (suc q) (suc p) text.0 (sym (same text.0)) text.1)) in
        let output = labels_alike (is_accepting table (suc p)) (is_accepting table (suc q)) (get_or labels p 0) (get_or labels q 0) (same []) in
        let number : get_or numbers p 0 ≡ get_or numbers q 0 =
        numbered_same (output_at table labels) (length table.rows) seen numbers are.numbered p q (omega (arith, one.within)) (omega (arith, two.within)) output in
        class_is p one.within ∙ ap (λ m. first_class m (get_or numbers p 0)) lead
        ∙ ap (first_class (get_or marks (suc q) false)) number ∙ sym (class_is q two.within)

-- the same of a copy of the numbers
pub classed_by : (table : Table) (labels : List ℕ) (marks : List Bool) (seen numbers items classes : List ℕ)
    → AreOutputs table labels marks seen numbers → items ≡ numbers → AreByNumber marks items (length items + 1) classes
    → IsClassing table labels classes
classed_by table labels marks seen numbers items classes are same by =
    let L : List ℕ → Type 0 = λ l. AreByNumber marks l (length l + 1) classes in
    let N : ℕ → Type 0 = λ done. AreByNumber marks numbers done classes in
    let count : length numbers + 1 ≡ suc (length table.rows) = omega (arith, are.numbered.one_each) in
    classing_by table labels marks seen numbers classes are (subst N count (subst L same by))

pub few_by : (table : Table) (labels : List ℕ) (marks : List Bool) (seen numbers items classes : List ℕ) (count : ℕ)
    → AreOutputs table labels marks seen numbers → items ≡ numbers → length seen ≡ count → AreByNumber marks items (length items + 1) classes
    → All (λ class. class < count + 1) classes
few_by table labels marks seen numbers items classes count are same is by =
    let L : List ℕ → Type 0 = λ l. AreByNumber marks l (length l + 1) classes in
    let C : ℕ → Type 0 = λ c. All (λ class. class < c + 1) classes in
    subst C is (by_few marks numbers (length seen) (numbers_few (output_at table labels) (length table.rows) seen numbers are.numbered)
    (length numbers + 1) classes (omega arith) (subst L same by))

pub numbers_room : (table : Table) (labels : List ℕ) (seen numbers items : List ℕ) → IsTable table
    → AreNumbered (output_at table labels) (length table.rows) seen numbers → items ≡ numbers → All (λ number. number + 1 < 2 ^ 32) items
numbers_room table labels seen numbers items is numbered same =
    let P : List ℕ → Type 0 = λ l. All (λ number. number + 1 < 2 ^ 32) l in
    subst P (sym same) (λ k d h.
    omega (arith, numbers_few (output_at table labels) (length table.rows) seen numbers numbered k d h, numbered.few, is.size))

-- ---- first states

pub firsts_none : (table : Table) (classes : List ℕ) → AreFirsts table classes 1 (replicate (suc (length table.rows)) 0) []
firsts_none table classes = record {
  one_each = length-replicate {A = ℕ} (suc (length table.rows)) 0;
  all_done = refl;
  none = zeros (suc (length table.rows)) 0;
  first = λ class some. absurd (some (zeros (suc (length table.rows)) class));
  listed_each = λ place h. absurd (omega arith);
  some = λ place h. absurd (omega arith);
}

module _ (table : Table) (classes : List ℕ) (place : ℕ) (firsts listed : List ℕ) (known : AreFirsts table classes (suc place) firsts listed) where
  -- the state has the first of its class, which stays for the states before
  more : (firsts' : List ℕ) → length firsts' ≡ suc (length table.rows) → get_or firsts' 0 0 ≡ 0
      → ((class : ℕ) → get_or firsts' class 0 ≢ 0 → IsState table (get_or firsts' class 0) × (class_of classes (get_or firsts' class 0) ≡ class))
      → ((class : ℕ) → get_or firsts class 0 ≢ 0 → get_or firsts' class 0 ≡ get_or firsts class 0)
      → (class_of classes (suc place) ≢ 0 → get_or firsts' (class_of classes (suc place)) 0 ≢ 0)
      → AreFirsts table classes (suc place + 1) firsts' (listed ++ get_or firsts' (class_of classes (suc place)) 0 ∷ [])
  more firsts' long none first stays here = record {
    one_each = long;
    all_done = omega (arith, length_push listed (get_or firsts' (class_of classes (suc place)) 0), known.all_done);
    none = none;
    first = first;
    listed_each = λ other h. elim (cases_eq other place) [
      | inl same ↦
          let newest = get_or_push listed (get_or firsts' (class_of classes (suc place)) 0) 0 place (omega (arith, known.all_done)) in
          let P : ℕ → Type 0 = λ p. get_or (listed ++ get_or firsts' (class_of classes (suc place)) 0 ∷ []) p 0 ≡ get_or firsts' (class_of classes (suc p)) 0 in
          subst P (sym same) newest
      | inr before ↦
          let low : suc other < suc place = omega arith in
          let old = get_or_append_left listed (get_or firsts' (class_of classes (suc place)) 0 ∷ []) 0 other (omega (arith, known.all_done)) ∙ known.listed_each other low in
          elim (cases_eq (class_of classes (suc other)) 0) [
            | inl dead ↦ old ∙ ap (λ k. get_or firsts k 0) dead ∙ known.none ∙ sym none ∙ ap (λ k. get_or firsts' k 0) (sym dead)
            | inr live ↦ old ∙ sym (stays (class_of classes (suc other)) (known.some other low live))
          ]
    ];
    some = λ other h live. elim (cases_eq other place) [
      | inl same ↦
          let P : ℕ → Type 0 = λ p. class_of classes (suc p) ≢ 0 → get_or firsts' (class_of classes (suc p)) 0 ≢ 0 in
          subst P (sym same) here live
      | inr before ↦ λ is.
          let old = known.some other (omega arith) live in old (sym (stays (class_of classes (suc other)) old) ∙ is)
    ];
  }

  pub firsts_found : (class_of classes (suc place) ≢ 0 → get_or firsts (class_of classes (suc place)) 0 ≢ 0)
      → AreFirsts table classes (suc place + 1) firsts (listed ++ get_or firsts (class_of classes (suc place)) 0 ∷ [])
  firsts_found here = more firsts known.one_each known.none known.first (λ class some. refl) here

  pub firsts_new : IsState table (suc place) → class_of classes (suc place) ≢ 0 → class_of classes (suc place) < suc (length table.rows)
      → get_or firsts (class_of classes (suc place)) 0 ≡ 0
      → AreFirsts table classes (suc place + 1) (set firsts (class_of classes (suc place)) (suc place))
      (listed ++ get_or (set firsts (class_of classes (suc place)) (suc place)) (class_of classes (suc place)) 0 ∷ [])
  firsts_new is live within fresh =
      let class = class_of classes (suc place) in
      let there = get_or-set_same firsts class (suc place) 0 (omega (arith, known.one_each)) in
      more (set firsts class (suc place)) (length-set firsts class (suc place) ∙ known.one_each)
      (get_or-set_other firsts class 0 (suc place) 0 (λ same. live (sym same)) ∙ known.none)
      (λ other some. elim (cases_eq other class) [
        | inl same ↦
            let P : ℕ → Type 0 = λ k. IsState table (get_or (set firsts class (suc place)) k 0) × (class_of classes (get_or (set firsts class (suc place)) k 0) ≡ k) in
            subst P (sym same) (subst (IsState table) (sym there) is, ap (class_of classes) there)
        | inr apart ↦
            let stays = get_or-set_other firsts class other (suc place) 0 apart in
            let old = known.first other (λ none. some (stays ∙ none)) in
            (subst (IsState table) (sym stays) old.0, ap (class_of classes) stays ∙ old.1)
      ])
      (λ other some. get_or-set_other firsts class other (suc place) 0 (λ same. some (ap (λ k. get_or firsts k 0) same ∙ fresh)))
      (λ _ none. absurd (omega arith))

pub firsts_same : (table : Table) (classes : List ℕ) (done done' : ℕ) (firsts firsts' listed listed' : List ℕ) → done ≡ done'
    → firsts ≡ firsts' → listed ≡ listed' → AreFirsts table classes done firsts listed → AreFirsts table classes done' firsts' listed'
firsts_same table classes done done' firsts firsts' listed listed' a b e known =
    let P : ℕ → Type 0 = λ n. AreFirsts table classes n firsts' listed' in
    let Q : List ℕ → Type 0 = λ f. AreFirsts table classes done f listed' in
    let R : List ℕ → Type 0 = λ l. AreFirsts table classes done firsts l in
    subst P a (subst Q b (subst R e known))

-- the first states of classes stand for all that are alike
pub firsts_represent : (table : Table) (labels classes firsts listed : List ℕ) → IsClassing table labels classes → IsStable table labels classes
    → AreFirsts table classes (suc (length table.rows)) firsts listed → AreRepresentatives table labels listed
firsts_represent table labels classes firsts listed classing stable known = record {
  one_each = omega (arith, known.all_done);
  dead = dead;
  live = live;
  is_state = λ state some. (of_first state some).0;
  alike = alike;
  same = same;
}
  where
    -- a state's representative is the first of its class
    is_first : (state : ℕ) → IsState table state → representative listed state ≡ get_or firsts (class_of classes state) 0
    is_first zero is = absurd (omega (arith, is.positive))
    is_first (suc place) is = known.listed_each place (omega (arith, is.within))

    is_known : (state : ℕ) → representative listed state ≢ 0 → IsState table state
    is_known zero some = absurd (some refl)
    is_known (suc place) some = elim (cases_lt place (length listed)) [
      | inl within ↦ record { positive = omega arith; within = omega (arith, known.all_done) }
      | inr past ↦ absurd (some (get_or_past listed place 0 past))
    ]

    of_first : (state : ℕ) → representative listed state ≢ 0
        → IsState table (representative listed state) × (class_of classes (representative listed state) ≡ class_of classes state)
    of_first state some =
        let at = is_first state (is_known state some) in
        let first = known.first (class_of classes state) (λ none. some (at ∙ none)) in
        (subst (IsState table) (sym at) first.0, ap (class_of classes) at ∙ first.1)

    has_one : (state : ℕ) → IsState table state → representative listed state ≢ 0 → class_of classes state ≢ 0
    has_one state is some none = some (is_first state is ∙ ap (λ k. get_or firsts k 0) none ∙ known.none)

    dead : (state : ℕ) → IsState table state → representative listed state ≡ 0 → ¬ IsLive table state
    dead zero is none leads = absurd (omega (arith, is.positive))
    dead (suc place) is none leads =
        known.some place (omega (arith, is.within)) ((classing.live (suc place) is).1 leads) (sym (is_first (suc place) is) ∙ none)

    live : (state : ℕ) → IsState table state → representative listed state ≢ 0 → IsLive table state
    live state is some = (classing.live state is).0 (has_one state is some)

    alike : (state : ℕ) → representative listed state ≢ 0 → AreAlike table labels state (representative listed state)
    alike state some =
        let is = is_known state some in
        let first = of_first state some in
        stable state (representative listed state) is first.0 (has_one state is some) (sym first.1)

    same : (p q : ℕ) → IsState table p → IsState table q → AreAlike table labels p q → representative listed p ≡ representative listed q
    same p q one two is_alike =
        is_first p one ∙ ap (λ k. get_or firsts k 0) (classing.respects p q one two is_alike) ∙ sym (is_first q two)

-- the same of a state, which isn't 0
pub firsts_kept : (table : Table) (classes : List ℕ) (state : ℕ) (firsts listed : List ℕ) → 0 < state → AreFirsts table classes state firsts listed
    → (class_of classes state ≢ 0 → get_or firsts (class_of classes state) 0 ≢ 0)
    → AreFirsts table classes (state + 1) firsts (listed ++ get_or firsts (class_of classes state) 0 ∷ [])
firsts_kept table classes zero firsts listed positive known here = absurd (omega arith)
firsts_kept table classes (suc place) firsts listed positive known here = firsts_found table classes place firsts listed known here

pub firsts_set : (table : Table) (classes : List ℕ) (state : ℕ) (firsts listed : List ℕ) → IsState table state → AreFirsts table classes state firsts listed
    → class_of classes state ≢ 0 → class_of classes state < suc (length table.rows) → get_or firsts (class_of classes state) 0 ≡ 0
    → AreFirsts table classes (state + 1) (set firsts (class_of classes state) state)
    (listed ++ get_or (set firsts (class_of classes state) state) (class_of classes state) 0 ∷ [])
firsts_set table classes zero firsts listed is known live within fresh = absurd (omega (arith, is.positive))
firsts_set table classes (suc place) firsts listed is known live within fresh = firsts_new table classes place firsts listed known is live within fresh
