-- Lists of numbers from 0 on, and the marks of numbers.
use Rattle.std.proofs.Common.{◌≡◌, ◌↔◌, ℕ, zero, suc, ◌+◌, ◌-◌, ◌<◌, ◌≤◌, Bool, true, false, IsTrue, ℤ, pos, ◌≤ℤ◌, List, [], ◌∷◌, ◌++◌, length, map, take, set, get_or, replicate, Contains, Vec, Global, ◌⊎◌, inl, inr, ⊎_elim, refl, sym, ap, ◌∙◌, subst, arith}
use Rattle.std.proofs.lemmas.Int.{ints}
use Rattle.std.proofs.lemmas.Bool.{cases_eq, false≢true}
use Rattle.std.proofs.lemmas.List.{length-map, get_or-map, get_or-set_same, get_or-set_other, take_more, map-append}
use Rattle.std.proofs.lemmas.List.Elements.{Contains-get_or, Contains-append_left, Contains-push, Contains-push_cases, All-contains, All-push}
use Rattle.kb_record.specs.Tree.{Value, number_value, string_value, record_value, list_value, range_value, word_value}
use Rattle.kb_fields.proofs.NumberLemmas.{list_of_numbers-injective}
use Rattle.kb_fsafile.specs.Kinds.{list_of_numbers, StandsFor, IsNumbers, IsNumberOf}
use Rattle.kb_fsafile.specs.Reading.{AreStates, IsAcceptingState, StandsForStates}
use Rattle.kb_fsafile.specs.declared.accepting.Accepting.{Accepting}
use Rattle.kb_fsafile.specs.declared.accepting.Accepting.TheVariants.{Listed, Range}

pos-injective : {a b : ℕ} → pos a ≡ pos b → a ≡ b
pos-injective e = cc

-- one of the numbers, as a number from 0 on
pub record IsPos (states : List ℕ) (z : ℤ) : Type 0 where
  pub state : ℕ
  pub same : z ≡ pos state
  pub contained : Contains states state

pub contains_pos : (states : List ℕ) (state : ℕ) → Contains states state → Contains (map pos states) (pos state)
contains_pos states state found =
    let count = length-map states pos in
    (found.0, omega (arith, count, found.1), get_or-map pos states found.0 state (pos state) found.1 ∙ ap pos found.2)

pub pos_contained : (states : List ℕ) (z : ℤ) → Contains (map pos states) z → IsPos states z
pos_contained states z found = record {
  state = get_or states found.0 0;
  same = sym found.2 ∙ get_or-map pos states found.0 0 z within;
  contained = Contains-get_or states found.0 0 within;
}
  where
    within : found.0 < length states
    within = let count = length-map states pos in omega (arith, count, found.1)

-- one more number, which is a state
pub states_more : (count : ℕ) (numbers : List ℤ) (k : ℕ) (z : ℤ) (states : List ℕ) (state : ℕ) → k < length numbers → z ≡ get_or numbers k z → AreStates count (take k numbers) states
    → z ≡ pos state → 0 < state → state ≤ count → AreStates count (take (k + 1) numbers) (states ++ state ∷ [])
states_more count numbers k z states state within at are is positive small = record {
  same = take_more numbers k z within ∙ (ap (λ (ns : List ℤ). ns ++ get_or numbers k z ∷ []) are.same
      ∙ (ap (λ (n : ℤ). map pos states ++ n ∷ []) (sym at ∙ is) ∙ sym (map-append pos states (state ∷ []))));
  within = All-push (λ (s : ℕ). (0 < s) × (s ≤ count)) states state are.within (positive, small);
}

pub listed_stands : (count : ℕ) (numbers : List ℤ) (states : List ℕ) → AreStates count numbers states
    → (z : ℤ) → StandsFor (list_value (list_of_numbers numbers)) z ↔ IsPos states z
listed_stands count numbers states are z = (to, from)
  where
    to : StandsFor (list_value (list_of_numbers numbers)) z → IsPos states z
    to stands =
        let same : stands.0 ≡ map pos states = list_of_numbers-injective stands.0 numbers (sym stands.1) ∙ are.same in
        let P : List ℤ → Type 0 = λ ns. Contains ns z in
        pos_contained states z (subst P same stands.2)

    from : IsPos states z → StandsFor (list_value (list_of_numbers numbers)) z
    from is =
        let P : List ℤ → Type 0 = λ ns. Contains ns z in
        let Q : ℤ → Type 0 = λ n. Contains (map pos states) n in
        (numbers, refl, subst P (sym are.same) (subst Q (sym is.same) (contains_pos states is.state is.contained)))

number_of_state : (count : ℕ) (numbers : List ℤ) (states : List ℕ) → AreStates count numbers states → (z : ℤ) → IsPos states z → IsNumberOf count z
number_of_state count numbers states are z is =
    let bounds = All-contains (λ (s : ℕ). (0 < s) × (s ≤ count)) states is.state are.within is.contained in
    record { number = is.state; is_number = is.same; positive = bounds.0; within = bounds.1 }

-- a state of a range between two numbers
range_number : (count first last : ℕ) (z : ℤ) → 0 < first → last ≤ count → pos first ≤ℤ z → z ≤ℤ pos last → IsNumberOf count z
range_number count first last (pos n) positive small low high = record { number = n; is_number = refl; positive = omega (arith, ints, low); within = omega (arith, ints, high) }
range_number count first last z positive small low high = absurd (omega (arith, ints, low))

-- whether a place is marked after one more mark
module _ (answers : List Bool) (at : ℕ) (within : at < length answers) (Old New : ℕ → Type 0)
    (before : (place : ℕ) → IsTrue (get_or answers place false) ↔ Old place)
    (here : New at) (kept : (place : ℕ) → Old place → New place) (only : (place : ℕ) → New place → (place ≡ at → ⊥) → Old place) where
  pub marked_more : (place : ℕ) → IsTrue (get_or (set answers at true) place false) ↔ New place
  marked_more place = go (cases_eq place at)
    where
      go : (place ≡ at) ⊎ (place ≡ at → ⊥) → IsTrue (get_or (set answers at true) place false) ↔ New place
      go (inl same) = (
        λ marked. subst New (sym same) here,
        λ new. ap (λ (k : ℕ). get_or (set answers at true) k false) same ∙ get_or-set_same answers at true false within,
      )
      go (inr other) = (
        λ marked. kept place ((before place).0 (sym (get_or-set_other answers at place true false other) ∙ marked)),
        λ new. get_or-set_other answers at place true false other ∙ (before place).1 (only place new other),
      )

pub no_marks : (n k : ℕ) → get_or (replicate n false) k false ≡ false
no_marks zero k = refl
no_marks (suc n) zero = refl
no_marks (suc n) (suc k) = no_marks n k

none_contained : (place : ℕ) → Contains [] (suc place) → ⊥
none_contained place found = absurd (omega (arith, found.1))

-- at first nothing is marked
pub states_unmarked : (n : ℕ) (marks : List Bool) (states : List ℕ) → marks ≡ replicate n false
    → (place : ℕ) → IsTrue (get_or marks place false) ↔ Contains (take 0 states) (suc place)
states_unmarked n marks states none place = (
  λ marked. absurd (false≢true (sym (ap (λ (ms : List Bool). get_or ms place false) none ∙ no_marks n place) ∙ marked)),
  λ found. absurd (none_contained place found),
)

pub range_unmarked : (n : ℕ) (marks : List Bool) (from to : ℕ) → 0 < from → marks ≡ replicate n false
    → (place : ℕ) → IsTrue (get_or marks place false) ↔ ((from ≤ suc place) × (suc place ≤ from - 1) × (suc place ≤ to))
range_unmarked n marks from to positive none place = (
  λ marked. absurd (false≢true (sym (ap (λ (ms : List Bool). get_or ms place false) none ∙ no_marks n place) ∙ marked)),
  λ found. absurd (omega (arith, found.0, found.1)),
)

-- one more state is marked
pub states_marked : (marks : List Bool) (states : List ℕ) (k : ℕ) → k < length states → 0 < get_or states k 0 → get_or states k 0 ≤ length marks
    → ((place : ℕ) → IsTrue (get_or marks place false) ↔ Contains (take k states) (suc place))
    → (place : ℕ) → IsTrue (get_or (set marks (get_or states k 0 - 1) true) place false) ↔ Contains (take (k + 1) states) (suc place)
states_marked marks states k within positive small before =
    marked_more marks (s - 1) (omega arith) (λ place. Contains (take k states) (suc place)) (λ place. Contains (take (k + 1) states) (suc place)) before here kept only
  where
    s : ℕ
    s = get_or states k 0

    more : take (k + 1) states ≡ take k states ++ get_or states k 0 ∷ []
    more = take_more states k 0 within

    same : get_or states k 0 ≡ suc (get_or states k 0 - 1)
    same = omega arith

    here : Contains (take (k + 1) states) (suc (get_or states k 0 - 1))
    here =
        let P : List ℕ → Type 0 = λ xs. Contains xs (suc (get_or states k 0 - 1)) in
        let Q : ℕ → Type 0 = λ n. Contains (take k states ++ get_or states k 0 ∷ []) n in
        subst P (sym more) (subst Q same (Contains-push (take k states) (get_or states k 0)))

    kept : (place : ℕ) → Contains (take k states) (suc place) → Contains (take (k + 1) states) (suc place)
    kept place old =
        let P : List ℕ → Type 0 = λ xs. Contains xs (suc place) in
        subst P (sym more) (Contains-append_left (take k states) (get_or states k 0 ∷ []) (suc place) old)

    only : (place : ℕ) → Contains (take (k + 1) states) (suc place) → (place ≡ get_or states k 0 - 1 → ⊥) → Contains (take k states) (suc place)
    only place new other =
        let P : List ℕ → Type 0 = λ xs. Contains xs (suc place) in
        ⊎_elim (λ (early : Contains (take k states) (suc place)). early) (λ (is : get_or states k 0 ≡ suc place). absurd (other (omega (arith, is))))
        (Contains-push_cases (take k states) (get_or states k 0) (suc place) (subst P more new))

-- one more place of a range is marked
pub range_more : (marks : List Bool) (from at to : ℕ) → at < length marks → from - 1 ≤ at → at < to
    → ((place : ℕ) → IsTrue (get_or marks place false) ↔ ((from ≤ suc place) × (suc place ≤ at) × (suc place ≤ to)))
    → (place : ℕ) → IsTrue (get_or (set marks at true) place false) ↔ ((from ≤ suc place) × (suc place ≤ at + 1) × (suc place ≤ to))
range_more marks from at to within low high before =
    marked_more marks at within (λ place. (from ≤ suc place) × (suc place ≤ at) × (suc place ≤ to)) (λ place. (from ≤ suc place) × (suc place ≤ at + 1) × (suc place ≤ to))
    before (omega arith, omega arith, omega arith) (λ place old. (old.0, omega (arith, old.1), old.2)) (λ place new other. (new.0, omega (arith, new.1, other), new.2))

-- a range whose first number is above its last stands for no state, and neither does one from 1 to 0
pub empty_range : (count : ℕ) (from to : ℤ) → ((z : ℤ) → from ≤ℤ z → z ≤ℤ to → ⊥) → StandsForStates count (range_value from to) (Range 1 0)
empty_range count from to none = record {
  kind = tt;
  within = λ z stands. absurd (none z stands.0 stands.1);
  each = λ state. (λ among. absurd (omega (arith, among.0, among.1)), λ stands. absurd (none (pos state) stands.0 stands.1));
}

pub whole_range : (count first last : ℕ) (from to : ℤ) → from ≡ pos first → to ≡ pos last → 0 < first → last ≤ count
    → StandsForStates count (range_value from to) (Range first last)
whole_range count first last from to is_first is_last positive small =
    let P : ℤ → Type 0 = λ f. StandsForStates count (range_value f to) (Range first last) in
    let Q : ℤ → Type 0 = λ t. StandsForStates count (range_value (pos first) t) (Range first last) in
    subst P (sym is_first) (subst Q (sym is_last) (record {
      kind = tt;
      within = λ z stands. range_number count first last z positive small stands.0 stands.1;
      each = λ state. (λ among. (omega (arith, ints, among.0), omega (arith, ints, among.1)), λ stands. (omega (arith, ints, stands.0), omega (arith, ints, stands.1)));
    }))

pub whole_list : (count : ℕ) (numbers : List ℤ) (states : Vec ℕ Global) → AreStates count numbers states.items
    → StandsForStates count (list_value (list_of_numbers numbers)) (Listed states)
whole_list count numbers states are = record {
  kind = (numbers, refl);
  within = λ z stands. number_of_state count numbers states.items are z ((listed_stands count numbers states.items are z).0 stands);
  each = λ state. (
    λ among. (listed_stands count numbers states.items are (pos state)).1 (record { state = state; same = refl; contained = among }),
    λ stands. back state ((listed_stands count numbers states.items are (pos state)).0 stands),
  );
}
  where
    back : (state : ℕ) → IsPos states.items (pos state) → Contains states.items state
    back state is = let P : ℕ → Type 0 = λ n. Contains states.items n in subst P (sym (pos-injective is.same)) is.contained

-- a value that is neither a range nor a list of numbers
pub no_numbers : (value : Value) → ((from to : ℤ) → value ≡ range_value from to → ⊥) → ((numbers : List ℤ) → value ≡ list_value (list_of_numbers numbers) → ⊥)
    → IsNumbers value → ⊥
no_numbers (list_value ps) range list kind = list kind.0 (ap list_value kind.1)
no_numbers (range_value from to) range list kind = range from to refl
no_numbers (number_value z) range list kind = kind
no_numbers (string_value text) range list kind = kind
no_numbers (record_value fs) range list kind = kind
no_numbers (word_value word) range list kind = kind

-- the states that the value stands for are in range
pub among_within : (count : ℕ) (value : Value) (accepting : Accepting) → StandsForStates count value accepting → (state : ℕ) → IsAcceptingState accepting state → (0 < state) × (state ≤ count)
among_within count value accepting stands state among =
    let is = stands.within (pos state) ((stands.each state).0 among) in
    let same = pos-injective is.is_number in
    (omega (arith, same, is.positive), omega (arith, same, is.within))
