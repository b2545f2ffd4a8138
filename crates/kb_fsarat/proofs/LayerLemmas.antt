-- The states from which texts of one length lead to acceptance.
use Rattle.std.proofs.Common.{◌≡◌, ◌↔◌, ℕ, zero, suc, ◌+◌, ◌-◌, ◌*◌, ◌/◌, ◌%◌, ◌<◌, ◌≤◌, ◌^◌, Bool, true, false, ◌&&◌, nat_lt, nat_eq, not, cond, if◌then◌else◌, IsTrue, List, [], ◌∷◌, ◌++◌, length, get_or, map, take, drop, leb, leb-true, slice_get, Option, Some, None, Result, refl, sym, ap, ◌∙◌, subst, inl, inr, true≢false, arith}
use Rattle.std.specs.Cmp.Lexicographic.{pointwise}
use Rattle.std.specs.List.{Contains, find, list_any}
use Rattle.std.specs.List.Sorted.{IsNonDecreasingBy, IsPartitionPoint}
use Rattle.std.specs.Result.{IfOk}
use Rattle.std.specs.Option.{MatchOption, IfSome, IfNone}
use Rattle.std.proofs.lemmas.Bool.Decides.{nat_tests}
use Rattle.std.proofs.lemmas.Bool.{cases_eq, cases_lt, leb-false}
use Rattle.std.proofs.Math.Nat.{div-add-mod, mod-lt, mul_comm}
use Rattle.std.proofs.Math.Seq.{get_or-append_seam}
use Rattle.std.proofs.lemmas.List.{append-nil, length-append, get_or_append_left, take_more}
use Rattle.std.proofs.lemmas.List.Elements.{Contains-append_cases, Contains-append_left, Contains-append_right}
use Rattle.std.proofs.lemmas.Grind.{flat_map-append}
use Rattle.std.proofs.lemmas.Option.{slice_get_within, get_or_from_slice_get}
use Rattle.std.proofs.lemmas.Result.{IfOk-weaker}
use Rattle.indexmap.specs.IndexSet.{insert_key}
use Rattle.kb_word.specs.Comparison.{same_from_pointwise}
use Rattle.kb_word.specs.declared.memory.Memory.{Memory}
use Rattle.kb_fsa.specs.Table.{Moves, Ascends, Table, IsTable, HasSymbols, moves_of, is_accepting, step, AcceptsFrom}
use Rattle.kb_fsa.specs.Canonical.{IsState}
use Rattle.kb_fsa.proofs.Lookups.{Ascends-head, Ascends-tail, IsRow-moves_of}
use Rattle.kb_fsadet.specs.Nondeterministic.{moves_at}
use Rattle.kb_fsadet.specs.SubsetConstruction.{is_member, set_of}
use Rattle.kb_fsadet.proofs.Sets.{Contains-set_of}
use Rattle.kb_fsadet.proofs.Members.{contains_from_member, member_from_contains}
use Rattle.kb_fsarat.specs.Layers.{HasText, IsLayer, AreLayers, RepeatsFrom, ComesRound, IsLayering, AreTurned, targets_of_each, lengths, IsFirstMove, NoMove}
use Rattle.kb_fsarat.proofs.MoveLists.{Contains-nil, Contains-head, Contains-cons, Contains-cons_cases, Contains-map}
use Rattle.kb_fsarat.proofs.TableMoves.{step_from_move, move_from_step, accepts_from_state, symbol_within}

-- the set of listed states
pub layer_from_listed : (table : Table) (k : ℕ) (states : List ℕ) → ((state : ℕ) → Contains states state ↔ HasText table k state)
    → IsLayer table k (set_of states)
layer_from_listed table k states listed state = (
  λ member. (listed state).0 ((Contains-set_of states state).0 (contains_from_member (set_of states) state member)),
  λ has. member_from_contains (set_of states) state ((Contains-set_of states state).1 ((listed state).1 has)),
)

-- ---- the set of length 0

empty_text : (table : Table) (state : ℕ) (text : List ℕ) → length text ≡ 0 → AcceptsFrom table state text → IsTrue (is_accepting table state)
empty_text table state [] long accepts = accepts
empty_text table state (symbol ∷ text) long accepts = absurd (let no : ⊥ = omega arith in no)

pub layer_accepting : (table : Table) (states : List ℕ) → ((state : ℕ) → Contains states state ↔ IsTrue (is_accepting table state))
    → IsLayer table 0 (set_of states)
layer_accepting table states listed =
    layer_from_listed table 0 states (λ state. (
      λ has. record { text = []; long = refl; accepts = (listed state).0 has },
      λ has. (listed state).1 (empty_text table state has.text has.long has.accepts),
    ))

-- ---- the set of the next length

-- a text's first letter leads on
first_step : (table : Table) (k state : ℕ) (text : List ℕ) → length text ≡ k + 1 → AcceptsFrom table state text
    → (symbol : ℕ) × HasText table k (step table state symbol)
first_step table k state [] long accepts = absurd (let no : ⊥ = omega arith in no)
first_step table k state (symbol ∷ text) long accepts = (symbol, record { text = text; long = omega arith; accepts = accepts })

pub HasText-more : (table : Table) (k state : ℕ) → HasText table (k + 1) state ↔ ((symbol : ℕ) × HasText table k (step table state symbol))
HasText-more table k state = (
  λ has. first_step table k state has.text has.long has.accepts,
  λ first.
      let long = first.1.long in
      record { text = first.0 ∷ first.1.text; long = omega arith; accepts = first.1.accepts },
)

pub HasText-state : (table : Table) (k state : ℕ) → IsTable table → HasText table k state → IsState table state
HasText-state table k state is has = accepts_from_state table state has.text is has.accepts

-- where the moves of states lead
pub targets_cases : (rows : List Moves) (states : List ℕ) (target : ℕ) → Contains (targets_of_each rows states) target
    → (state : ℕ) × (Contains states state × ((symbol : ℕ) × Contains (moves_at rows state) (symbol, target)))
targets_cases rows [] target has = absurd (Contains-nil target has)
targets_cases rows (first ∷ states) target has =
    elim (Contains-append_cases (map (λ (move : ℕ × ℕ). move.1) (moves_at rows first)) (targets_of_each rows states) target has) [
      | inl here ↦
          let move = (Contains-map (λ (move : ℕ × ℕ). move.1) (moves_at rows first) target).0 here in
          let P : ℕ → Type 0 = λ t. Contains (moves_at rows first) (move.0.0, t) in
          (first, (Contains-head first states, (move.0.0, subst P move.1.1 move.1.0)))
      | inr later ↦
          let from = targets_cases rows states target later in
          (from.0, (Contains-cons first states from.0 from.1.0, from.1.1))
    ]

pub target_from_move : (rows : List Moves) (states : List ℕ) (state symbol target : ℕ) → Contains states state
    → Contains (moves_at rows state) (symbol, target) → Contains (targets_of_each rows states) target
target_from_move rows [] state symbol target from has = absurd (Contains-nil state from)
target_from_move rows (first ∷ states) state symbol target from has =
    elim (Contains-cons_cases first states state from) [
      | inl here ↦
          let P : ℕ → Type 0 = λ s. Contains (moves_at rows s) (symbol, target) in
          Contains-append_left _ _ target
          ((Contains-map (λ (move : ℕ × ℕ). move.1) (moves_at rows first) target).1 ((symbol, target), (subst P (sym here) has, refl)))
      | inr later ↦ Contains-append_right _ _ target (target_from_move rows states state symbol target later has)
    ]

-- one state more
pub targets_more : (rows : List Moves) (states : List ℕ) (i d : ℕ) → i < length states
    → targets_of_each rows (take (i + 1) states) ≡ targets_of_each rows (take i states) ++ map (λ (move : ℕ × ℕ). move.1) (moves_at rows (get_or states i d))
targets_more rows states i d within =
    let lead : ℕ → List ℕ = λ state. map (λ (move : ℕ × ℕ). move.1) (moves_at rows state) in
    ap (targets_of_each rows) (take_more states i d within) ∙ flat_map-append lead (take i states) (get_or states i d ∷ [])
    ∙ ap (λ rest. targets_of_each rows (take i states) ++ rest) (append-nil (lead (get_or states i d)))

-- a move turned round
forwards : (table : Table) (rows : List Moves) (state symbol source : ℕ) → AreTurned table rows → Contains (moves_at rows state) (symbol, source)
    → Contains (moves_of table source) (symbol, state)
forwards table rows zero symbol source turns has = absurd (Contains-nil (symbol, source) has)
forwards table rows (suc place) symbol source turns has = (turns place symbol source).0 has

backwards : (table : Table) (rows : List Moves) (state symbol source : ℕ) → AreTurned table rows → 0 < state
    → Contains (moves_of table source) (symbol, state) → Contains (moves_at rows state) (symbol, source)
backwards table rows zero symbol source turns positive has = absurd (omega arith)
backwards table rows (suc place) symbol source turns positive has = (turns place symbol source).1 has

pub layer_before : (table : Table) (rows : List Moves) (members : List ℕ) (k : ℕ) → IsTable table → AreTurned table rows → IsLayer table k members
    → IsLayer table (k + 1) (set_of (targets_of_each rows members))
layer_before table rows members k is turns layer =
    layer_from_listed table (k + 1) (targets_of_each rows members) (λ source. (
      λ has.
          let from = targets_cases rows members source has in
          let stepped = step_from_move table source from.1.1.0 from.0 is (forwards table rows from.0 from.1.1.0 source turns from.1.1.1) in
          let P : ℕ → Type 0 = λ s. HasText table k s in
          let live = (layer from.0).0 (member_from_contains members from.0 from.1.0) in
          (HasText-more table k source).1 (from.1.1.0, subst P (sym stepped) live),
      λ has.
          let first = (HasText-more table k source).0 has in
          let state = step table source first.0 in
          let positive = (HasText-state table k state is first.1).positive in
          target_from_move rows members state first.0 source (contains_from_member members state ((layer state).1 first.1))
          (backwards table rows state first.0 source turns positive (move_from_step table source first.0 state refl positive)),
    ))

-- ---- sets that repeat

-- where the texts of two lengths lead from the same states to acceptance, so do those that are longer by as much
alike_onwards : (table : Table) (k n more : ℕ) → ((state : ℕ) → HasText table k state ↔ HasText table n state)
    → (state : ℕ) → HasText table (more + k) state ↔ HasText table (more + n) state
alike_onwards table k n zero alike state =
    let P : ℕ → Type 0 = λ m. HasText table m state in
    let same : (m : ℕ) → m ≡ 0 + m = λ m. omega arith in
    (λ has. subst P (same n) ((alike state).0 (subst P (sym (same k)) has)), λ has. subst P (same k) ((alike state).1 (subst P (sym (same n)) has)))
alike_onwards table k n (suc more) alike state =
    let rest = alike_onwards table k n more alike in
    let P : ℕ → Type 0 = λ m. HasText table m state in
    let longer : (m : ℕ) → (more + m) + 1 ≡ suc more + m = λ m. omega arith in
    let step_on : (m m' : ℕ) → ((s : ℕ) → HasText table (more + m) s → HasText table (more + m') s)
    → HasText table (suc more + m) state → HasText table (suc more + m') state = λ m m' follows has.
    let first = (HasText-more table (more + m) state).0 (subst P (sym (longer m)) has) in
    subst P (longer m') ((HasText-more table (more + m') state).1 (first.0, follows (step table state first.0) first.1)) in
    (step_on k n (λ s. (rest s).0), step_on n k (λ s. (rest s).1))

-- lengths of one set: those that are longer by as much have one set too
layer_onwards : (table : Table) (same members : List ℕ) (k n more : ℕ) → IsLayer table k same → IsLayer table n same
    → IsLayer table (more + k) members → IsLayer table (more + n) members
layer_onwards table same members k n more one two layer state =
    let alike = alike_onwards table k n more (λ s. (λ has. (two s).0 ((one s).1 has), λ has. (one s).0 ((two s).1 has))) state in
    (λ member. alike.0 ((layer state).0 member), λ has. (layer state).1 (alike.1 has))

-- any number of rounds later the set is the same
layer_rounds : (table : Table) (sets : List (List ℕ)) (start place rounds : ℕ) (d : List ℕ) → AreLayers table sets → RepeatsFrom table sets start
    → start ≤ place → place < length sets → IsLayer table (place + rounds * (length sets - start)) (get_or sets place d)
layer_rounds table sets start place zero d layers repeats from within =
    let P : ℕ → Type 0 = λ k. IsLayer table k (get_or sets place d) in
    let same : place ≡ place + 0 * (length sets - start) = omega arith in
    subst P same (layers place d within)
layer_rounds table sets start place (suc rounds) d layers repeats from within =
    let P : ℕ → Type 0 = λ k. IsLayer table k (get_or sets place d) in
    let period = length sets - start in
    let more = (place - start) + rounds * period in
    let fewer : place + rounds * period ≡ more + start = omega arith in
    let whole : more + length sets ≡ place + suc rounds * period = let some = repeats.within in omega arith in
    subst P whole
    (layer_onwards table (get_or sets start d) (get_or sets place d) start (length sets) more (layers start d repeats.within) (repeats.again d)
    (subst P fewer (layer_rounds table sets start place rounds d layers repeats from within)))

-- the set where the length comes round to
pub layer_round : (table : Table) (sets : List (List ℕ)) (start k place : ℕ) (d : List ℕ) → AreLayers table sets → RepeatsFrom table sets start
    → ComesRound start (length sets) k place → IsLayer table k (get_or sets place d)
layer_round table sets start k place d layers repeats comes = by comes.rounds comes.after comes.repeated
  where
    by : (rounds : ℕ) → k ≡ place + rounds * (length sets - start) → (0 < rounds → start ≤ place) → IsLayer table k (get_or sets place d)
    by zero after from =
        let P : ℕ → Type 0 = λ n. IsLayer table n (get_or sets place d) in
        let same : place ≡ k = omega arith in
        subst P same (layers place d comes.within)
    by (suc rounds) after from =
        let P : ℕ → Type 0 = λ n. IsLayer table n (get_or sets place d) in
        subst P (sym after) (layer_rounds table sets start place (suc rounds) d layers repeats (from (omega arith)) comes.within)

-- the place that the remainder gives
pub comes_round : (start count k : ℕ) → start < count → count ≤ k → ComesRound start count k (start + (k - start) % (count - start))
comes_round start count k before past =
    let period = count - start in
    let some : 0 < period = omega arith in
    let less = mod-lt (k - start) some in
    let whole = div-add-mod (k - start) period in
    let turned : (k - start) / period * period ≡ period * ((k - start) / period) = mul_comm ((k - start) / period) period in
    record {
      within = omega arith;
      rounds = (k - start) / period;
      after = omega arith;
      repeated = λ some. omega arith;
    }

-- the set at the place of a length
pub layer_at : (table : Table) (sets : List (List ℕ)) (repeats_from : Option ℕ) (k place : ℕ) (members : List ℕ) → IsLayering table sets repeats_from
    → IfNone repeats_from (place ≡ k) → IfSome repeats_from (λ start. ComesRound start (length sets) k place) → slice_get sets place ≡ Some members
    → IsLayer table k members
layer_at table sets None k place members kept none some at =
    let P : ℕ → Type 0 = λ n. IsLayer table n members in
    let Q : List ℕ → Type 0 = λ set. IsLayer table place set in
    subst P none
    (subst Q (get_or_from_slice_get sets place members members at) (kept.layers place members (slice_get_within sets place members at)))
layer_at table sets (Some start) k place members kept none some at =
    let Q : List ℕ → Type 0 = λ set. IsLayer table k set in
    subst Q (get_or_from_slice_get sets place members members at) (layer_round table sets start k place members kept.layers kept.repeats some)

-- until sets repeat there is one for each length below the count
pub length_unrepeated : (repeats_from : Option ℕ) (sets : List (List ℕ)) (count : ℕ) → lengths repeats_from sets ≡ count → count < 2 ^ 64
    → length sets ≡ count
length_unrepeated (Some start) sets count is below = absurd (omega arith)
length_unrepeated None sets count is below = is

-- one set more
layers_more : (table : Table) (sets : List (List ℕ)) (members : List ℕ) → AreLayers table sets → IsLayer table (length sets) members
    → AreLayers table (sets ++ members ∷ [])
layers_more table sets members layers next k d within =
    let Set : List ℕ → Type 0 = λ set. IsLayer table k set in
    let count = length-append sets (members ∷ []) in
    elim (cases_lt k (length sets)) [
      | inl less ↦ subst Set (sym (get_or_append_left sets (members ∷ []) d k less)) (layers k d less)
      | inr more ↦
          let last : length sets ≡ k = omega arith in
          let Next : ℕ → Type 0 = λ n. IsLayer table n (get_or (sets ++ members ∷ []) n d) in
          let Own : List ℕ → Type 0 = λ set. IsLayer table (length sets) set in
          subst Next last (subst Own (sym (get_or-append_seam sets members [] d)) next)
    ]

module _ (table : Table) (sets sets' : List (List ℕ)) (repeats_from : Option ℕ) (members : List ℕ) (is_new : Bool)
    (kept : IsLayering table sets repeats_from) (next : IsLayer table (length sets) members)
    (is : is_new ≡ not (list_any (pointwise nat_eq members) sets)) (keys : sets' ≡ insert_key (pointwise nat_eq) sets members) where
  -- a set that is kept already comes again
  pub layering_repeats : (place : ℕ) → (k : List ℕ) × (slice_get sets' place ≡ Some k) × (pointwise nat_eq members k ≡ true) → is_new ≡ false
      → IsLayering table sets' (Some place)
  layering_repeats place stored old = by (list_any (pointwise nat_eq members) sets) refl
    where
      Kept : List (List ℕ) → Type 0
      Kept known = IsLayering table known (Some place)

      Next : List ℕ → Type 0
      Next set = IsLayer table (length sets) set

      repeats : sets' ≡ sets → IsLayering table sets (Some place)
      repeats same =
          let at : slice_get sets place ≡ Some stored.0 = ap (λ known. slice_get known place) (sym same) ∙ stored.1 in
          record {
            is_table = kept.is_table;
            symbols = kept.symbols;
            layers = kept.layers;
            repeats = record {
              within = slice_get_within sets place stored.0 at;
              again = λ d. subst Next (same_from_pointwise members stored.0 stored.2 ∙ sym (get_or_from_slice_get sets place stored.0 d at)) next;
            };
          }

      by : (b : Bool) → list_any (pointwise nat_eq members) sets ≡ b → IsLayering table sets' (Some place)
      by true e =
          let same = keys ∙ ap (λ b. if b then sets else sets ++ members ∷ []) e in
          subst Kept (sym same) (repeats same)
      by false e = absurd (true≢false (sym (is ∙ ap not e) ∙ old))

  -- a new set is one more
  pub layering_more : lengths repeats_from sets < 2 ^ 64 → is_new ≡ true → IsLayering table sets' repeats_from
  layering_more below new = by (list_any (pointwise nat_eq members) sets) refl
    where
      Kept : List (List ℕ) → Type 0
      Kept known = IsLayering table known repeats_from

      none : (o : Option ℕ) → lengths o sets < 2 ^ 64 → IfSome o (RepeatsFrom table (sets ++ members ∷ []))
      none None low = tt
      none (Some start) low = absurd (omega arith)

      by : (b : Bool) → list_any (pointwise nat_eq members) sets ≡ b → IsLayering table sets' repeats_from
      by true e = absurd (true≢false (sym new ∙ is ∙ ap not e))
      by false e =
          subst Kept (sym (keys ∙ ap (λ b. if b then sets else sets ++ members ∷ []) e)) (record {
            is_table = kept.is_table;
            symbols = kept.symbols;
            layers = layers_more table sets members kept.layers next;
            repeats = none repeats_from below;
          })

-- ---- the first move that leads on

weaken : {X P P' : Type 0} {Q Q' : X → Type 0} (o : Option X) → MatchOption o P Q → (P → P') → ((x : X) → Q x → Q' x) → MatchOption o P' Q'
weaken None at none some = none at
weaken (Some x) at none some = some x at

pub first_found : (test : ℕ × ℕ → Bool) (moves : Moves) → Ascends moves
    → MatchOption (find test moves) ((move : ℕ × ℕ) → Contains moves move → test move ≡ false)
    (λ found. Contains moves found × ((test found ≡ true) × ((move : ℕ × ℕ) → Contains moves move → test move ≡ true → found.0 ≤ move.0)))
first_found test [] ascends = λ move has. absurd (Contains-nil move has)
first_found test (move ∷ moves) ascends = by (test move) refl (first_found test moves (Ascends-tail move moves ascends))
  where
    later : (other : ℕ × ℕ) → Contains moves other → move.0 < other.0
    later other has =
        let at = Ascends-head move moves ascends has.0 other has.1 in
        let same = ap (λ m. m.0) has.2 in omega arith

    by : (b : Bool) → test move ≡ b
        → MatchOption (find test moves) ((other : ℕ × ℕ) → Contains moves other → test other ≡ false)
        (λ found. Contains moves found × ((test found ≡ true) × ((other : ℕ × ℕ) → Contains moves other → test other ≡ true → found.0 ≤ other.0)))
        → MatchOption (cond b (Some move) (find test moves)) ((other : ℕ × ℕ) → Contains (move ∷ moves) other → test other ≡ false)
        (λ found. Contains (move ∷ moves) found
        × ((test found ≡ true) × ((other : ℕ × ℕ) → Contains (move ∷ moves) other → test other ≡ true → found.0 ≤ other.0)))
    by true passes rest = (
      (0, omega arith, refl),
      (
        passes,
        λ other has test_other. elim (Contains-cons_cases move moves other has) [
          | inl here ↦ let same = ap (λ (m : ℕ × ℕ). m.0) here in omega arith
          | inr there ↦ let less = later other there in omega arith
        ],
      ),
    )
    by false fails rest =
        weaken (find test moves) rest
        (λ none other has. elim (Contains-cons_cases move moves other has) [
          | inl here ↦ sym (ap test here) ∙ fails
          | inr there ↦ none other there
        ])
        (λ found is. (
          Contains-cons move moves found is.0,
          (
            is.1.0,
            λ other has passes. elim (Contains-cons_cases move moves other has) [
              | inl here ↦ let same = ap test here in absurd (let no : ⊥ = cc in no)
              | inr there ↦ is.1.1 other there passes
            ],
          ),
        ))

-- what the search finds from the first symbol above the floor on, it finds with a test of the symbol from the start on
pub find_above : (test : ℕ × ℕ → Bool) (floor : ℕ) (moves : Moves) (place : ℕ)
    → IsPartitionPoint (λ move. leb move.0 floor ≡ true) (λ move. leb move.0 floor ≡ false) moves place
    → find test (drop place moves) ≡ find (λ move. nat_lt floor move.0 && test move) moves
find_above test floor [] zero point = refl
find_above test floor [] (suc place) point = refl
find_above test floor (move ∷ moves) zero point =
    let rest = find_above test floor moves zero
    ((λ k d low high. absurd (let no : ⊥ = omega arith in no)), λ k d low high. point.1 (suc k) d (omega arith) (omega arith)) in
    let above = leb-false move.0 floor (point.1 0 move (omega arith) (omega arith)) in
    let passes : nat_lt floor move.0 ≡ true = grind (arith, nat_tests) in
    ap (λ found. cond (test move) (Some move) found) rest
    ∙ ap (λ b. cond (b && test move) (Some move) (find (λ move. nat_lt floor move.0 && test move) moves)) (sym passes)
find_above test floor (move ∷ moves) (suc place) point =
    let rest = find_above test floor moves place
    ((λ k d low high. point.0 (suc k) d (omega arith) (omega arith)), λ k d low high. point.1 (suc k) d (omega arith) (omega arith)) in
    let below = leb-true move.0 floor (point.0 0 move (omega arith) (omega arith)) in
    let fails : nat_lt floor move.0 ≡ false = grind (arith, nat_tests) in
    rest ∙ ap (λ b. cond (b && test move) (Some move) (find (λ move. nat_lt floor move.0 && test move) moves)) (sym fails)

-- ascending symbols are in order
pub non_decreasing_from_ascends : (moves : Moves) → Ascends moves → IsNonDecreasingBy (λ move. move.0) moves
non_decreasing_from_ascends moves ascends i j d low high =
    elim (cases_eq i j) [
      | inl same ↦ let equal = ap (λ k. (get_or moves k d).0) same in omega arith
      | inr differ ↦ let less = ascends i j d (omega arith) high in omega arith
    ]

both : (b c : Bool) → (b && c) ≡ true → (b ≡ true) × (c ≡ true)
both true c e = (refl, e)
both false c e = absurd (let no : ⊥ = cc in no)

-- what the search through a state's moves gives
pub first_move_from_find : (table : Table) (members : List ℕ) (k state floor : ℕ) (o : Option (ℕ × ℕ)) → IsTable table
    → HasSymbols 65534 table → IsLayer table k members → o ≡ find (λ move. nat_lt floor move.0 && is_member members move.1) (moves_of table state)
    → MatchOption o (NoMove table k state floor) (IsFirstMove table k state floor)
first_move_from_find table members k state floor o is symbols layer found =
    let test : ℕ × ℕ → Bool = λ move. nat_lt floor move.0 && is_member members move.1 in
    let moves = moves_of table state in
    let P : Option (ℕ × ℕ) → Type 0 = λ r. MatchOption r (NoMove table k state floor) (IsFirstMove table k state floor) in
    subst P (sym found)
    (weaken (find test moves) (first_found test moves (IsRow-moves_of table state is).ascends)
    (λ none symbol above has.
    let move = move_of symbol above has in
    let fails = none (symbol, step table state symbol) move in
    let passes = test_passes symbol above has in
    let no : ⊥ = cc in no)
    (λ move first.
    let parts = both (nat_lt floor move.0) (is_member members move.1) first.1.0 in
    let contained : Contains moves (move.0, move.1) = first.0 in
    let most = symbol_within table 65534 state move.0 move.1 symbols contained in
    record {
      above = grind (arith, nat_tests);
      fits = omega arith;
      leads = step_from_move table state move.0 move.1 is contained;
      live = (layer move.1).0 parts.1;
      first = λ other above has.
          first.1.1 (other, step table state other) (move_of other above has) (test_passes other above has);
    }))
  where
    move_of : (symbol : ℕ) → floor < symbol → HasText table k (step table state symbol) → Contains (moves_of table state) (symbol, step table state symbol)
    move_of symbol above has =
        move_from_step table state symbol (step table state symbol) refl (HasText-state table k (step table state symbol) is has).positive

    test_passes : (symbol : ℕ) → floor < symbol
        → HasText table k (step table state symbol) → (nat_lt floor symbol && is_member members (step table state symbol)) ≡ true
    test_passes symbol above has =
        let less : nat_lt floor symbol ≡ true = grind (arith, nat_tests) in
        ap (λ b. b && is_member members (step table state symbol)) less ∙ (layer (step table state symbol)).1 has

pub IfSome-from_match : {X : Type 0} (P : Type 0) (Q : X → Type 0) (o : Option X) → MatchOption o P Q → IfSome o Q
IfSome-from_match P Q None at = tt
IfSome-from_match P Q (Some x) at = at

pub IfNone-from_match : {X : Type 0} (P : Type 0) (Q : X → Type 0) (o : Option X) → MatchOption o P Q → IfNone o P
IfNone-from_match P Q None at = at
IfNone-from_match P Q (Some x) at = tt

-- the set after the last one
pub layer_after : (table : Table) (rows : List Moves) (sets : List (List ℕ)) (last : List ℕ) (r : Result (List ℕ) Memory) → IsTable table
    → AreTurned table rows → AreLayers table sets → Some last ≡ slice_get sets (length sets - 1)
    → IfOk r (λ members. members ≡ set_of (targets_of_each rows last)) → IfOk r (IsLayer table (length sets))
layer_after table rows sets last r is turns layers at made =
    let within = slice_get_within sets (length sets - 1) last (sym at) in
    let P : List ℕ → Type 0 = λ set. IsLayer table (length sets - 1) set in
    let layer = subst P (get_or_from_slice_get sets (length sets - 1) last last (sym at)) (layers (length sets - 1) last within) in
    let next = layer_before table rows last (length sets - 1) is turns layer in
    let count : (length sets - 1) + 1 ≡ length sets = omega arith in
    IfOk-weaker r (λ (members : List ℕ). members ≡ set_of (targets_of_each rows last)) (IsLayer table (length sets))
    (λ members is_set.
    let Q : List ℕ → Type 0 = λ set. IsLayer table (length sets) set in
    let N : ℕ → Type 0 = λ n. IsLayer table n (set_of (targets_of_each rows last)) in
    subst Q (sym is_set) (subst N count next)) made
