-- What the steps of a row find first, and rows in which they find nothing.
use Rattle.std.proofs.Common.{◌≡◌, ℕ, zero, suc, ◌+◌, ◌*◌, ◌<◌, ◌≤◌, ℤ, pos, List, [], ◌∷◌, map, length, take, get_or, slice_get, Contains, Option, None, Some, ◌⊎◌, inl, inr, refl, sym, ap, subst, ◌∙◌, arith}
use Rattle.std.specs.List.{All}
use Rattle.std.proofs.lemmas.Bool.{cases_lt}
use Rattle.std.proofs.lemmas.List.{length-map}
use Rattle.std.proofs.lemmas.Option.{same_Some, slice_get_within, slice_get-get_or, get_or_from_slice_get}
use Rattle.std.proofs.lemmas.List.Elements.{All-contains, All-nil, All-cons, All-head, All-tail}
use Rattle.kb_record.specs.Tree.{Value, list_value, Places}
use Rattle.kb_record.specs.View.{places_of}
use Rattle.kb_fields.specs.Fields.{value_at, place_count}
use Rattle.kb_fields.specs.FirstFaults.{IsFirstFault}
use Rattle.kb_fields.proofs.ListingLemmas.{some_value}
use Rattle.kb_fields.proofs.NumberLemmas.{one_list_of_numbers}
use Rattle.kb_fields.proofs.PlaceLemmas.{value_at-places_of, count_places}
use Rattle.kb_fsa.specs.Table.{Moves}
use Rattle.kb_fsafile.specs.Kinds.{list_of_numbers, list_of_entries, IsNumberOf, IsTargetOf, numbered_from}
use Rattle.kb_fsafile.specs.Holds.{HoldsEntries, HoldsRows}
use Rattle.kb_fsafile.specs.Checks.{RowStep, row_kind, row_length, entry_range, entry_symbol, number_in_row, BeforeInRow, BeforeInTable}
use Rattle.kb_fsafile.specs.Standing.{IsRowKind}
use Rattle.kb_fsafile.specs.Faults.{IsRowOfTargets, IsRowOfEntries, FindsInRow, FindsInRows}
use Rattle.kb_fsafile.specs.RowsRead.{AreEntries, AreRowsAt, IsFirstOfRow, IsFirstOfRows}
use Rattle.kb_fsafile.specs.declared.format.Format.{Format}
use Rattle.kb_fsafile.specs.declared.format.Format.TheVariants.{Dense, Sparse}
use Rattle.kb_fsafile.specs.declared.error.Field.TheVariants as kinds
use Rattle.kb_fsafile.specs.declared.error.FsaError.{FsaError}
use Rattle.kb_fsafile.specs.declared.error.FsaError.TheVariants as errors
use Rattle.kb_fsafile.proofs.CheckLemmas.{same_row_step}
use Rattle.kb_fsafile.proofs.FirstLemmas.{found_or_memory, memory_or_weaker}
use Rattle.kb_fsafile.proofs.NumberLemmas.{pos_contained}
use Rattle.kb_fsafile.proofs.UniqueAutomaton.{one_list_of_entries, pos_same, integers}
use Rattle.kb_fsafile.proofs.HeldFields.{row_at_place, value_within}

-- ---- places of lists

among_first : {A : Type 0} (xs : List A) (k j : ℕ) (x : A) → slice_get xs j ≡ Some x → j < k → slice_get (take k xs) j ≡ Some x
among_first [] k j x at before = cc
among_first (y ∷ xs) zero j x at before = absurd (omega (arith, before))
among_first (y ∷ xs) (suc k) zero x at before = at
among_first (y ∷ xs) (suc k) (suc j) x at before = among_first xs k j x at (omega (arith, before))

has_place : {A : Type 0} (xs : List A) (j : ℕ) (x : A) → slice_get xs j ≡ Some x → Contains xs x
has_place xs j x at = (j, slice_get_within xs j x at, get_or_from_slice_get xs j x x at)

-- what stands at a place of the entries as integers stands there
record IsEntryAt (entries : List (ℕ × ℕ)) (k : ℕ) (pair : ℤ × ℤ) : Type 0 where
  pub entry : ℕ × ℕ
  pub stands : slice_get entries k ≡ Some entry
  pub same : integers entry ≡ pair

entry_at_place : (entries : List (ℕ × ℕ)) (k : ℕ) (pair : ℤ × ℤ) → slice_get (map integers entries) k ≡ Some pair → IsEntryAt entries k pair
entry_at_place [] k pair at = cc
entry_at_place (e ∷ entries) zero pair at = record { entry = e; stands = refl; same = inner at }
  where
    inner : {a b : ℤ × ℤ} → Some a ≡ Some b → a ≡ b
    inner h = cc
entry_at_place (e ∷ entries) (suc k) pair at =
    let rest = entry_at_place entries k pair at in record { entry = rest.entry; stands = rest.stands; same = rest.same }

-- ---- numbers in range

pub number_of : (count : ℕ) (state : ℕ) (z : ℤ) → pos state ≡ z → 0 < state → state ≤ count → IsNumberOf count z
number_of count state z is positive within = record { number = state; is_number = sym is; positive = positive; within = within }

pub target_of : (count : ℕ) (state : ℕ) (z : ℤ) → pos state ≡ z → state ≤ count → IsTargetOf count z
target_of count state z is within = record { number = state; is_number = sym is; within = within }

-- a target of a row is in range
target_inside : (count : ℕ) (numbers : List ℤ) (targets : List ℕ) (j : ℕ) (z : ℤ) → numbers ≡ map pos targets → All (λ (t : ℕ). t ≤ count) targets
    → slice_get numbers j ≡ Some z → IsTargetOf count z
target_inside count numbers targets j z same within at =
    let P : List ℤ → Type 0 = λ ns. Contains ns z in
    let is = pos_contained targets z (subst P same (has_place numbers j z at)) in
    target_of count is.state z (sym is.same) (All-contains (λ (t : ℕ). t ≤ count) targets is.state within is.contained)

-- an entry of a row is in range
no_entry_outside : (size count : ℕ) (pairs : List (ℤ × ℤ)) (entries : List (ℕ × ℕ)) (j : ℕ) (z t : ℤ) → AreEntries size count pairs entries → slice_get pairs j ≡ Some (z, t)
    → (IsNumberOf size z → ⊥) ⊎ (IsTargetOf count t → ⊥) → ⊥
no_entry_outside size count pairs entries j z t are stands outside = go outside
  where
    at : IsEntryAt entries j (z, t)
    at = entry_at_place entries j (z, t) (ap (λ (ps : List (ℤ × ℤ)). slice_get ps j) (sym are.same) ∙ stands)

    contained : Contains entries at.entry
    contained = has_place entries j at.entry at.stands

    bounds : (0 < at.entry.0) × (at.entry.0 ≤ size)
    bounds = All-contains (λ (e : ℕ × ℕ). (0 < e.0) × (e.0 ≤ size)) entries at.entry are.symbols contained

    small : at.entry.1 ≤ count
    small = All-contains (λ (e : ℕ × ℕ). e.1 ≤ count) entries at.entry are.targets contained

    go : (IsNumberOf size z → ⊥) ⊎ (IsTargetOf count t → ⊥) → ⊥
    go (inl symbol) = symbol (number_of size at.entry.0 z (ap (λ (p : ℤ × ℤ). p.0) at.same) bounds.0 bounds.1)
    go (inr target) = target (target_of count at.entry.1 t (ap (λ (p : ℤ × ℤ). p.1) at.same) small)

-- no symbol of a row stands twice
no_symbol_twice : (size count : ℕ) (pairs : List (ℤ × ℤ)) (entries : List (ℕ × ℕ)) (first again : ℕ) (z t u : ℤ) → AreEntries size count pairs entries → first < again
    → slice_get pairs first ≡ Some (z, t) → slice_get pairs again ≡ Some (z, u) → ⊥
no_symbol_twice size count pairs entries first again z t u are later at_first at_again = apart (pos_same symbols)
  where
    one : IsEntryAt entries first (z, t)
    one = entry_at_place entries first (z, t) (ap (λ (ps : List (ℤ × ℤ)). slice_get ps first) (sym are.same) ∙ at_first)

    other : IsEntryAt entries again (z, u)
    other = entry_at_place entries again (z, u) (ap (λ (ps : List (ℤ × ℤ)). slice_get ps again) (sym are.same) ∙ at_again)

    symbols : pos one.entry.0 ≡ pos other.entry.0
    symbols = ap (λ (p : ℤ × ℤ). p.0) one.same ∙ sym (ap (λ (p : ℤ × ℤ). p.0) other.same)

    apart : one.entry.0 ≡ other.entry.0 → ⊥
    apart same =
        let here = ap (λ (e : ℕ × ℕ). e.0) (get_or_from_slice_get entries first one.entry (0, 0) one.stands) in
        let there = ap (λ (e : ℕ × ℕ). e.0) (get_or_from_slice_get entries again other.entry (0, 0) other.stands) in
        are.apart first again (0, 0) later (slice_get_within entries again other.entry other.stands) (here ∙ (same ∙ sym there))

-- ---- one row

-- a place that is no row of the format
pub other_row_kind : (format : Format) (size count : ℕ) (row : Option Value) (error : FsaError) → error ≡ errors.WrongKind kinds.Transitions
    → ((value : Value) → row ≡ Some value → IsRowKind format value → ⊥) → IsFirstOfRow format size count row error
other_row_kind format size count row error named other =
    found_or_memory (IsFirstFault BeforeInRow (FindsInRow format size count row)) error
    (record { check = row_kind; found = (named, other); first = λ earlier e before found. absurd (omega (arith, before)) })

-- a row of targets
module _ (size count : ℕ) (numbers : List ℤ) (row : Option Value) (is : IsRowOfTargets row numbers) where
  same_numbers : (others : List ℤ) → IsRowOfTargets row others → others ≡ numbers
  same_numbers others e = one_list_of_numbers others numbers (some_value (sym e ∙ is))

  number_at_place : (others : List ℤ) (j : ℕ) (z : ℤ) → IsRowOfTargets row others → slice_get others j ≡ Some z → slice_get numbers j ≡ Some z
  number_at_place others j z e at = ap (λ (ns : List ℤ). slice_get ns j) (sym (same_numbers others e)) ∙ at

  -- which is not as long as the alphabet
  pub dense_length : (error : FsaError) → error ≡ errors.StatesWrong → (length numbers ≡ size → ⊥) → IsFirstFault BeforeInRow (FindsInRow Dense size count row) error
  dense_length error named other = record { check = row_length; found = (named, numbers, is, other); first = λ earlier e before found. sooner earlier e before found }
    where
      sooner : (s : RowStep) (e : FsaError) → number_in_row s < 1 → FindsInRow Dense size count row s e → ⊥
      sooner row_kind e before found = found.1 (list_value (list_of_numbers numbers)) is (numbers, refl)
      sooner row_length e before found = omega (arith, before)
      sooner (entry_range j) e before found = omega (arith, before)
      sooner (entry_symbol j) e before found = omega (arith, before)

  module _ (full : length numbers ≡ size) where
    dense_until : (k : ℕ) → ((j : ℕ) (z : ℤ) → j < k → slice_get numbers j ≡ Some z → IsTargetOf count z)
        → (s : RowStep) (e : FsaError) → number_in_row s < 2 + 2 * k → FindsInRow Dense size count row s e → ⊥
    dense_until k inside row_kind e before found = found.1 (list_value (list_of_numbers numbers)) is (numbers, refl)
    dense_until k inside row_length e before found = found.3 (ap length (same_numbers found.1 found.2) ∙ full)
    dense_until k inside (entry_range j) e before found =
        found.5 (inside j found.2 (omega (arith, before)) (number_at_place found.1 j found.2 found.3 found.4))
    dense_until k inside (entry_symbol j) e before found = absurd found

    -- of which a target is out of range, and none before it
    pub dense_outside : (k : ℕ) (targets : List ℕ) (z : ℤ) (error : FsaError) → error ≡ errors.TargetOutOfRange → take k numbers ≡ map pos targets
        → All (λ (t : ℕ). t ≤ count) targets → slice_get numbers k ≡ Some z → (IsTargetOf count z → ⊥)
        → IsFirstFault BeforeInRow (FindsInRow Dense size count row) error
    dense_outside k targets z error named same within at outside = record {
      check = entry_range k;
      found = (named, numbers, z, is, at, outside);
      first = λ earlier e before found. dense_until k (λ j y inside there. target_inside count (take k numbers) targets j y same within (among_first numbers k j y there inside))
          earlier e before found;
    }

    dense_none : (targets : List ℕ) → numbers ≡ map pos targets → All (λ (t : ℕ). t ≤ count) targets → (s : RowStep) (e : FsaError) → FindsInRow Dense size count row s e → ⊥
    dense_none targets same within s e found =
        dense_until (number_in_row s) (λ j y inside there. target_inside count numbers targets j y same within there) s e (omega arith) found

-- a row of entries
module _ (size count : ℕ) (pairs : List (ℤ × ℤ)) (row : Option Value) (is : IsRowOfEntries row pairs) where
  pair_at_place : (others : List (ℤ × ℤ)) (j : ℕ) (p : ℤ × ℤ) → IsRowOfEntries row others → slice_get others j ≡ Some p → slice_get pairs j ≡ Some p
  pair_at_place others j p e at =
      let same = one_list_of_entries others pairs (some_value (sym e ∙ is)) in ap (λ (ps : List (ℤ × ℤ)). slice_get ps j) (sym same) ∙ at

  sparse_until : (k : ℕ) (some : List (ℤ × ℤ)) (entries : List (ℕ × ℕ)) → ((j : ℕ) (p : ℤ × ℤ) → j < k → slice_get pairs j ≡ Some p → slice_get some j ≡ Some p)
      → AreEntries size count some entries → (s : RowStep) (e : FsaError) → number_in_row s < 2 + 2 * k → FindsInRow Sparse size count row s e → ⊥
  sparse_until k some entries inside are row_kind e before found = found.1 (list_value (list_of_entries pairs)) is (pairs, refl)
  sparse_until k some entries inside are row_length e before found = absurd found
  sparse_until k some entries inside are (entry_range j) e before found =
      let here = inside j (found.2, found.3) (omega (arith, before)) (pair_at_place found.1 j (found.2, found.3) found.4 found.5) in
      no_entry_outside size count some entries j found.2 found.3 are here found.6
  sparse_until k some entries inside are (entry_symbol j) e before found =
      let here = inside j (found.3, found.5) (omega (arith, before)) (pair_at_place found.1 j (found.3, found.5) found.6 found.9) in
      let there = inside found.2 (found.3, found.4) (omega (arith, before, found.7)) (pair_at_place found.1 found.2 (found.3, found.4) found.6 found.8) in
      no_symbol_twice size count some entries found.2 j found.3 found.4 found.5 are found.7 there here

  pub sparse_none : (entries : List (ℕ × ℕ)) → AreEntries size count pairs entries → (s : RowStep) (e : FsaError) → FindsInRow Sparse size count row s e → ⊥
  sparse_none entries are s e found = sparse_until (number_in_row s) pairs entries (λ j p inside there. there) are s e (omega arith) found

  -- of which the first k are read
  module _ (k : ℕ) (entries : List (ℕ × ℕ)) (are : AreEntries size count (take k pairs) entries) where
    sparse_before : (s : RowStep) (e : FsaError) → number_in_row s < 2 + 2 * k → FindsInRow Sparse size count row s e → ⊥
    sparse_before s e before found = sparse_until k (take k pairs) entries (λ j p inside there. among_first pairs k j p there inside) are s e before found

    -- and the next is out of range
    pub sparse_outside : (z t : ℤ) (error : FsaError) → error ≡ errors.TargetOutOfRange → slice_get pairs k ≡ Some (z, t)
        → (IsNumberOf size z → ⊥) ⊎ (IsTargetOf count t → ⊥) → IsFirstFault BeforeInRow (FindsInRow Sparse size count row) error
    sparse_outside z t error named at outside =
        record { check = entry_range k; found = (named, pairs, z, t, is, at, outside); first = λ earlier e before found. sparse_before earlier e before found }

    -- and the next is in range, and of an earlier symbol
    pub sparse_twice : (first : ℕ) (z t u : ℤ) (error : FsaError) → error ≡ errors.NotDeterministic → slice_get pairs k ≡ Some (z, u) → IsNumberOf size z → IsTargetOf count u
        → first < k → slice_get pairs first ≡ Some (z, t) → IsFirstFault BeforeInRow (FindsInRow Sparse size count row) error
    sparse_twice first z t u error named at symbol target before at_first =
        record { check = entry_symbol k; found = (named, pairs, first, z, t, u, is, before, at_first, at); first = λ earlier e sooner found. none earlier e sooner found }
      where
        go : (p q : ℤ × ℤ) → p ≡ q → IsNumberOf size q.0 → IsTargetOf count q.1 → (IsNumberOf size p.0 → ⊥) ⊎ (IsTargetOf count p.1 → ⊥) → ⊥
        go p q same a b (inl other) = let P : ℤ × ℤ → Type 0 = λ r. IsNumberOf size r.0 in other (subst P (sym same) a)
        go p q same a b (inr other) = let P : ℤ × ℤ → Type 0 = λ r. IsTargetOf count r.1 in other (subst P (sym same) b)

        here : (e : FsaError) → FindsInRow Sparse size count row (entry_range k) e → ⊥
        here e found =
            let stands = pair_at_place found.1 k (found.2, found.3) found.4 found.5 in
            go (found.2, found.3) (z, u) (same_Some {A = ℤ × ℤ} (found.2, found.3) (z, u) (sym stands ∙ at)) symbol target found.6

        none : (s : RowStep) (e : FsaError) → number_in_row s < 3 + 2 * k → FindsInRow Sparse size count row s e → ⊥
        none s e sooner found = elim (cases_lt (number_in_row s) (2 + 2 * k)) [
          | inl less ↦ sparse_before s e less found
          | inr at_least ↦
              let P : RowStep → Type 0 = λ step. FindsInRow Sparse size count row step e in
              here e (subst P (same_row_step s (entry_range k) (omega (arith, sooner, at_least))) found)
        ]

-- ---- rows that are held

targets_within : (count symbol : ℕ) (targets : List ℕ) → All (λ (e : ℕ × ℕ). e.1 ≤ count) (numbered_from symbol targets) → All (λ (t : ℕ). t ≤ count) targets
targets_within count symbol [] within = All-nil (λ (t : ℕ). t ≤ count)
targets_within count symbol (t ∷ targets) within =
    All-cons (λ (u : ℕ). u ≤ count) t targets (All-head (λ (e : ℕ × ℕ). e.1 ≤ count) (symbol, t) (numbered_from (suc symbol) targets) within)
    (targets_within count (suc symbol) targets (All-tail (λ (e : ℕ × ℕ). e.1 ≤ count) (symbol, t) (numbered_from (suc symbol) targets) within))

held_none : (size count : ℕ) (format : Format) (value : Value) (entries : List (ℕ × ℕ)) → HoldsEntries size value format entries → All (λ (e : ℕ × ℕ). e.1 ≤ count) entries
    → (s : RowStep) (e : FsaError) → FindsInRow format size count (Some value) s e → ⊥
held_none size count _ value entries (HoldsEntries.dense targets listed full numbered) small s e found =
    let P : List (ℕ × ℕ) → Type 0 = λ es. All (λ (e : ℕ × ℕ). e.1 ≤ count) es in
    dense_none size count (map pos targets) (Some value) (ap Some listed) (length-map targets pos ∙ full) targets refl (targets_within count 1 targets (subst P numbered small)) s e found
held_none size count _ value entries (HoldsEntries.sparse listed apart symbols) small s e found =
    sparse_none size count (map integers entries) (Some value) (ap Some listed) entries (record { same = refl; apart = apart; symbols = symbols; targets = small }) s e found

-- ---- all rows

pub rows_none : (size count : ℕ) (format : Format) (places : Places) (rows : List Moves) → HoldsRows size count format places rows
    → (check : ℕ × RowStep) (e : FsaError) → FindsInRows format size count places check e → ⊥
rows_none size count format places rows h check e found =
    let here = value_within size count format places rows check.0 h found.0 in
    let held = row_at_place size count format places rows check.0 here.0 h here.1 in
    let P : Option Value → Type 0 = λ row. FindsInRow format size count row check.1 e in
    held_none size count format here.0 held.holds.entries held.holds.holds held.holds.targets check.1 e (subst P here.1 found.1)

-- the first fault of a row is the first of all, where the rows before it are read
pub first_row : (size count : ℕ) (format : Format) (ps : List (Option Value)) (k : ℕ) (p : Option Value) (rows : List Moves) (error : FsaError) → slice_get ps k ≡ Some p
    → AreRowsAt size count format (places_of (take k ps)) rows → IsFirstFault BeforeInRow (FindsInRow format size count p) error
    → IsFirstFault BeforeInTable (FindsInRows format size count (places_of ps)) error
first_row size count format ps k p rows error at are fault =
    record { check = (k, fault.check); found = (seen.1, subst (There fault.check error) (sym seen.0) fault.found); first = λ earlier e before found. sooner earlier.0 earlier.1 e before found }
  where
    seen : (value_at (places_of ps) k ≡ p) × (k < place_count (places_of ps))
    seen = value_at-places_of ps k p at

    There : RowStep → FsaError → Option Value → Type 0
    There s e row = FindsInRow format size count row s e

    earlier_row : (l : ℕ) (s : RowStep) (e : FsaError) → l < k → FindsInRows format size count (places_of ps) (l, s) e → ⊥
    earlier_row l s e before found =
        let all = count_places ps in
        let inside : l < length ps = omega (arith, all, found.0) in
        let stands = slice_get-get_or ps l None inside in
        let here = value_at-places_of ps l (get_or ps l None) stands in
        let there = value_at-places_of (take k ps) l (get_or ps l None) (among_first ps k l (get_or ps l None) stands before) in
        rows_none size count format (places_of (take k ps)) rows are.holds (l, s) e (there.1, subst (There s e) (here.0 ∙ sym there.0) found.1)

    sooner : (l : ℕ) (s : RowStep) (e : FsaError) → BeforeInTable (l, s) (k, fault.check) → FindsInRows format size count (places_of ps) (l, s) e → ⊥
    sooner l s e (inl before) found = earlier_row l s e before found
    sooner l s e (inr same) found =
        let P : ℕ → Type 0 = λ n. FindsInRow format size count (value_at (places_of ps) n) s e in
        fault.first s e same.1 (subst (There s e) seen.0 (subst P same.0 found.1))

pub first_row_of : (size count : ℕ) (format : Format) (ps : List (Option Value)) (k : ℕ) (p : Option Value) (rows : List Moves) (error : FsaError) → slice_get ps k ≡ Some p
    → AreRowsAt size count format (places_of (take k ps)) rows → IsFirstOfRow format size count p error → IsFirstOfRows format size count (places_of ps) error
first_row_of size count format ps k p rows error at are fault =
    memory_or_weaker (IsFirstFault BeforeInRow (FindsInRow format size count p)) (IsFirstFault BeforeInTable (FindsInRows format size count (places_of ps)))
    (λ e first. first_row size count format ps k p rows e at are first) error fault
