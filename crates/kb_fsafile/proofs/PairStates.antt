-- The automaton of pairs that a file says, from the cleaned part of its table that texts lead to: reached states have the
-- moves of that part, by the numbers of the file, and the others keep theirs but for those by two paddings.
use Rattle.std.proofs.Common.{◌≡◌, ◌≢◌, ℕ, zero, suc, ◌+◌, ◌*◌, ◌<◌, ◌≤◌, Bool, false, not, nat_eq, IsTrue, List, [], ◌∷◌, ◌++◌, length, get_or, slice_get, Some, refl, sym, ap, ◌∙◌, subst, inl, inr, arith}
use Rattle.std.specs.List.{All, filter}
use Rattle.std.specs.Option.{unwrap_or}
use Rattle.std.proofs.lemmas.Bool.{cases_lt}
use Rattle.std.proofs.lemmas.List.{get_or_past}
use Rattle.std.proofs.lemmas.List.Elements.{All-nil, All-cons, All-head, All-tail, All-filter}
use Rattle.std.proofs.lemmas.List.Kept.{AllPairs-filter}
use Rattle.std.proofs.lemmas.Option.{none-some, slice_get_within, get_or_from_slice_get}
use Rattle.kb_fsa.specs.Table.{Moves, Table, IsTable, IsRow, target, moves_of, is_accepting, step, after, state_after}
use Rattle.kb_fsa.proofs.Lookups.{IsRow-moves_of, All-moves_of, step_past, step_within, after_within, after-append, after_none}
use Rattle.kb_explore.specs.Exploration.{numbered, IsExploration}
use Rattle.kb_explore.proofs.ExplorationLemmas.{leads_nowhere}
use Rattle.kb_explore.proofs.Lists.{item_within}
use Rattle.kb_padding.specs.Misplaced.{IsMisplaced, IsDropped, IsWithoutMisplaced, IsCleaned, IsPaddingFault}
use Rattle.kb_padding.specs.declared.error.PaddingFault.{PaddingFault}
use Rattle.kb_padding.specs.declared.error.PaddingFault.TheVariants as padding_faults
use Rattle.kb_fsafile.specs.RowsRead.{IsCleaningFault}
use Rattle.kb_fsafile.specs.declared.error.FsaError.{FsaError}
use Rattle.kb_fsafile.proofs.ReachedStates.{leads_machine, state_from_some, explored_same}
use Rattle.kb_fsa.specs.declared.alphabet.Alphabet.{Alphabet}
use Rattle.kb_fsa.specs.declared.alphabet.Alphabet.TheVariants.{Plain, Pair}
use Rattle.kb_fsafile.specs.Languages.{some_state, machine_of, AcceptSame, IsCleanedAs, IsReachedPart}
use Rattle.kb_fsafile.proofs.RenamedRows.{IsListed, listed, original, original_is, unwrap_some, some_positive, renamed, target_renamed, symbols_renamed, targets_renamed, ascends_renamed, both, keeps, lookup_stays, lookup_gone}

-- ---- the table by the states of the file

module _ (n : ℕ) (states : List ℕ) (made : Table) where
  abbrev chosen : (state : ℕ) → IsListed states state → Moves → Moves
  chosen state (inl found) row = renamed states (moves_of made (suc found.0))
  chosen state (inr none) row = filter (λ (move : ℕ × ℕ). not (nat_eq move.0 ((n + 1) * (n + 1)))) row

  abbrev row_at : ℕ → Moves → Moves
  row_at state row = chosen state (listed states state) row

  abbrev rows_from : ℕ → List Moves → List Moves
  rows_from state [] = []
  rows_from state (row ∷ rows) = row_at state row ∷ rows_from (suc state) rows

  rows_from_length : (state : ℕ) (rows : List Moves) → length (rows_from state rows) ≡ length rows
  rows_from_length state [] = refl
  rows_from_length state (row ∷ rows) = ap suc (rows_from_length (suc state) rows)

  rows_from_at : (state : ℕ) (rows : List Moves) (place : ℕ) → place < length rows
      → get_or (rows_from state rows) place [] ≡ row_at (state + place) (get_or rows place [])
  rows_from_at state [] place within = absurd (let no : ⊥ = omega arith in no)
  rows_from_at state (row ∷ rows) zero within = ap (λ s. row_at s row) (let e : state ≡ state + 0 = omega arith in e)
  rows_from_at state (row ∷ rows) (suc place) within =
      rows_from_at (suc state) rows place (omega arith)
      ∙ ap (λ s. row_at s (get_or rows place [])) (let e : suc state + place ≡ state + suc place = omega arith in e)

  all_rows : (P Q : Moves → Type 0) → ((state : ℕ) (row : Moves) → P row → Q (row_at state row)) → (rows : List Moves) (state : ℕ) → All P rows
      → All Q (rows_from state rows)
  all_rows P Q goes [] state all = All-nil Q
  all_rows P Q goes (row ∷ rows) state all =
      All-cons Q (row_at state row) (rows_from (suc state) rows) (goes state row (All-head P row rows all))
      (all_rows P Q goes rows (suc state) (All-tail P row rows all))

module _ (n : ℕ) (read part made : Table) (states : List ℕ) (origins : List (ℕ × ℕ)) (is_read : IsTable read)
    (explored : IsExploration (machine_of read) part states origins) (cleaned : IsWithoutMisplaced n part made) where
  -- ---- texts and numbers

  original_after : (text : List ℕ) → original states (state_after part text) ≡ state_after read text
  original_after text =
      original_is states (state_after part text) ∙ ap (λ o. unwrap_or o 0) (explored.leads_there text ∙ leads_machine read text)
      ∙ unwrap_some (state_after read text)

  record Led (k state : ℕ) : Type 0 where
    text : List ℕ
    number : state_after part text ≡ suc k
    leads : state_after read text ≡ state
    positive : 0 < state

  -- a text leads to each state that is listed
  led : (k state : ℕ) → slice_get states k ≡ Some state → Led k state
  led k state at =
      let one_state = explored.one_state_each in
      let one_word = explored.one_word_each in
      let within = slice_get_within states k state at in
      let word = item_within explored.words k (omega arith) in
      let least = explored.least (suc k) word.0 word.1 in
      let is : some_state (state_after read word.0) ≡ Some state =
      sym (leads_machine read word.0) ∙ sym (explored.leads_there word.0) ∙ ap (numbered states) least.leads ∙ at in
      record {
        text = word.0;
        number = least.leads;
        leads = state_from_some (state_after read word.0) state is;
        positive = some_positive (state_after read word.0) state is;
      }

  -- and what a text leads to is listed
  number_of : (text : List ℕ) (state : ℕ) → state_after read text ≡ state → 0 < state
      → (k : ℕ) × ((slice_get states k ≡ Some state) × (state_after part text ≡ suc k))
  number_of text zero leads positive = absurd (let no : ⊥ = omega arith in no)
  number_of text (suc place) leads positive =
      by (state_after part text) refl (explored.leads_there text ∙ leads_machine read text ∙ ap some_state leads)
    where
      by : (number : ℕ) → state_after part text ≡ number → numbered states (state_after part text) ≡ Some (suc place)
          → (k : ℕ) × ((slice_get states k ≡ Some (suc place)) × (state_after part text ≡ suc k))
      by zero is at = absurd (none-some (suc place) (sym (ap (numbered states) is) ∙ at))
      by (suc k) is at = (k, (sym (ap (numbered states) is) ∙ at, is))

  part_step : (k state symbol : ℕ) (way : Led k state) → state_after part (way.text ++ symbol ∷ []) ≡ step part (suc k) symbol
  part_step k state symbol way =
      after-append part part.initial way.text (symbol ∷ []) ∙ ap (λ s. step part s symbol) way.number

  read_step : (k state symbol : ℕ) (way : Led k state) → state_after read (way.text ++ symbol ∷ []) ≡ step read state symbol
  read_step k state symbol way =
      after-append read read.initial way.text (symbol ∷ []) ∙ ap (λ s. step read s symbol) way.leads

  original_step : (k state symbol : ℕ) → slice_get states k ≡ Some state → original states (step part (suc k) symbol) ≡ step read state symbol
  original_step k state symbol at =
      let way = led k state at in
      ap (original states) (sym (part_step k state symbol way)) ∙ original_after (way.text ++ symbol ∷ []) ∙ read_step k state symbol way

  -- where the file's state has no move, its number has none
  no_step : (k state symbol : ℕ) → slice_get states k ≡ Some state → step read state symbol ≡ 0 → step part (suc k) symbol ≡ 0
  no_step k state symbol at none =
      let way = led k state at in
      let text = way.text ++ symbol ∷ [] in
      sym (part_step k state symbol way)
      ∙ (leads_nowhere explored text).1 (leads_machine read text ∙ ap some_state (read_step k state symbol way ∙ none))

  -- ---- the whole table

  abbrev whole : Table
  whole = record { initial = read.initial; rows = rows_from n states made 1 read.rows; accepting = read.accepting }

  moves_whole : (place : ℕ) → place < length read.rows → moves_of whole (suc place) ≡ row_at n states made (suc place) (moves_of read (suc place))
  moves_whole place within =
      rows_from_at n states made 1 read.rows place within ∙ ap (λ s. row_at n states made s (get_or read.rows place [])) (let e : 1 + place ≡ suc place = omega arith in e)

  made_count : length made.rows ≡ length states
  made_count = cleaned.size ∙ sym explored.one_state_each

  state_within : (k state : ℕ) → slice_get states k ≡ Some state → state ≤ length read.rows
  state_within k state at =
      let way = led k state at in
      let within = after_within read read.initial way.text is_read is_read.initial in
      let leads = way.leads in omega arith

  original_within : (number : ℕ) → original states number ≤ length read.rows
  original_within zero = omega arith
  original_within (suc k) =
      elim (cases_lt k (length states)) [
        | inl less ↦
            let at = item_within states k less in
            let is = get_or_from_slice_get states k at.0 0 at.1 in
            let within = state_within k at.0 at.1 in omega arith
        | inr past ↦ let none = get_or_past states k 0 past in omega arith
      ]

  original_positive : (number : ℕ) → (0 < number) × (number ≤ length states) → 0 < original states number
  original_positive zero bounds = absurd (let no = bounds.0 in let never : ⊥ = omega arith in never)
  original_positive (suc k) bounds =
      let within = bounds.1 in
      let at = item_within states k (omega arith) in
      let is = get_or_from_slice_get states k at.0 0 at.1 in
      let way = led k at.0 at.1 in
      let positive = way.positive in omega arith

  -- what a row of the whole table is, by whether the state is listed
  row_is : (state : ℕ) (row : Moves) (choice : IsListed states state) → IsRow row → IsRow (chosen n states made state choice row)
  row_is state row (inl found) is =
      let moves = moves_of made (suc found.0) in
      let old = IsRow-moves_of made (suc found.0) cleaned.is_table in
      let targets = All-moves_of (λ (ms : Moves). All (λ (m : ℕ × ℕ). m.1 ≤ length made.rows) ms) made (suc found.0)
      (All-nil (λ (m : ℕ × ℕ). m.1 ≤ length made.rows)) cleaned.is_table.targets in
      let count = made_count in
      let bounds : All (λ (m : ℕ × ℕ). (0 < m.1) × (m.1 ≤ length states)) moves =
      λ k d within. ((old.numbers k d within).1, (let low = targets k d within in omega arith)) in
      let symbols : All (λ (m : ℕ × ℕ). 0 < m.0) moves = λ k d within. (old.numbers k d within).0 in
      record {
        ascends = ascends_renamed states moves old.ascends;
        numbers = both (λ (m : ℕ × ℕ). 0 < m.0) (λ (m : ℕ × ℕ). 0 < m.1) (renamed states moves) (symbols_renamed (λ symbol. 0 < symbol) states moves symbols)
            (targets_renamed (λ number. (0 < number) × (number ≤ length states)) (λ state. 0 < state) states original_positive moves bounds);
      }
  row_is state row (inr none) is = record {
    ascends = AllPairs-filter (λ (e : ℕ × ℕ) (later : ℕ × ℕ). e.0 < later.0) (keeps ((n + 1) * (n + 1))) row is.ascends;
    numbers = All-filter (keeps ((n + 1) * (n + 1))) (λ (m : ℕ × ℕ). (0 < m.0) × (0 < m.1)) row is.numbers;
  }

  row_within : (state : ℕ) (row : Moves) (choice : IsListed states state) → All (λ (m : ℕ × ℕ). m.1 ≤ length read.rows) row
      → All (λ (m : ℕ × ℕ). m.1 ≤ length read.rows) (chosen n states made state choice row)
  row_within state row (inl found) all =
      targets_renamed (λ number. number ≡ number) (λ s. s ≤ length read.rows) states (λ number same. original_within number) (moves_of made (suc found.0))
      (λ k d within. refl)
  row_within state row (inr none) all = All-filter (keeps ((n + 1) * (n + 1))) (λ (m : ℕ × ℕ). m.1 ≤ length read.rows) row all

  whole_table : IsTable whole
  whole_table =
      let count = rows_from_length n states made 1 read.rows in
      let one = is_read.one_answer_each in let size = is_read.size in let initial = is_read.initial in
      record {
        one_answer_each = omega arith;
        size = omega arith;
        initial = omega arith;
        rows = all_rows n states made IsRow IsRow (λ state row is. row_is state row (listed states state) is) read.rows 1 is_read.rows;
        targets = all_rows n states made (All (λ (m : ℕ × ℕ). m.1 ≤ length read.rows)) (All (λ (m : ℕ × ℕ). m.1 ≤ length (rows_from n states made 1 read.rows)))
            (λ state row all k d within. (let low = row_within state row (listed states state) all k d within in omega arith))
            read.rows 1 is_read.targets;
      }

  -- ---- steps of the whole table

  target_listed : (k state symbol : ℕ) (row : Moves) (choice : IsListed states state) → slice_get states k ≡ Some state
      → target (chosen n states made state choice row) symbol ≡ original states (step made (suc k) symbol)
  target_listed k state symbol row (inl found) at =
      let same : found.0 ≡ k = explored.distinct found.0 k state found.1 at in
      target_renamed states (moves_of made (suc found.0)) symbol ∙ ap (λ p. original states (step made (suc p) symbol)) same
  target_listed k state symbol row (inr none) at = absurd (none k at)

  step_listed : (k state symbol : ℕ) → slice_get states k ≡ Some state → step whole state symbol ≡ original states (step made (suc k) symbol)
  step_listed k zero symbol at = let way = led k 0 at in absurd (let positive = way.positive in let no : ⊥ = omega arith in no)
  step_listed k (suc place) symbol at =
      let within = state_within k (suc place) at in
      ap (λ ms. target ms symbol) (moves_whole place (omega arith))
      ∙ target_listed k (suc place) symbol (moves_of read (suc place)) (listed states (suc place)) at

  target_kept : (state symbol : ℕ) (row : Moves) (choice : IsListed states state) → ((k : ℕ) → slice_get states k ≡ Some state → ⊥) → symbol ≢ (n + 1) * (n + 1)
      → target (chosen n states made state choice row) symbol ≡ target row symbol
  target_kept state symbol row (inl found) none other = absurd (none found.0 found.1)
  target_kept state symbol row (inr unlisted) none other = ap (λ o. unwrap_or o 0) (lookup_stays ((n + 1) * (n + 1)) row symbol other)

  target_gone : (state symbol : ℕ) (row : Moves) (choice : IsListed states state) → symbol ≡ (n + 1) * (n + 1)
      → target (chosen n states made state choice row) symbol ≡ 0
  target_gone state symbol row (inl found) last =
      target_renamed states (moves_of made (suc found.0)) symbol ∙ ap (original states) (cleaned.dropped (suc found.0) symbol (inr last))
  target_gone state symbol row (inr none) last = ap (λ o. unwrap_or o 0) (lookup_gone ((n + 1) * (n + 1)) row symbol last)

  whole_past : (place symbol : ℕ) → length read.rows ≤ place → step whole (suc place) symbol ≡ 0
  whole_past place symbol past =
      let count = rows_from_length n states made 1 read.rows in step_past whole (suc place) symbol (omega arith)

  step_gone : (state symbol : ℕ) → symbol ≡ (n + 1) * (n + 1) → step whole state symbol ≡ 0
  step_gone zero symbol last = refl
  step_gone (suc place) symbol last =
      elim (cases_lt place (length read.rows)) [
        | inr past ↦ whole_past place symbol past
        | inl within ↦
            ap (λ ms. target ms symbol) (moves_whole place within)
            ∙ target_gone (suc place) symbol (moves_of read (suc place)) (listed states (suc place)) last
      ]

  -- a move that is dropped of the part is one of the file, and the other way round
  dropped_part : (k state symbol : ℕ) → slice_get states k ≡ Some state → IsDropped n part (suc k) symbol → IsDropped n read state symbol
  dropped_part k state symbol at (inr last) = inr last
  dropped_part k state symbol at (inl misplaced) = inl (record {
    text = misplaced.text;
    leads = sym (original_after misplaced.text) ∙ ap (original states) misplaced.leads ∙ get_or_from_slice_get states k state 0 at;
    some = λ none. misplaced.some (no_step k state symbol at none);
    out_of_place = misplaced.out_of_place;
  })

  step_misplaced : (state symbol : ℕ) → IsMisplaced n read state symbol → step whole state symbol ≡ 0
  step_misplaced zero symbol misplaced = refl
  step_misplaced (suc place) symbol misplaced =
      let there = number_of misplaced.text (suc place) misplaced.leads (omega arith) in
      let at = there.1.0 in
      let here : IsMisplaced n part (suc there.0) symbol = record {
        text = misplaced.text;
        leads = there.1.1;
        some = λ none. misplaced.some (sym (original_step there.0 (suc place) symbol at) ∙ ap (original states) none);
        out_of_place = misplaced.out_of_place;
      } in
      step_listed there.0 (suc place) symbol at ∙ ap (original states) (cleaned.dropped (suc there.0) symbol (inl here))

  step_dropped : (state symbol : ℕ) → IsDropped n read state symbol → step whole state symbol ≡ 0
  step_dropped state symbol (inl misplaced) = step_misplaced state symbol misplaced
  step_dropped state symbol (inr last) = step_gone state symbol last

  kept_by : (state symbol : ℕ) → ¬ IsDropped n read state symbol → IsListed states state → step whole state symbol ≡ step read state symbol
  kept_by state symbol stays (inl found) =
      let at = found.1 in
      step_listed found.0 state symbol at
      ∙ ap (original states) (cleaned.kept (suc found.0) symbol (λ dropped. stays (dropped_part found.0 state symbol at dropped)))
      ∙ original_step found.0 state symbol at
  kept_by zero symbol stays (inr none) = refl
  kept_by (suc place) symbol stays (inr none) =
      elim (cases_lt place (length read.rows)) [
        | inr past ↦ whole_past place symbol past ∙ sym (step_past read (suc place) symbol (omega arith))
        | inl within ↦
            ap (λ ms. target ms symbol) (moves_whole place within)
            ∙ target_kept (suc place) symbol (moves_of read (suc place)) (listed states (suc place)) none (λ last. stays (inr last))
      ]

  whole_cleaned : IsWithoutMisplaced n read whole
  whole_cleaned = record {
    is_table = whole_table;
    initial = refl;
    accepting = refl;
    size = rows_from_length n states made 1 read.rows;
    dropped = step_dropped;
    kept = λ state symbol stays. kept_by state symbol stays (listed states state);
  }

  -- ---- what the whole table accepts

  after_whole : (number : ℕ) → number ≤ length states → (text : List ℕ) → after whole (original states number) text ≡ original states (after made number text)
  after_whole number within [] = refl
  after_whole zero within (symbol ∷ text) =
      after_none whole (symbol ∷ text) ∙ sym (ap (original states) (after_none made (symbol ∷ text)))
  after_whole (suc k) within (symbol ∷ text) =
      let at = item_within states k (omega arith) in
      let is = get_or_from_slice_get states k at.0 0 at.1 in
      let count = made_count in
      let few = step_within made (suc k) symbol cleaned.is_table in
      ap (λ s. after whole (step whole s symbol) text) is ∙ ap (λ s. after whole s text) (step_listed k at.0 symbol at.1)
      ∙ after_whole (step made (suc k) symbol) (omega arith) text

  accepting_read : (state : ℕ) → is_accepting whole state ≡ is_accepting read state
  accepting_read zero = refl
  accepting_read (suc place) = refl

  accepting_same : (number : ℕ) → number ≤ length states → is_accepting whole (original states number) ≡ is_accepting made number
  accepting_same zero within = accepting_read 0
  accepting_same (suc k) within =
      let at = item_within states k (omega arith) in
      ap (is_accepting whole) (get_or_from_slice_get states k at.0 0 at.1) ∙ accepting_read at.0 ∙ sym (explored.accepts k at.0 at.1)
      ∙ ap (λ answers. get_or answers k false) (sym cleaned.accepting)

  starts_same : original states made.initial ≡ read.initial
  starts_same = ap (original states) cleaned.initial ∙ original_after []

  whole_accepts : AcceptSame whole made
  whole_accepts text =
      let count = made_count in
      let low = cleaned.is_table.initial in
      let few : after made made.initial text ≤ length states =
      (let within = after_within made made.initial text cleaned.is_table low in omega arith) in
      let same : is_accepting whole (state_after whole text) ≡ is_accepting made (state_after made text) =
      ap (λ s. is_accepting whole (after whole s text)) (sym starts_same)
      ∙ ap (is_accepting whole) (after_whole made.initial (omega arith) text) ∙ accepting_same (after made made.initial text) few in
      let P : Bool → Type 0 = λ b. IsTrue b in
      (λ accepts. subst P same accepts, λ accepts. subst P (sym same) accepts)

-- the cleaned part of a table that texts lead to accepts what the cleaned table does
cleaned_part : (n : ℕ) (read part made : Table) (states : List ℕ) (origins : List (ℕ × ℕ)) → IsTable read
    → IsExploration (machine_of read) part states origins → IsCleaned (Pair n) part made → IsCleanedAs (Pair n) read made
cleaned_part n read part made states origins is_read explored cleaned = record {
  table = whole n read part made states origins is_read explored cleaned.0;
  cleaned = (
    whole_cleaned n read part made states origins is_read explored cleaned.0,
    λ text accepts. cleaned.1 text ((explored_same read part states origins explored text).0 accepts),
  );
  same = whole_accepts n read part made states origins is_read explored cleaned.0;
}

-- and is refused for what the table is
part_refused : (n : ℕ) (read part : Table) (error : FsaError) → AcceptSame read part → IsCleaningFault (Pair n) part error → IsCleaningFault (Pair n) read error
part_refused n read part error same fault = (fault.0, by fault.0 fault.1, fault.2)
  where
    by : (found : PaddingFault) → IsPaddingFault n part found → IsPaddingFault n read found
    by padding_faults.Inside unpadded = (unpadded.0, (same unpadded.0).1 unpadded.1, unpadded.2)
    by padding_faults.Memory unpadded = tt

-- for words and for pairs
pub cleaned_reached : (alphabet : Alphabet) (read part made : Table) → IsTable read → IsReachedPart read part → IsCleaned alphabet part made
    → IsCleanedAs alphabet read made
cleaned_reached (Plain n) read part made is_read reached cleaned =
    let P : Table → Type 0 = λ table. AcceptSame read table in
    record { table = read; cleaned = refl; same = subst P (sym cleaned) (explored_same read part reached.0 reached.1 reached.2) }
cleaned_reached (Pair n) read part made is_read reached cleaned = cleaned_part n read part made reached.0 reached.1 is_read reached.2 cleaned

pub reached_refused : (alphabet : Alphabet) (read part : Table) (error : FsaError) → IsReachedPart read part → IsCleaningFault alphabet part error
    → IsCleaningFault alphabet read error
reached_refused (Plain n) read part error reached fault = fault
reached_refused (Pair n) read part error reached fault =
    part_refused n read part error (explored_same read part reached.0 reached.1 reached.2) fault
