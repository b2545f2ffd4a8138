-- The steps of an exploration.
use Rattle.std.proofs.Common.{◌≡◌, ℕ, zero, suc, ◌+◌, ◌<◌, List, [], ◌∷◌, ◌++◌, length, slice_get, Some, refl, sym, ap, subst, ◌∙◌, inl, inr, arith, length-append}
use Rattle.std.specs.List.{All, AllZip}
use Rattle.std.proofs.lemmas.List.Elements.{All-nil, All-cons, All-weaker, All-head, All-tail}
use Rattle.std.proofs.lemmas.Option.{none-some, same_Some, slice_get_within}
use Rattle.kb_word.specs.Words.{Less}
use Rattle.kb_word.specs.ShortlexLaws.{shortlex_irreflexive, shortlex_transitive}
use Rattle.kb_fsa.specs.Table.{Moves}
use Rattle.kb_explore.specs.Machine.{Machine, AreMovesOf, leads, HasMoreStates}
use Rattle.kb_explore.specs.Exploration.{numbered, IsTraced, at_start, along}
use Rattle.kb_explore.specs.Progress.{AreDistinct, Numbers, known, added, IsOneTooMany, AreSeen, IsNumbered, IsRowOf, AreRows, Precede, Progress, Partway}
use Rattle.kb_explore.proofs.Continuations.{less_continued, less_behind, not_before}
use Rattle.kb_explore.proofs.ExplorationLemmas.{number_within}
use Rattle.kb_explore.proofs.Leading.{leads-push, LeadTo-push, has_more_states}
use Rattle.kb_explore.proofs.Lists.{item_within, item_kept, item_cases, number_kept, number_cases, last_item, AllZip-kept, AllZip-push}

-- ---- a state more

pub IsTraced-kept : {origins : List (ℕ × ℕ)} (origin : ℕ × ℕ) {state : ℕ} {text : List ℕ} → IsTraced origins state text
    → IsTraced (origins ++ origin ∷ []) state text
IsTraced-kept {origins} origin {state} (at_start e) = at_start (number_kept origins origin state (0, 0) e)
IsTraced-kept {origins} origin {state} (along {parent} {symbol} e rest) =
    along (number_kept origins origin state (suc parent, symbol) e) (IsTraced-kept origin rest)

module _ {S : Type 0} {machine : Machine S} {states : List S} {origins : List (ℕ × ℕ)} {words : List (List ℕ)}
    (seen : AreSeen machine states origins words) (state target : S) (before : List ℕ) (parent symbol : ℕ)
    (is_state : slice_get states parent ≡ Some state) (is_word : slice_get words parent ≡ Some before)
    (on : machine.follow state symbol ≡ Some target) where
  pub leads_on : leads machine (before ++ symbol ∷ []) ≡ Some target
  leads_on = leads-push machine before symbol state target (seen.words_lead.leads_there parent before state is_word is_state) on

  new_trace : (place : ℕ) (word : List ℕ) → place ≡ length words → word ≡ before ++ symbol ∷ []
      → IsTraced (origins ++ (suc parent, symbol) ∷ []) (suc place) word
  new_trace place word at is =
      let origin : ℕ × ℕ = (suc parent, symbol) in
      let words_lead = seen.words_lead in
      let count = words_lead.one_word_each in let other_count = seen.one_origin_each in
      let same : place ≡ length origins = omega arith in
      let P : List ℕ → Type 0 = λ u. IsTraced (origins ++ origin ∷ []) (suc place) u in
      subst P (sym is) (along (ap (slice_get (origins ++ origin ∷ [])) same ∙ last_item origins origin)
      (IsTraced-kept origin (seen.traced parent before is_word)))

  new_earlier : (number parent' symbol' : ℕ) → numbered (origins ++ (suc parent, symbol) ∷ []) number ≡ Some (suc parent', symbol')
      → suc parent' < number
  new_earlier number parent' symbol' at =
      let within = slice_get_within states parent state is_state in
      let count = seen.one_origin_each in
      elim (number_cases origins (suc parent, symbol) number (suc parent', symbol') at) [
        | inl old ↦ seen.from_earlier number parent' symbol' old
        | inr new ↦
            let place = new.0 in
            let same : suc parent' ≡ suc parent = ap (λ (pair : ℕ × ℕ). pair.0) new.1 in
            omega arith
      ]

  new_ascending : Precede words before symbol → (p q : ℕ) (word other : List ℕ) → p < q
      → slice_get (words ++ (before ++ symbol ∷ []) ∷ []) p ≡ Some word → slice_get (words ++ (before ++ symbol ∷ []) ∷ []) q ≡ Some other
      → Less word other
  new_ascending last p q word other less one two =
      elim (item_cases words (before ++ symbol ∷ []) q other two) [
        | inl old ↦ elim (item_cases words (before ++ symbol ∷ []) p word one) [
          | inl older ↦ seen.ascending p q word other less older old
          | inr new ↦ (let within = slice_get_within words q other old in let place = new.0 in absurd (let no : ⊥ = omega arith in no))
        ]
        | inr new ↦ elim (item_cases words (before ++ symbol ∷ []) p word one) [
          | inl older ↦ (let P : List ℕ → Type 0 = λ u. Less word u in subst P (sym new.1) (last p word older))
          | inr newer ↦ (let place = new.0 in let same = newer.0 in absurd (let no : ⊥ = omega arith in no))
        ]
      ]

  new_start : slice_get (states ++ target ∷ []) 0 ≡ machine.start
  new_start =
      let within = slice_get_within states parent state is_state in
      let first = item_within states 0 (omega arith) in
      item_kept states target 0 first.0 first.1 ∙ sym first.1 ∙ seen.start

  new_empty : (word : List ℕ) → slice_get (words ++ (before ++ symbol ∷ []) ∷ []) 0 ≡ Some word → word ≡ []
  new_empty word at =
      elim (item_cases words (before ++ symbol ∷ []) 0 word at) [
        | inl old ↦ seen.empty_first word old
        | inr new ↦ (
            let within = slice_get_within words parent before is_word in let place = new.0 in absurd (let no : ⊥ = omega arith in no)
            )
      ]

  -- a state that wasn't seen before is seen by the word with the symbol
  pub AreSeen-push : AreDistinct (states ++ target ∷ []) → Precede words before symbol
      → AreSeen machine (states ++ target ∷ []) (origins ++ (suc parent, symbol) ∷ []) (words ++ (before ++ symbol ∷ []) ∷ [])
  AreSeen-push distinct last =
      let count = seen.one_origin_each in
      let one = length-append states (target ∷ []) in
      let two = length-append origins ((suc parent, symbol) ∷ []) in record {
        words_lead = LeadTo-push (before ++ symbol ∷ []) target seen.words_lead leads_on;
        one_origin_each = omega arith;
        distinct = distinct;
        start = new_start;
        empty_first = new_empty;
        traced = λ place word at. elim (item_cases words (before ++ symbol ∷ []) place word at) [
          | inl old ↦ IsTraced-kept (suc parent, symbol) (seen.traced place word old)
          | inr new ↦ new_trace place word new.0 new.1
        ];
        from_earlier = new_earlier;
        ascending = new_ascending last;
      }

  -- and where there are too many, the machine has more than the limit
  pub too_many : (limit : ℕ) → IsOneTooMany limit states target → HasMoreStates machine limit
  too_many limit one_more =
      has_more_states (LeadTo-push (before ++ symbol ∷ []) target seen.words_lead leads_on) limit one_more.distinct one_more.more

-- ---- what is numbered stays so

module _ {S : Type 0} (states : List S) (words : List (List ℕ)) (count : length words ≡ length states) (target : S) (last : List ℕ) where
  IsNumbered-kept : (word : List ℕ) (move : ℕ × ℕ) (original : ℕ × S) → IsNumbered states words word move original
      → IsNumbered (states ++ target ∷ []) (words ++ last ∷ []) word move original
  IsNumbered-kept word move original is = record {
    symbol = is.symbol;
    state = number_kept states target move.1 original.1 is.state;
    not_less = λ other at. elim (number_cases words last move.1 other at) [
      | inl old ↦ is.not_less other old
      | inr new ↦ (
          let within = number_within states move.1 original.1 is.state in let number = new.0 in absurd (let no : ⊥ = omega arith in no)
          )
    ];
  }

  AreNumbered-kept : (word : List ℕ) (row : Moves) (moves : List (ℕ × S)) → AllZip (IsNumbered states words word) row moves
      → AllZip (IsNumbered (states ++ target ∷ []) (words ++ last ∷ []) word) row moves
  AreNumbered-kept word row moves =
      AllZip-kept (IsNumbered states words word) (IsNumbered (states ++ target ∷ []) (words ++ last ∷ []) word) row moves (IsNumbered-kept word)

  AreRows-kept : (machine : Machine S) (k : ℕ) (rows : List Moves) → AreRows machine k states words rows
      → AreRows machine k (states ++ target ∷ []) (words ++ last ∷ []) rows
  AreRows-kept machine k rows done place row at =
      let is = done place row at in record {
        state = is.state;
        word = is.word;
        is_state = item_kept states target place is.state is.is_state;
        is_word = item_kept words last place is.word is.is_word;
        moves = is.moves;
        are_moves = is.are_moves;
        are_numbered = AreNumbered-kept is.word row is.moves is.are_numbered;
      }

-- ---- a move more

-- what holds of each item holds of those before the last, and of the last
all_front : {X : Type 0} (P : X → Type 0) (xs : List X) (x : X) → All P (xs ++ x ∷ []) → All P xs
all_front P [] x all = All-nil P
all_front P (y ∷ xs) x all = All-cons P y xs (All-head P y (xs ++ x ∷ []) all) (all_front P xs x (All-tail P y (xs ++ x ∷ []) all))

all_last : {X : Type 0} (P : X → Type 0) (xs : List X) (x : X) → All P (xs ++ x ∷ []) → P x
all_last P [] x all = All-head P x [] all
all_last P (y ∷ xs) x all = all_last P xs x (All-tail P y (xs ++ x ∷ []) all)

module _ {S : Type 0} {machine : Machine S} {k : ℕ} {states : List S} {origins : List (ℕ × ℕ)} {rows : List Moves} {state : S}
    {passed : List (ℕ × S)} {row : Moves} (so_far : Partway machine k states origins rows state passed row) (symbol : ℕ) (target : S)
    (on : machine.follow state symbol ≡ Some target) (below : All (λ move. move.0 < symbol) passed) where
  known_not_less : (number : ℕ) (other : List ℕ) → numbered so_far.words number ≡ Some other → ¬ Less (so_far.word ++ symbol ∷ []) other
  known_not_less zero other is = absurd (none-some other is)
  known_not_less (suc place) other is = not_before other (so_far.word ++ symbol ∷ []) (so_far.next symbol below place other is)

  -- where its state was seen before
  known_move : (number : ℕ) → numbered states number ≡ Some target
      → Partway machine k states origins rows state (passed ++ (symbol, target) ∷ []) (row ++ (symbol, number) ∷ [])
  known_move number at = record {
    words = so_far.words;
    word = so_far.word;
    seen = so_far.seen;
    done = so_far.done;
    is_state = so_far.is_state;
    is_word = so_far.is_word;
    are_numbered = AllZip-push (IsNumbered states so_far.words so_far.word) row passed (symbol, number) (symbol, target) so_far.are_numbered
        (record { symbol = refl; state = at; not_less = known_not_less number });
    next = λ later above. so_far.next later (all_front (λ (move : ℕ × S). move.0 < later) passed (symbol, target) above);
  }

  new_next : (later : ℕ) → symbol < later → All (λ move. move.0 < later) passed
      → Precede (so_far.words ++ (so_far.word ++ symbol ∷ []) ∷ []) so_far.word later
  new_next later less above place other at =
      elim (item_cases so_far.words (so_far.word ++ symbol ∷ []) place other at) [
        | inl old ↦ so_far.next later above place other old
        | inr new ↦ (
            let P : List ℕ → Type 0 = λ u. Less u (so_far.word ++ later ∷ []) in subst P (sym new.1) (less_behind so_far.word symbol later less)
            )
      ]

  new_not_less : (other : List ℕ) → numbered (so_far.words ++ (so_far.word ++ symbol ∷ []) ∷ []) (suc (length states)) ≡ Some other
      → ¬ Less (so_far.word ++ symbol ∷ []) other
  new_not_less other at less =
      let lead_there = so_far.seen.words_lead in
      let count = lead_there.one_word_each in
      let last = last_item so_far.words (so_far.word ++ symbol ∷ []) in
      let is : so_far.word ++ symbol ∷ [] ≡ other =
      same_Some (so_far.word ++ symbol ∷ []) other
      (sym last ∙ ap (slice_get (so_far.words ++ (so_far.word ++ symbol ∷ []) ∷ [])) count ∙ at) in
      let P : List ℕ → Type 0 = λ u. Less u other in
      shortlex_irreflexive other (subst P is less)

  -- where it wasn't
  new_move : AreDistinct (states ++ target ∷ [])
      → Partway machine k (states ++ target ∷ []) (origins ++ (suc (length rows), symbol) ∷ []) rows state (passed ++ (symbol, target) ∷ [])
      (row ++ (symbol, suc (length states)) ∷ [])
  new_move distinct =
      let word = so_far.word in
      let last : List ℕ = word ++ symbol ∷ [] in
      let lead_there = so_far.seen.words_lead in
      let count = lead_there.one_word_each in record {
        words = so_far.words ++ last ∷ [];
        word = word;
        seen = AreSeen-push so_far.seen state target word (length rows) symbol so_far.is_state so_far.is_word on distinct
            (so_far.next symbol below);
        done = AreRows-kept states so_far.words count target last machine k rows so_far.done;
        is_state = item_kept states target (length rows) state so_far.is_state;
        is_word = item_kept so_far.words last (length rows) word so_far.is_word;
        are_numbered = AllZip-push (IsNumbered (states ++ target ∷ []) (so_far.words ++ last ∷ []) word) row passed
            (symbol, suc (length states)) (symbol, target)
            (AreNumbered-kept states so_far.words count target last word row passed so_far.are_numbered)
            (record { symbol = refl; state = last_item states target; not_less = new_not_less });
        next = λ later above. new_next later (all_last (λ (move : ℕ × S). move.0 < later) passed (symbol, target) above)
            (all_front (λ (move : ℕ × S). move.0 < later) passed (symbol, target) above);
      }

  -- a move more, with the number of its state
  pub Partway-push : (parent : ℕ) → parent ≡ length rows + 1 → (states' : List S) (origins' : List (ℕ × ℕ)) (number : ℕ)
      → Numbers states origins target (parent, symbol) states' origins' number → AreDistinct states'
      → Partway machine k states' origins' rows state (passed ++ (symbol, target) ∷ []) (row ++ (symbol, number) ∷ [])
  Partway-push parent is states' origins' number (known same alike at) distinct =
      let P : List S → Type 0 = λ xs. Partway machine k xs origins' rows state (passed ++ (symbol, target) ∷ []) (row ++ (symbol, number) ∷ []) in
      let Q : List (ℕ × ℕ) → Type 0 =
      λ os. Partway machine k states os rows state (passed ++ (symbol, target) ∷ []) (row ++ (symbol, number) ∷ []) in
      subst P (sym same) (subst Q (sym alike) (known_move number at))
  Partway-push parent is states' origins' number (added longer also at) distinct =
      let to_parent : parent ≡ suc (length rows) = omega arith in
      let D : List S → Type 0 = λ xs. AreDistinct xs in
      let P : List S → Type 0 = λ xs. Partway machine k xs origins' rows state (passed ++ (symbol, target) ∷ []) (row ++ (symbol, number) ∷ []) in
      let Q : List (ℕ × ℕ) → Type 0 = λ os. Partway machine k (states ++ target ∷ []) os rows state (passed ++ (symbol, target) ∷ [])
      (row ++ (symbol, number) ∷ []) in
      let R : ℕ → Type 0 = λ n. Partway machine k (states ++ target ∷ []) (origins ++ (n, symbol) ∷ []) rows state
      (passed ++ (symbol, target) ∷ []) (row ++ (symbol, number) ∷ []) in
      let N : ℕ → Type 0 = λ n. Partway machine k (states ++ target ∷ []) (origins ++ (suc (length rows), symbol) ∷ []) rows state
      (passed ++ (symbol, target) ∷ []) (row ++ (symbol, n) ∷ []) in
      subst P (sym longer) (subst Q (sym also) (subst R (sym to_parent) (subst N (sym at) (new_move (subst D longer distinct)))))

  -- and where there are too many, the machine has more than the limit
  pub Partway-too_many : (limit : ℕ) → IsOneTooMany limit states target → HasMoreStates machine limit
  Partway-too_many limit = too_many so_far.seen state target so_far.word (length rows) symbol so_far.is_state so_far.is_word on limit

-- ---- the begin and the end of a row

pub Partway-begun : {S : Type 0} {machine : Machine S} {k : ℕ} {states : List S} {origins : List (ℕ × ℕ)} {rows : List Moves} (state : S)
    → Progress machine k states origins rows → slice_get states (length rows) ≡ Some state → Partway machine k states origins rows state [] []
Partway-begun {states} {rows} state progress at =
    let lead_there = progress.seen.words_lead in
    let count = lead_there.one_word_each in
    let within = slice_get_within states (length rows) state at in
    let word = item_within progress.words (length rows) (omega arith) in record {
      words = progress.words;
      word = word.0;
      seen = progress.seen;
      done = progress.done;
      is_state = at;
      is_word = word.1;
      are_numbered = tt;
      next = λ symbol _. progress.next word.0 symbol word.1;
    }

-- a symbol after all of the moves
after_all : {S : Type 0} (moves : List (ℕ × S)) → (symbol : ℕ) × All (λ move. move.0 < symbol) moves
after_all {S} [] = (0, All-nil (λ (move : ℕ × S). move.0 < 0))
after_all {S} (move ∷ moves) =
    let rest = after_all moves in (
      rest.0 + suc move.0,
      All-cons (λ (m : ℕ × S). m.0 < rest.0 + suc move.0) move moves (omega arith)
          (All-weaker (λ (m : ℕ × S). m.0 < rest.0) (λ m. m.0 < rest.0 + suc move.0) (λ m less. omega arith) moves rest.1),
    )

pub Progress-push : {S : Type 0} {machine : Machine S} {k : ℕ} {states : List S} {origins : List (ℕ × ℕ)} {rows : List Moves} {state : S}
    {moves : List (ℕ × S)} {row : Moves} → Partway machine k states origins rows state moves row → AreMovesOf machine k state moves
    → Progress machine k states origins (rows ++ row ∷ [])
Progress-push {S} {machine} {k} {states} {origins} {rows} {state} {moves} {row} whole are_moves = record {
  words = whole.words;
  seen = whole.seen;
  within =
      let within = slice_get_within states (length rows) state whole.is_state in let count = length-append rows (row ∷ []) in omega arith;
  done = λ place other at. elim (item_cases rows row place other at) [
    | inl old ↦ whole.done place other old
    | inr new ↦ this_row place other new.0 new.1
  ];
  next = next;
}
  where
    this_row : (place : ℕ) (other : Moves) → place ≡ length rows → other ≡ row → IsRowOf machine k states whole.words place other
    this_row place other at is =
        let P : ℕ → Type 0 = λ n. IsRowOf machine k states whole.words n other in
        let Q : Moves → Type 0 = λ r. IsRowOf machine k states whole.words (length rows) r in
        subst P (sym at) (subst Q (sym is) (record {
          state = state;
          word = whole.word;
          is_state = whole.is_state;
          is_word = whole.is_word;
          moves = moves;
          are_moves = are_moves;
          are_numbered = whole.are_numbered;
        }))

    next : (word : List ℕ) (symbol : ℕ) → slice_get whole.words (length (rows ++ row ∷ [])) ≡ Some word → Precede whole.words word symbol
    next word symbol at place other is =
        let late = after_all moves in
        let count = length-append rows (row ∷ []) in
        let before = whole.next late.0 late.1 place other is in
        let less = whole.seen.ascending (length rows) (length (rows ++ row ∷ [])) whole.word word (omega arith) whole.is_word at in
        shortlex_transitive other (whole.word ++ late.0 ∷ []) (word ++ symbol ∷ []) before
        (less_continued whole.word word late.0 symbol less)
