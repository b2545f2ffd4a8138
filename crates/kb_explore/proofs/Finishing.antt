-- The end of an exploration: each state that is seen has its row.
use Rattle.std.proofs.Common.{◌≡◌, ℕ, zero, suc, ◌^◌, ◌<◌, ◌≤◌, false, List, [], ◌∷◌, ◌++◌, length, get_or, slice_get, map, Some, refl, sym, ap, subst, ◌∙◌, inl, inr, min, arith}
use Rattle.std.specs.List.{All}
use Rattle.std.proofs.lemmas.Bool.{cases_eq}
use Rattle.std.proofs.lemmas.List.{append-nil, append_assoc, get_or-map, length-map}
use Rattle.std.proofs.lemmas.Option.{none-some, same_Some, slice_get_past, slice_get_within, slice_get-get_or, get_or_from_slice_get}
use Rattle.kb_word.specs.Words.{Less}
use Rattle.kb_fsa.specs.Table.{Table, IsTable, HasSymbols, Moves, step, after, state_after}
use Rattle.kb_fsa.specs.Canonical.{IsLeastText}
use Rattle.kb_fsa.proofs.Lookups.{after_none, step_within}
use Rattle.kb_explore.specs.Machine.{Machine, lead, leads}
use Rattle.kb_explore.specs.Exploration.{numbered, IsTraced, IsExploration}
use Rattle.kb_explore.specs.Progress.{IsRowOf, Progress}
use Rattle.kb_explore.proofs.Continuations.{nothing_before_empty, not_less_continued}
use Rattle.kb_explore.proofs.ExplorationLemmas.{numbered_within, one_number}
use Rattle.kb_explore.proofs.Lists.{item_within}
use Rattle.kb_explore.proofs.Rows.{row_follows, row_not_less, row_is, row_symbols, row_within}

-- the table of the rows
abbrev pub table_of : {S : Type 0} → Machine S → List S → ℕ → List Moves → Table
table_of machine states initial rows = record { initial = initial; rows = rows; accepting = map machine.accepts states }

module _ {S : Type 0} {machine : Machine S} {k : ℕ} {states : List S} {origins : List (ℕ × ℕ)} {rows : List Moves}
    (progress : Progress machine k states origins rows) (whole : length rows ≡ length states) where
  row_at : (place : ℕ) (d : Moves) → place < length rows → IsRowOf machine k states progress.words place (get_or rows place d)
  row_at place d within = progress.done place (get_or rows place d) (slice_get-get_or rows place d within)

  pub IsTable-whole : (initial : ℕ) → initial ≡ min (length rows) 1 → length states < 2 ^ 32 → IsTable (table_of machine states initial rows)
  IsTable-whole initial is_initial small = record {
    one_answer_each = length-map states machine.accepts ∙ sym whole;
    size = omega arith;
    initial = omega arith;
    rows = λ place d here.
        let is = row_at place d here in row_is states progress.words is.word is.are_moves (get_or rows place d) is.are_numbered;
    targets = λ place d here.
        let is = row_at place d here in
        subst (λ n. All (λ move. move.1 ≤ n) (get_or rows place d)) (sym whole)
        (row_within states progress.words is.word is.are_moves (get_or rows place d) is.are_numbered);
  }

  pub HasSymbols-whole : (initial : ℕ) → HasSymbols k (table_of machine states initial rows)
  HasSymbols-whole initial place d here =
      let is = row_at place d here in row_symbols states progress.words is.word is.are_moves (get_or rows place d) is.are_numbered

  -- the machine starts in the initial state, and has no start where there are no states
  at_start : (initial : ℕ) → initial ≡ min (length rows) 1 → numbered states initial ≡ machine.start
  at_start zero is_initial = sym (slice_get_past states 0 (omega arith)) ∙ progress.seen.start
  at_start (suc place) is_initial = let first : place ≡ 0 = omega arith in ap (slice_get states) first ∙ progress.seen.start

  module _ (initial : ℕ) (is_initial : initial ≡ min (length rows) 1) (small : length states < 2 ^ 32) where
    abbrev table : Table
    table = table_of machine states initial rows

    is_table : IsTable table
    is_table = IsTable-whole initial is_initial small

    -- a step leads where the machine does
    step_follows : (number symbol : ℕ) (state : S) → numbered states number ≡ Some state
        → numbered states (step table number symbol) ≡ machine.follow state symbol
    step_follows zero symbol state at = absurd (none-some state at)
    step_follows (suc place) symbol state at =
        let here = slice_get_within states place state at in
        let is = row_at place [] (omega arith) in
        let moves = is.are_moves in
        let same : is.state ≡ state = same_Some is.state state (sym is.is_state ∙ at) in
        row_follows states progress.words is.word (get_or rows place []) is.moves is.are_numbered symbol ∙ moves.follow symbol
        ∙ ap (λ s. machine.follow s symbol) same

    text_leads : (text : List ℕ) (number : ℕ) → number ≤ length states
        → numbered states (after table number text) ≡ lead machine (numbered states number) text
    text_leads text zero here = ap (numbered states) (after_none table text)
    text_leads [] (suc place) here =
        let at = item_within states place (omega arith) in at.1 ∙ sym (ap (λ from. lead machine from []) at.1)
    text_leads (symbol ∷ text) (suc place) here =
        let at = item_within states place (omega arith) in
        let on = step_within table (suc place) symbol is_table in
        text_leads text (step table (suc place) symbol) (omega arith)
        ∙ ap (λ from. lead machine from text) (step_follows (suc place) symbol at.0 at.1)
        ∙ sym (ap (λ from. lead machine from (symbol ∷ text)) at.1)

    leads_there : (text : List ℕ) → numbered states (state_after table text) ≡ leads machine text
    leads_there text = text_leads text initial (omega arith) ∙ ap (λ from. lead machine from text) (at_start initial is_initial)

    -- the word of each number is no greater than a text that leads there: neither is it along the text
    abbrev words : List (List ℕ)
    words = progress.words

    words_count : length words ≡ length rows
    words_count = let seen = progress.seen in let lead_there = seen.words_lead in let count = lead_there.one_word_each in omega arith

    word_of : (number : ℕ) → 0 < number → number ≤ length rows → (word : List ℕ) × (numbered words number ≡ Some word)
    word_of number positive here = let count = words_count in numbered_within words number positive (omega arith)

    step_not_less : (number symbol : ℕ) (word other : List ℕ) → numbered words number ≡ Some word
        → numbered words (step table number symbol) ≡ Some other → ¬ Less (word ++ symbol ∷ []) other
    step_not_less zero symbol word other at there = absurd (none-some word at)
    step_not_less (suc place) symbol word other at there =
        let count = words_count in
        let here = slice_get_within words place word at in
        let is = row_at place [] (omega arith) in
        let same : is.word ≡ word = same_Some is.word word (sym is.is_word ∙ at) in
        let P : List ℕ → Type 0 = λ u. ¬ Less (u ++ symbol ∷ []) other in
        subst P same (row_not_less states words is.word (get_or rows place []) is.moves is.are_numbered symbol other there)

    not_less_along : (rest text : List ℕ) (from : ℕ) (before : List ℕ) (number : ℕ) (word : List ℕ) → numbered words from ≡ Some before
        → ¬ Less text before → numbered words number ≡ Some word → after table from rest ≡ number → ¬ Less (text ++ rest) word
    not_less_along [] text from before number word here not_less at leads_to less =
        let same : before ≡ word = same_Some before word (sym here ∙ ap (numbered words) leads_to ∙ at) in
        let P : List ℕ → Type 0 = λ u. Less u before in
        let Q : List ℕ → Type 0 = λ u. Less (text ++ []) u in
        not_less (subst P (append-nil text) (subst Q (sym same) less))
    not_less_along (symbol ∷ rest) text from before number word here not_less at leads_to less =
        elim (cases_eq (step table from symbol) 0) [
          | inl is ↦
              let none : after table (step table from symbol) rest ≡ 0 = ap (λ n. after table n rest) is ∙ after_none table rest in
              none-some word (sym (ap (numbered words) (sym leads_to ∙ none)) ∙ at)
          | inr is ↦
              let on = step_within table from symbol is_table in
              let next = word_of (step table from symbol) (omega arith) on in
              let P : List ℕ → Type 0 = λ u. Less u word in
              not_less_along rest (text ++ symbol ∷ []) (step table from symbol) next.0 number word next.1
              (not_less_continued text before next.0 symbol not_less (step_not_less from symbol before next.0 here next.1))
              at leads_to (subst P (sym (append_assoc text (symbol ∷ []) rest)) less)
        ]

    least : (number : ℕ) (word : List ℕ) → numbered words number ≡ Some word → IsLeastText table number word
    least number word at = record {
      leads = leads_to number word at;
      least = λ other leads_other. from_start initial refl other leads_other;
    }
      where
        leads_to : (n : ℕ) (w : List ℕ) → numbered words n ≡ Some w → state_after table w ≡ n
        leads_to zero w here = absurd (none-some w here)
        leads_to (suc place) w here =
            let count = words_count in
            let low = slice_get_within words place w here in
            let state = item_within states place (omega arith) in
            one_number states progress.seen.distinct (state_after table w) (suc place) state.0
            (leads_there w ∙ progress.seen.words_lead.leads_there place w state.0 here state.1) state.1

        from_start : (n : ℕ) → initial ≡ n → (other : List ℕ) → state_after table other ≡ number → ¬ Less other word
        from_start zero is other leads_other less =
            let none : state_after table other ≡ 0 = ap (λ m. after table m other) is ∙ after_none table other in
            none-some word (sym (ap (numbered words) (sym leads_other ∙ none)) ∙ at)
        from_start (suc place) is other leads_other less =
            let first = word_of initial (omega arith) (omega arith) in
            let one : initial ≡ 1 = omega arith in
            let empty : first.0 ≡ [] = progress.seen.empty_first first.0 (sym (ap (numbered words) one) ∙ first.1) in
            not_less_along other [] initial first.0 number word first.1
            (λ before. nothing_before_empty [] (subst (λ u. Less [] u) empty before)) at leads_other less

    -- all that is seen is explored
    pub explored : IsExploration machine table states origins
    explored = record {
      is_table = is_table;
      one_state_each = sym whole;
      leads_there = leads_there;
      accepts = λ place state at.
          get_or-map machine.accepts states place state false (slice_get_within states place state at)
          ∙ ap machine.accepts (get_or_from_slice_get states place state state at);
      distinct = progress.seen.distinct;
      words = words;
      one_word_each = words_count;
      least = least;
      traced = traced;
      from_earlier = progress.seen.from_earlier;
      ascending = ascending;
    }
      where
        traced : (number : ℕ) (word : List ℕ) → numbered words number ≡ Some word → IsTraced origins number word
        traced zero word at = absurd (none-some word at)
        traced (suc place) word at = progress.seen.traced place word at

        ascending : (p q : ℕ) (word other : List ℕ) → p < q → numbered words p ≡ Some word → numbered words q ≡ Some other → Less word other
        ascending zero q word other less one two = absurd (none-some word one)
        ascending (suc p) zero word other less one two = absurd (none-some other two)
        ascending (suc p) (suc q) word other less one two = progress.seen.ascending p q word other (omega arith) one two
