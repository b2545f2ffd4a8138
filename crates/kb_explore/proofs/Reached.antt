-- Texts before the one by which the next state would be seen: each leads nowhere, or to a state that is seen.
use Rattle.std.proofs.Common.{◌≡◌, ℕ, zero, suc, ◌<◌, List, [], ◌∷◌, ◌++◌, length, get_or, slice_get, Option, Some, None, refl, sym, ap, subst, ◌∙◌, inl, inr, arith}
use Rattle.std.specs.List.{AllZip}
use Rattle.std.proofs.lemmas.Bool.{cases_order}
use Rattle.std.proofs.lemmas.List.{append_assoc}
use Rattle.std.proofs.lemmas.Option.{none-some, same_Some, slice_get_within, slice_get-get_or}
use Rattle.kb_word.specs.Words.{Less}
use Rattle.kb_fsa.specs.Table.{Moves, lookup, target}
use Rattle.kb_explore.specs.Machine.{Machine, lead, leads}
use Rattle.kb_explore.specs.Exploration.{numbered}
use Rattle.kb_explore.specs.Progress.{IsNumbered, Partway}
use Rattle.kb_explore.proofs.Continuations.{nothing_before_empty, not_less_continued, front_before, lesser_letter, not_passed}
use Rattle.kb_explore.proofs.Lists.{item_within}
use Rattle.kb_explore.proofs.Rows.{row_follows, row_not_less}

-- what leads somewhere leads there from a state
leads_from : {S : Type 0} (machine : Machine S) (from : Option S) (text : List ℕ) (last : S) → lead machine from text ≡ Some last
    → (first : S) × (from ≡ Some first)
leads_from machine None text last e = absurd (none-some last e)
leads_from machine (Some first) text last e = (first, refl)

-- the state is seen, by a word that is no greater than the text
record IsSeenBy {S : Type 0} (states : List S) (words : List (List ℕ)) (text : List ℕ) (state : S) : Type 0 where
  place : ℕ
  word : List ℕ
  is_state : slice_get states place ≡ Some state
  is_word : slice_get words place ≡ Some word
  not_less : ¬ Less text word

-- where the moves beside a row lead, a state is seen
by_row : {S : Type 0} (states : List S) (words : List (List ℕ)) → length words ≡ length states → (word : List ℕ) (row : Moves)
    (moves : List (ℕ × S)) → AllZip (IsNumbered states words word) row moves → (symbol : ℕ) (next : S) → lookup moves symbol ≡ Some next
    → IsSeenBy states words (word ++ symbol ∷ []) next
by_row {S} states words count word row moves all symbol next is = at (target row symbol) refl
  where
    at : (number : ℕ) → target row symbol ≡ number → IsSeenBy states words (word ++ symbol ∷ []) next
    at zero e = absurd (none-some next (sym (ap (numbered states) e) ∙ row_follows states words word row moves all symbol ∙ is))
    at (suc place) e =
        let here : slice_get states place ≡ Some next =
        sym (ap (numbered states) e) ∙ row_follows states words word row moves all symbol ∙ is in
        let within = slice_get_within states place next here in
        let other = item_within words place (omega arith) in record {
          place = place;
          word = other.0;
          is_state = here;
          is_word = other.1;
          not_less = row_not_less states words word row moves all symbol other.0 (ap (numbered words) e ∙ other.1);
        }

module _ {S : Type 0} {machine : Machine S} {k : ℕ} {states : List S} {origins : List (ℕ × ℕ)} {rows : List Moves} {state : S}
    {passed : List (ℕ × S)} {row : Moves} (so_far : Partway machine k states origins rows state passed row) (symbol : ℕ)
    (all_before : (x : ℕ) (next : S) → x < symbol → machine.follow state x ≡ Some next → lookup passed x ≡ Some next) where
  count : length so_far.words ≡ length states
  count = let lead_there = so_far.seen.words_lead in lead_there.one_word_each

  -- a step from a state whose row is done
  step_done : (place : ℕ) (here : S) (before : List ℕ) (x : ℕ) (next : S) → slice_get states place ≡ Some here
      → slice_get so_far.words place ≡ Some before → place < length rows → machine.follow here x ≡ Some next
      → IsSeenBy states so_far.words (before ++ x ∷ []) next
  step_done place here before x next is_state is_word done on =
      let is = so_far.done place (get_or rows place []) (slice_get-get_or rows place [] done) in
      let moves = is.are_moves in
      let same = same_Some is.state here (sym is.is_state ∙ is_state) in
      let also = same_Some is.word before (sym is.is_word ∙ is_word) in
      let P : List ℕ → Type 0 = λ u. IsSeenBy states so_far.words (u ++ x ∷ []) next in
      subst P also (by_row states so_far.words count is.word (get_or rows place []) is.moves is.are_numbered x next
      (moves.follow x ∙ ap (λ s. machine.follow s x) same ∙ on))

  -- and from the one whose moves are being passed, by a lesser symbol
  step_here : (place : ℕ) (here : S) (before : List ℕ) (x : ℕ) (next : S) → slice_get states place ≡ Some here
      → slice_get so_far.words place ≡ Some before → place ≡ length rows → x < symbol → machine.follow here x ≡ Some next
      → IsSeenBy states so_far.words (before ++ x ∷ []) next
  step_here place here before x next is_state is_word at less on =
      let same = same_Some here state (sym is_state ∙ ap (slice_get states) at ∙ so_far.is_state) in
      let also = same_Some so_far.word before (sym so_far.is_word ∙ ap (slice_get so_far.words) (sym at) ∙ is_word) in
      let P : List ℕ → Type 0 = λ u. IsSeenBy states so_far.words (u ++ x ∷ []) next in
      subst P also (by_row states so_far.words count so_far.word row passed so_far.are_numbered x next
      (all_before x next less (ap (λ s. machine.follow s x) (sym same) ∙ on)))

  step_seen : (text : List ℕ) (place : ℕ) (here : S) (before : List ℕ) (x : ℕ) (next : S) → slice_get states place ≡ Some here
      → slice_get so_far.words place ≡ Some before → ¬ Less text before → Less (text ++ x ∷ []) (so_far.word ++ symbol ∷ [])
      → machine.follow here x ≡ Some next → IsSeenBy states so_far.words (before ++ x ∷ []) next
  step_seen text place here before x next is_state is_word not_less less on =
      elim (cases_order place (length rows)) [
        | inl same ↦ (
            let also = same_Some before so_far.word (sym is_word ∙ ap (slice_get so_far.words) same ∙ so_far.is_word) in
            let P : List ℕ → Type 0 = λ u. ¬ Less text u in
            step_here place here before x next is_state is_word same
            (lesser_letter text so_far.word x symbol (subst P also not_less) less) on
            )
        | inr differ ↦ elim differ [
          | inl done ↦ step_done place here before x next is_state is_word done on
          | inr later ↦
              absurd (not_less (not_passed text so_far.word before x symbol
              (so_far.seen.ascending (length rows) place so_far.word before later so_far.is_word is_word) less))
        ]
      ]

  reached_along : (rest text : List ℕ) (place : ℕ) (here : S) (before : List ℕ) (last : S) → slice_get states place ≡ Some here
      → slice_get so_far.words place ≡ Some before → ¬ Less text before → Less (text ++ rest) (so_far.word ++ symbol ∷ [])
      → lead machine (Some here) rest ≡ Some last → (end : ℕ) × (slice_get states end ≡ Some last)
  reached_along [] text place here before last is_state is_word not_less less leads_to = (place, is_state ∙ leads_to)
  reached_along (x ∷ rest) text place here before last is_state is_word not_less less leads_to =
      let on = leads_from machine (machine.follow here x) rest last leads_to in
      let P : List ℕ → Type 0 = λ u. Less u (so_far.word ++ symbol ∷ []) in
      let longer = subst P (sym (append_assoc text (x ∷ []) rest)) less in
      let is = step_seen text place here before x on.0 is_state is_word not_less
      (front_before (text ++ x ∷ []) rest (so_far.word ++ symbol ∷ []) longer) on.1 in
      reached_along rest (text ++ x ∷ []) is.place on.0 is.word last is.is_state is.is_word
      (not_less_continued text before is.word x not_less is.not_less) longer
      (sym (ap (λ from. lead machine from rest) on.1) ∙ leads_to)

  -- each text before the word with the symbol leads nowhere, or to a state that is seen
  pub reached : (text : List ℕ) → Less text (so_far.word ++ symbol ∷ []) → (last : S) → leads machine text ≡ Some last
      → (place : ℕ) × (slice_get states place ≡ Some last)
  reached text less last leads_to =
      let first = leads_from machine machine.start text last leads_to in
      let at = so_far.seen.start ∙ first.1 in
      let within = slice_get_within states 0 first.0 at in
      let many = count in
      let word = item_within so_far.words 0 (omega arith) in
      let P : List ℕ → Type 0 = λ u. ¬ Less [] u in
      reached_along text [] 0 first.0 word.0 last at word.1
      (subst P (sym (so_far.seen.empty_first word.0 word.1)) (nothing_before_empty [])) less
      (sym (ap (λ from. lead machine from text) first.1) ∙ leads_to)
