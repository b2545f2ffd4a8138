-- The words to which moves turn labels.
use Rattle.std.proofs.Common.{◌≡◌, ◌⊎◌, ℕ, suc, ◌+◌, ◌<◌, ◌≤◌, IsTrue, List, [], ◌∷◌, length, get_or, slice_get, Option, Some, None, refl, sym, ap, ◌∙◌, subst, inl, inr, arith}
use Rattle.std.proofs.lemmas.Bool.{cases_eq}
use Rattle.std.specs.List.{All}
use Rattle.std.proofs.lemmas.List.Elements.{All-nil, All-contains}
use Rattle.std.proofs.lemmas.Option.{same_Some}
use Rattle.kb_word.specs.Rewriting.{NormalForm}
use Rattle.kb_word.specs.declared.word_order.WordOrder.{WordOrder}
use Rattle.kb_fsa.specs.Moves.{AreBackward}
use Rattle.kb_fsa.proofs.Lookups.{All-moves_of, entry_from_lookup, lookup_from_target}
use Rattle.kb_rules.proofs.Unique.{normal_form_unique}
use Rattle.kb_fsa.specs.Table.{Table, is_accepting, HasSymbols, moves_of}
use Rattle.kb_fsa.specs.Graphs.{source, end}
use Rattle.kb_explore.specs.Progress.{AreDistinct}
use Rattle.kb_diff.specs.Groups.{Group}
use Rattle.kb_labels.specs.Labels.{Turns}
use Rattle.kb_labels.specs.Places.{label_at, AreFromOrigins, IsFromOrigin}
use Rattle.kb_labels.specs.declared.apart.Apart.{Apart}
use Rattle.kb_labels.specs.Comparing.{IsMoveWord, IsEndWord, IsWordAt, IsFirstApart, Keeps, Compares, nothing, one}
use Rattle.kb_labels.proofs.Unique.{turns_to_one}
use Rattle.kb_labels.proofs.Comparisons.{kept, compared, no_words, unchanged}

module _ (group : Group) (order : WordOrder) (states : List ℕ) (labels : List (List ℕ)) where
  -- one move more
  pub one_more_move : (table : Table) (x : ℕ) (edges : List (ℕ × ℕ)) (symbols : List ℕ) (done next : ℕ) (before after : Option Apart)
      → next ≡ done + 1
      → IsFirstApart order labels (IsWordAt group table x states labels edges symbols done) before
      → Compares order labels (IsMoveWord group states labels (end edges done) (get_or symbols done 0) (source edges done)) before after
      → IsFirstApart order labels (IsWordAt group table x states labels edges symbols next) after
  one_more_move table x edges symbols done next before after is first compares =
      let Move = IsMoveWord group states labels (end edges done) (get_or symbols done 0) (source edges done) in
      compared order labels (IsWordAt group table x states labels edges symbols done) Move
      (IsWordAt group table x states labels edges symbols next) old
      (λ place word move. inr (record { number = done; early = omega arith; is = move }))
      cover before after first compares
    where
      old : (place : ℕ) (word : List ℕ) → IsWordAt group table x states labels edges symbols done place word
          → IsWordAt group table x states labels edges symbols next place word
      old place word (inl at_end) = inl at_end
      old place word (inr early) = inr (record { number = early.number; early = omega (arith, early.early); is = early.is })

      cover : (place : ℕ) (word : List ℕ) → IsWordAt group table x states labels edges symbols next place word
          → IsWordAt group table x states labels edges symbols done place word
          ⊎ IsMoveWord group states labels (end edges done) (get_or symbols done 0) (source edges done) place word
      cover place word (inl at_end) = inl (inl at_end)
      cover place word (inr early) = elim (cases_eq early.number done) [
        | inl last ↦
            let P : ℕ → Type 0 = λ n. IsMoveWord group states labels (end edges n) (get_or symbols n 0) (source edges n) place word in
            inr (subst P last early.is)
        | inr differ ↦ inl (inr (record { number = early.number; early = omega (arith, early.early, differ); is = early.is }))
      ]

  -- no move yet
  pub no_moves : (table : Table) (x : ℕ) (edges : List (ℕ × ℕ)) (symbols : List ℕ) (found : Option Apart)
      → IsFirstApart order labels (IsEndWord group table x states (length states)) found
      → IsFirstApart order labels (IsWordAt group table x states labels edges symbols 0) found
  no_moves table x edges symbols found first =
      unchanged order labels (IsEndWord group table x states (length states)) (IsWordAt group table x states labels edges symbols 0)
      (λ place word at_end. inl at_end) found first (λ place word is. cover place word is)
    where
      cover : (place : ℕ) (word : List ℕ) → IsWordAt group table x states labels edges symbols 0 place word
          → IsEndWord group table x states (length states) place word ⊎ (word ≡ label_at labels place)
      cover place word (inl at_end) = inl at_end
      cover place word (inr early) = let no : ⊥ = omega (arith, early.early) in absurd no

  module _ (table : Table) (x : ℕ) where
    -- no state yet
    pub no_ends : IsFirstApart order labels (IsEndWord group table x states 0) None
    no_ends = no_words order labels (IsEndWord group table x states 0)
        (λ place word is. let early = is.early in let no : ⊥ = omega arith in no)

    later_end : (done next : ℕ) → next ≡ done + 1 → (place : ℕ) (word : List ℕ) → IsEndWord group table x states done place word
        → IsEndWord group table x states next place word
    later_end done next is place word early =
        record { early = omega (arith, early.early); state = early.state; at = early.at; accepts = early.accepts; normal = early.normal }

    -- one state more, which accepts
    pub one_more_end : (done next state : ℕ) (word : List ℕ) (before after : Option Apart) → next ≡ done + 1
        → slice_get states done ≡ Some state → IsTrue (is_accepting table state) → NormalForm group.rules (x ∷ []) word
        → IsFirstApart order labels (IsEndWord group table x states done) before
        → Keeps order (label_at labels done) done word before after
        → IsFirstApart order labels (IsEndWord group table x states next) after
    one_more_end done next state word before after is at accepts normal first keeps =
        kept order labels (IsEndWord group table x states done) (IsEndWord group table x states next) (later_end done next is) done word
        (record { early = omega arith; state = state; at = at; accepts = accepts; normal = normal })
        (λ other more late. elim (cases_eq other done) [
          | inl last ↦ inr (last, normal_form_unique late.normal normal)
          | inr differ ↦ inl (record {
            early = omega (arith, late.early, differ);
            state = late.state;
            at = late.at;
            accepts = late.accepts;
            normal = late.normal;
          })
        ])
        before after first keeps

    -- or doesn't
    pub no_more_end : (done next state : ℕ) (found : Option Apart) → next ≡ done + 1
        → slice_get states done ≡ Some state → ¬ IsTrue (is_accepting table state)
        → IsFirstApart order labels (IsEndWord group table x states done) found
        → IsFirstApart order labels (IsEndWord group table x states next) found
    no_more_end done next state found is at rejects first =
        unchanged order labels (IsEndWord group table x states done) (IsEndWord group table x states next) (later_end done next is) found first
        (λ other more late. elim (cases_eq other done) [
          | inl last ↦
              let P : ℕ → Type 0 = λ p. slice_get states p ≡ Some late.state in
              let Q : ℕ → Type 0 = λ s. IsTrue (is_accepting table s) in
              absurd (rejects (subst Q (same_Some late.state state (sym (subst P last late.at) ∙ at)) late.accepts))
          | inr differ ↦ inl (record {
            early = omega (arith, late.early, differ);
            state = late.state;
            at = late.at;
            accepts = late.accepts;
            normal = late.normal;
          })
        ])

  module _ (distinct : AreDistinct states) where
    -- where a state of the move lies on no accepted text, it has no word
    pub no_source : (from symbol target : ℕ) (found : Option Apart) → ((place : ℕ) → slice_get states place ≡ Some from → ⊥)
        → Compares order labels (IsMoveWord group states labels from symbol target) found found
    no_source from symbol target found none = nothing (λ place word is. absurd (none is.from_place is.from_there)) refl

    pub no_target : (from symbol target : ℕ) (found : Option Apart) → ((place : ℕ) → slice_get states place ≡ Some target → ⊥)
        → Compares order labels (IsMoveWord group states labels from symbol target) found found
    no_target from symbol target found none = nothing (λ place word is. absurd (none place is.to_there)) refl

    module _ (from symbol target : ℕ) (from_place place : ℕ) (from_at : slice_get states from_place ≡ Some from)
        (at : slice_get states place ≡ Some target) where
      -- all words of the move are the one at the place
      only_word : (word : List ℕ) → Turns group (label_at labels from_place) symbol word → (other : ℕ) (more : List ℕ)
          → IsMoveWord group states labels from symbol target other more → (other ≡ place) × (more ≡ word)
      only_word word turned other more is =
          let P : ℕ → Type 0 = λ p. Turns group (label_at labels p) symbol more in (
            distinct other place target is.to_there at,
            turns_to_one group (label_at labels from_place) symbol more word
                (subst P (distinct is.from_place from_place from is.from_there from_at) is.turned) turned,
          )

      -- the move by which the label came
      pub own_move : (origins : List (ℕ × ℕ)) (number letter : ℕ) (found : Option Apart) → AreFromOrigins group origins labels
          → place < length labels → slice_get origins place ≡ Some (number, letter) → number ≡ suc from_place → letter ≡ symbol
          → Compares order labels (IsMoveWord group states labels from symbol target) found found
      own_move origins number letter found are within origin number_is letter_is =
          let P : ℕ → Type 0 = λ n. IsFromOrigin group labels n letter (label_at labels place) in
          let Q : ℕ → Type 0 = λ s. Turns group (label_at labels from_place) s (label_at labels place) in
          let own = subst Q letter_is (subst P number_is (are.each place (number, letter) within origin)) in
          nothing (λ other more is.
          let only = only_word (label_at labels place) own other more is in
          only.1 ∙ ap (label_at labels) (sym only.0)) refl

      -- another move
      pub other_move : (word : List ℕ) (before after : Option Apart) → Turns group (label_at labels from_place) symbol word
          → Keeps order (label_at labels place) place word before after
          → Compares order labels (IsMoveWord group states labels from symbol target) before after
      other_move word before after turned keeps =
          one (record { from_place = from_place; from_there = from_at; to_there = at; turned = turned }) (only_word word turned) keeps

-- the symbols of moves that are given backwards are those of the table
pub move_symbol : (table : Table) (edges : List (ℕ × ℕ)) (symbols : List ℕ) (k state done place : ℕ) → HasSymbols k table
    → AreBackward table state done edges symbols → place < length edges → get_or symbols place 0 ≤ k
move_symbol table edges symbols k state done place has moves within =
    let backward = moves.sound place within in
    let symbol : ℕ = get_or symbols place 0 in
    let from : ℕ = end edges place in
    let target : ℕ = source edges place in
    let row = moves_of table from in
    let Low : ℕ × ℕ → Type 0 = λ move. move.0 ≤ k in
    let low = All-moves_of (λ ms. All Low ms) table from (All-nil Low) has in
    let move = entry_from_lookup row symbol target (lookup_from_target row symbol target backward.from_state.positive backward.step) in
    All-contains Low row (symbol, target) low move
