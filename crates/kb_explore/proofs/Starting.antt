-- The start of an exploration.
use Rattle.std.proofs.Common.{◌≡◌, ℕ, zero, suc, ◌<◌, List, [], ◌∷◌, ◌++◌, slice_get, Some, None, refl, sym, ap, subst, ◌∙◌, arith}
use Rattle.std.proofs.lemmas.Option.{none-some, same_Some}
use Rattle.kb_word.specs.Words.{Less}
use Rattle.kb_explore.specs.Machine.{Machine, lead, leads, HasMoreStates}
use Rattle.kb_explore.specs.FirstAccepted.{HasMoreStatesBefore}
use Rattle.kb_explore.specs.Exploration.{numbered, IsTraced, at_start}
use Rattle.kb_explore.specs.Progress.{Numbers, known, added, IsOneTooMany, LeadTo, Progress}
use Rattle.kb_explore.proofs.Continuations.{empty_before, nothing_before_empty}
use Rattle.kb_explore.proofs.Leading.{has_more_states, has_more_states_before}

-- nothing is seen where the machine has no start
pub Progress-none : {S : Type 0} (machine : Machine S) (k : ℕ) → machine.start ≡ None → Progress machine k [] [] []
Progress-none machine k none = record {
  words = [];
  seen = record {
    words_lead = record { one_word_each = refl; leads_there = λ place word state at beside. absurd (none-some word at) };
    one_origin_each = refl;
    distinct = λ place other state one two. absurd (none-some state one);
    start = sym none;
    empty_first = λ word at. absurd (none-some word at);
    traced = λ place word at. absurd (none-some word at);
    from_earlier = λ state parent symbol at. absurd (no_number state (suc parent, symbol) at);
    ascending = λ p q word other less one two. absurd (none-some word one);
  };
  within = omega arith;
  done = λ place row at. absurd (none-some row at);
  next = λ word symbol at. absurd (none-some word at);
}
  where
    no_number : {X : Type 0} (number : ℕ) (x : X) → numbered [] number ≡ Some x → ⊥
    no_number zero x at = none-some x at
    no_number (suc place) x at = none-some x at

-- a list of one item has it, at its first place
only_item : {X : Type 0} (x : X) (place : ℕ) (y : X) → slice_get (x ∷ []) place ≡ Some y → (place ≡ 0) × (y ≡ x)
only_item x zero y at = (refl, sym (same_Some x y at))
only_item x (suc place) y at = absurd (none-some y at)

module _ {S : Type 0} (machine : Machine S) (k : ℕ) (state : S) (start : machine.start ≡ Some state) where
  leads_empty : leads machine [] ≡ Some state
  leads_empty = ap (λ from. lead machine from []) start

  starts : LeadTo machine ([] ∷ []) (state ∷ [])
  starts = record {
    one_word_each = refl;
    leads_there = λ place word other at beside.
        let first = only_item [] place word at in
        let same = only_item state place other beside in
        ap (leads machine) first.1 ∙ leads_empty ∙ ap (λ x. Some x) (sym same.1);
  }

  no_parent : (number parent symbol : ℕ) → numbered {S = ℕ × ℕ} ((0, 0) ∷ []) number ≡ Some (suc parent, symbol) → suc parent < number
  no_parent zero parent symbol at = absurd (none-some (suc parent, symbol) at)
  no_parent (suc place) parent symbol at =
      let origin = only_item (0, 0) place (suc parent, symbol) at in
      let same : suc parent ≡ 0 = ap (λ (p : ℕ × ℕ). p.0) origin.1 in
      omega arith

  Progress-one : Progress machine k (state ∷ []) ((0, 0) ∷ []) []
  Progress-one = record {
    words = [] ∷ [];
    seen = record {
      words_lead = starts;
      one_origin_each = refl;
      distinct = λ place other item one two. (only_item state place item one).0 ∙ sym (only_item state other item two).0;
      start = sym start;
      empty_first = λ word at. (only_item [] 0 word at).1;
      traced = traced;
      from_earlier = no_parent;
      ascending = λ p q word other less one two.
          let first = (only_item [] p word one).0 in let second = (only_item [] q other two).0 in absurd (let no : ⊥ = omega arith in no);
    };
    within = omega arith;
    done = λ place row at. absurd (none-some row at);
    next = λ word symbol at place other is.
        let P : List ℕ → Type 0 = λ u. Less u (word ++ symbol ∷ []) in
        subst P (sym (only_item [] place other is).1) (empty_before word symbol);
  }
    where
      traced : (place : ℕ) (word : List ℕ) → slice_get ([] ∷ []) place ≡ Some word → IsTraced ((0, 0) ∷ []) (suc place) word
      traced place word at =
          let first = only_item [] place word at in
          let P : ℕ → Type 0 = λ n. IsTraced ((0, 0) ∷ []) (suc n) word in
          let Q : List ℕ → Type 0 = λ u. IsTraced ((0, 0) ∷ []) 1 u in
          subst P (sym first.0) (subst Q (sym first.1) (at_start refl))

  -- the initial state is seen by the empty word
  pub Progress-started : (states : List S) (origins : List (ℕ × ℕ)) (number : ℕ) → Numbers [] [] state (0, 0) states origins number
      → Progress machine k states origins []
  Progress-started states origins number (known same alike at) = absurd (no_number number at)
    where
      no_number : (n : ℕ) → numbered [] n ≡ Some state → ⊥
      no_number zero at = none-some state at
      no_number (suc place) at = none-some state at
  Progress-started states origins number (added longer also at) =
      let P : List S → Type 0 = λ xs. Progress machine k xs origins [] in
      let Q : List (ℕ × ℕ) → Type 0 = λ os. Progress machine k (state ∷ []) os [] in
      subst P (sym longer) (subst Q (sym also) Progress-one)

  -- and is too many where none is allowed
  pub too_many_at_start : (limit : ℕ) → IsOneTooMany limit [] state → HasMoreStates machine limit
  too_many_at_start limit more = has_more_states starts limit more.distinct more.more

  pub too_many_before : (limit : ℕ) → IsOneTooMany limit [] state → HasMoreStatesBefore machine limit
  too_many_before limit more =
      has_more_states_before starts limit more.distinct more.more
      (λ place word other at less _. (
      let P : List ℕ → Type 0 = λ u. Less other u in nothing_before_empty other (subst P (only_item [] place word at).1 less)))
