-- Words that lead to different states.
use Rattle.std.proofs.Common.{◌≡◌, ℕ, ◌<◌, List, [], ◌∷◌, ◌++◌, length, get_or, slice_get, is_some, Option, Some, None, refl, sym, ap, ◌∙◌, inl, inr, arith, length-append}
use Rattle.std.proofs.lemmas.Option.{same_Some, get_or_from_slice_get, slice_get_within, slice_get-get_or}
use Rattle.kb_word.specs.Words.{Less}
use Rattle.kb_explore.specs.Machine.{Machine, MachineAccepts, lead, leads, HasMoreStates}
use Rattle.kb_explore.specs.FirstAccepted.{HasMoreStatesBefore}
use Rattle.kb_explore.specs.Progress.{AreDistinct, LeadTo}
use Rattle.kb_explore.proofs.Lists.{item_within, item_cases}

pub lead-append : {S : Type 0} (machine : Machine S) (from : Option S) (text more : List ℕ)
    → lead machine from (text ++ more) ≡ lead machine (lead machine from text) more
lead-append machine None text more = refl
lead-append machine (Some state) [] more = refl
lead-append machine (Some state) (symbol ∷ text) more = lead-append machine (machine.follow state symbol) text more

-- a text with a symbol more leads on from where the text leads
pub leads-push : {S : Type 0} (machine : Machine S) (text : List ℕ) (symbol : ℕ) (state target : S) → leads machine text ≡ Some state
    → machine.follow state symbol ≡ Some target → leads machine (text ++ symbol ∷ []) ≡ Some target
leads-push machine text symbol state target there on =
    lead-append machine machine.start text (symbol ∷ [])
    ∙ ap (λ from. lead machine from (symbol ∷ [])) there
    ∙ ap (λ from. lead machine from []) on

pub LeadTo-push : {S : Type 0} {machine : Machine S} {words : List (List ℕ)} {states : List S} (word : List ℕ) (state : S)
    → LeadTo machine words states → leads machine word ≡ Some state → LeadTo machine (words ++ word ∷ []) (states ++ state ∷ [])
LeadTo-push {S} {machine} {words} {states} word state lead_there there =
    let count = lead_there.one_word_each in
    let one = length-append words (word ∷ []) in
    let two = length-append states (state ∷ []) in record {
      one_word_each = omega arith;
      leads_there = λ place u s at beside. elim (item_cases words word place u at) [
        | inl old ↦ elim (item_cases states state place s beside) [
          | inl known ↦ lead_there.leads_there place u s old known
          | inr new ↦ (let in_words = slice_get_within words place u old in absurd (let no : ⊥ = omega (arith, new.0) in no))
        ]
        | inr new ↦ elim (item_cases states state place s beside) [
          | inl known ↦ (let in_states = slice_get_within states place s known in absurd (let no : ⊥ = omega (arith, new.0) in no))
          | inr last ↦ ap (leads machine) new.1 ∙ there ∙ ap (λ x. Some x) (sym last.1)
        ]
      ];
    }

module _ {S : Type 0} {machine : Machine S} {words : List (List ℕ)} {states : List S} (lead_there : LeadTo machine words states) where
  state_at : (place : ℕ) (d : List ℕ) → place < length words
      → (state : S) × ((slice_get states place ≡ Some state) × (leads machine (get_or words place d) ≡ Some state))
  state_at place d within =
      let count = lead_there.one_word_each in
      let word = item_within words place within in
      let state = item_within states place (omega arith) in (
        state.0,
        (
          state.1,
          ap (leads machine) (get_or_from_slice_get words place word.0 d word.1)
              ∙ lead_there.leads_there place word.0 state.0 word.1 state.1,
        ),
      )

  -- as many words as there are states lead to different ones
  pub has_more_states : (m : ℕ) → AreDistinct states → m < length states → HasMoreStates machine m
  has_more_states m distinct more =
      let count = lead_there.one_word_each in record {
        texts = words;
        many = omega arith;
        count = λ place d within. ap is_some (state_at place d within).1.1;
        differ = λ i j d less within same.
            let one = state_at i d (omega arith) in
            let two = state_at j d within in
            let alike : two.0 ≡ one.0 = same_Some two.0 one.0 (sym two.1.1 ∙ sym same ∙ one.1.1) in
            let place : i ≡ j = distinct i j one.0 one.1.0 (two.1.0 ∙ ap (λ x. Some x) alike) in
            omega arith;
      }

  -- and where no text before one of the words is accepted, they do so up to the first accepted text
  pub has_more_states_before : (m : ℕ) → AreDistinct states → m < length states
      → ((place : ℕ) (word other : List ℕ) → slice_get words place ≡ Some word → Less other word → ¬ MachineAccepts machine other)
      → HasMoreStatesBefore machine m
  unfolding has_more_states
  has_more_states_before m distinct more first =
      let all = has_more_states m distinct more in record {
        texts = words;
        many = all.many;
        count = λ place d within.
            (all.count place d within, λ other. first place (get_or words place d) other (slice_get-get_or words place d within));
        differ = all.differ;
      }
