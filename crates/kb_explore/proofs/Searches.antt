-- The steps of a search for the least accepted text.
use Rattle.std.proofs.Common.{◌≡◌, ℕ, zero, suc, ◌+◌, ◌^◌, ◌<◌, ◌≤◌, true, false, List, [], ◌∷◌, ◌++◌, length, slice_get, min, Some, refl, sym, ap, subst, ◌∙◌, inl, inr, arith, true≢false, length-append}
use Rattle.std.specs.List.{All}
use Rattle.std.proofs.lemmas.Option.{same_Some, slice_get_within}
use Rattle.kb_word.specs.Words.{Less}
use Rattle.kb_word.specs.ShortlexLaws.{shortlex_transitive, shortlex_total}
use Rattle.kb_fsa.specs.Table.{lookup}
use Rattle.kb_explore.specs.Machine.{Machine, MachineAccepts, AreMovesOf, lead, leads}
use Rattle.kb_explore.specs.Exploration.{IsTraced}
use Rattle.kb_explore.specs.FirstAccepted.{IsLeastAccepted, LeadsBeforeAcceptance, HasMoreStatesBefore}
use Rattle.kb_explore.specs.Progress.{AreDistinct, Numbers, known, added, IsOneTooMany, Progress}
use Rattle.kb_explore.specs.Search.{NoneAccepts, IsSearched, IsSearching, IsFound}
use Rattle.kb_explore.proofs.Continuations.{nothing_before_empty, none_between}
use Rattle.kb_explore.proofs.CountingLemmas.{MoreThan-kept, MoreThan-fewer, no_more_among, some_state}
use Rattle.kb_explore.proofs.ExplorationLemmas.{leads_within, no_more_than_explored}
use Rattle.kb_explore.proofs.ExplorationSteps.{leads_on, AreSeen-push, Partway-begun, Partway-push, Progress-push}
use Rattle.kb_explore.proofs.Finishing.{explored}
use Rattle.kb_explore.proofs.Leading.{LeadTo-push, has_more_states_before}
use Rattle.kb_explore.proofs.Lists.{item_within, item_kept, item_cases, last_item}
use Rattle.kb_explore.proofs.Reached.{reached}

-- ---- the start

module _ {S : Type 0} {machine : Machine S} {k : ℕ} {states : List S} {origins : List (ℕ × ℕ)}
    (progress : Progress machine k states origins []) where
  -- at most the initial state is seen
  only_first : (place : ℕ) (state : S) → slice_get states place ≡ Some state → place ≡ 0
  only_first zero state at = refl
  only_first (suc place) state at =
      let within = slice_get_within states (suc place) state at in
      let lead_there = progress.seen.words_lead in
      let count = lead_there.one_word_each in
      let first = item_within progress.words 0 (omega arith) in
      let word = item_within progress.words (suc place) (omega arith) in
      let empty = progress.seen.empty_first first.0 first.1 in
      let above = progress.seen.ascending 0 (suc place) first.0 word.0 (omega arith) first.1 word.1 in
      let below = progress.next first.0 0 first.1 (suc place) word.0 word.1 in
      let P : List ℕ → Type 0 = λ u. Less u word.0 in
      let Q : List ℕ → Type 0 = λ u. Less word.0 (u ++ 0 ∷ []) in
      absurd (none_between word.0 (subst P empty above) (subst Q empty below))

  -- where it doesn't accept, the search goes on
  pub Searched-started : ((state : S) → slice_get states 0 ≡ Some state → machine.accepts state ≡ false)
      → IsSearched machine k states origins 0
  Searched-started rejects = record {
    rows = [];
    count = refl;
    progress = progress;
    none = λ place state at. rejects state (sym (ap (slice_get states) (only_first place state at)) ∙ at);
  }

  -- and where it does, the empty text is the least that is accepted
  module _ (first : (state : S) × ((slice_get states 0 ≡ Some state) × (machine.accepts state ≡ true))) where
    accepts_empty : MachineAccepts machine []
    accepts_empty = record {
      state = first.0;
      leads_there = ap (λ from. lead machine from []) (sym progress.seen.start ∙ first.1.0);
      accepts = first.1.1;
    }

    pub empty_accepted : IsLeastAccepted machine []
    empty_accepted = record { accepted = accepts_empty; least = λ other _ less. nothing_before_empty other less }

    pub few_at_start : (limit : ℕ) → length states ≤ limit → ¬ HasMoreStatesBefore machine limit
    unfolding accepts_empty
    few_at_start limit within =
        no_more_among machine states limit within (λ text counts.
        elim (shortlex_total text []) [
          | inl same ↦ (0, (first.0, (ap (leads machine) same ∙ accepts_empty.leads_there, first.1.0)))
          | inr differ ↦ elim differ [
            | inl before ↦ absurd (nothing_before_empty text before)
            | inr behind ↦ absurd (counts.1 [] behind accepts_empty)
          ]
        ])

-- ---- a move more

module _ {S : Type 0} {machine : Machine S} {k : ℕ} {states : List S} {origins : List (ℕ × ℕ)} {done : ℕ} {state : S}
    {passed : List (ℕ × S)} (so_far : IsSearching machine k states origins done state passed) (symbol : ℕ) (target : S)
    (on : machine.follow state symbol ≡ Some target) (below : All (λ move. move.0 < symbol) passed)
    (all_before : (x : ℕ) (next : S) → x < symbol → machine.follow state x ≡ Some next → lookup passed x ≡ Some next) where
  abbrev last : List ℕ
  last = so_far.partway.word ++ symbol ∷ []

  -- no text before the word with the symbol is accepted
  none_before : (text : List ℕ) → Less text last → ¬ MachineAccepts machine text
  none_before text less accepts =
      let at = reached so_far.partway symbol all_before text less accepts.state accepts.leads_there in
      true≢false (sym accepts.accepts ∙ so_far.none at.0 accepts.state at.1)

  last_leads : leads machine last ≡ Some target
  last_leads =
      let partway = so_far.partway in
      leads_on partway.seen state target partway.word (length so_far.rows) symbol partway.is_state partway.is_word on

  -- where there are too many states, there are more than the limit up to the first accepted text
  pub Searching-too_many : (limit : ℕ) → IsOneTooMany limit states target → HasMoreStatesBefore machine limit
  Searching-too_many limit one_more =
      let partway = so_far.partway in
      has_more_states_before (LeadTo-push last target partway.seen.words_lead last_leads) limit one_more.distinct one_more.more
      (λ place word other at less. none_before other
      (elim (item_cases partway.words last place word at) [
        | inl old ↦ shortlex_transitive other word last less (partway.next symbol below place word old)
        | inr new ↦ (let P : List ℕ → Type 0 = λ u. Less other u in subst P new.1 less)
      ]))

  module _ (accepts : machine.accepts target ≡ true) where
    last_accepted : MachineAccepts machine last
    last_accepted = record { state = target; leads_there = last_leads; accepts = accepts }

    -- texts up to there lead to the states that are seen then
    listed : (text : List ℕ) → LeadsBeforeAcceptance machine text
        → (place : ℕ) × ((s : S) × ((leads machine text ≡ Some s) × (slice_get (states ++ target ∷ []) place ≡ Some s)))
    listed text counts =
        elim (shortlex_total text last) [
          | inl same ↦ (length states, (target, (ap (leads machine) same ∙ last_leads, last_item states target)))
          | inr differ ↦ elim differ [
            | inl before ↦ (
                let there = some_state machine text counts.0 in
                let at = reached so_far.partway symbol all_before text before there.0 there.1 in
                (at.0, (there.0, (there.1, item_kept states target at.0 there.0 at.1)))
                )
            | inr behind ↦ absurd (counts.1 last behind last_accepted)
          ]
        ]

    found_last : AreDistinct (states ++ target ∷ []) → IsFound machine (states ++ target ∷ []) (origins ++ (suc (length so_far.rows), symbol) ∷ [])
    found_last distinct =
        let partway = so_far.partway in
        let seen = AreSeen-push partway.seen state target partway.word (length so_far.rows) symbol partway.is_state partway.is_word on distinct
        (partway.next symbol below) in
        let lead_there = partway.seen.words_lead in
        let count = lead_there.one_word_each in
        let longer = length-append states (target ∷ []) in
        let same : suc (length partway.words) ≡ length (states ++ target ∷ []) = omega arith in
        let P : ℕ → Type 0 = λ n. IsTraced (origins ++ (suc (length so_far.rows), symbol) ∷ []) n last in record {
          text = last;
          least = record { accepted = last_accepted; least = λ other accepted less. none_before other less accepted };
          traced = subst P same (seen.traced (length partway.words) last (last_item partway.words last));
          from_earlier = seen.from_earlier;
          few = no_more_among machine (states ++ target ∷ []) (length (states ++ target ∷ [])) (omega arith) listed;
        }

  module _ (parent : ℕ) (to_parent : parent ≡ done + 1) (states' : List S) (origins' : List (ℕ × ℕ)) (number : ℕ) where
    -- where the state that was added accepts, it is found
    pub Searching-found : Numbers states origins target (parent, symbol) states' origins' number → AreDistinct states'
        → (s : S) × ((slice_get states' (length states) ≡ Some s) × (machine.accepts s ≡ true)) → IsFound machine states' origins'
    Searching-found (known same alike at) distinct new =
        let within = slice_get_within states (length states) new.0 (sym (ap (λ xs. slice_get xs (length states)) same) ∙ new.1.0) in
        absurd (let no : ⊥ = omega arith in no)
    Searching-found (added longer also at) distinct new =
        let count = so_far.count in
        let parents : parent ≡ suc (length so_far.rows) = omega arith in
        let is : new.0 ≡ target =
        same_Some new.0 target
        (sym new.1.0 ∙ ap (λ xs. slice_get xs (length states)) longer ∙ last_item states target) in
        let D : List S → Type 0 = λ xs. AreDistinct xs in
        let P : List S → Type 0 = λ xs. IsFound machine xs origins' in
        let Q : List (ℕ × ℕ) → Type 0 = λ os. IsFound machine (states ++ target ∷ []) os in
        let R : ℕ → Type 0 = λ n. IsFound machine (states ++ target ∷ []) (origins ++ (n, symbol) ∷ []) in
        subst P (sym longer) (subst Q (sym also) (subst R (sym parents)
        (found_last (ap machine.accepts (sym is) ∙ new.1.1) (subst D longer distinct))))

    none_more : Numbers states origins target (parent, symbol) states' origins' number
        → ((s : S) → slice_get states' (length states) ≡ Some s → machine.accepts s ≡ false) → NoneAccepts machine states'
    none_more (known same alike at) rejects place s here = so_far.none place s (sym (ap (λ xs. slice_get xs place) same) ∙ here)
    none_more (added longer also at) rejects place s here =
        elim (item_cases states target place s (sym (ap (λ xs. slice_get xs place) longer) ∙ here)) [
          | inl old ↦ so_far.none place s old
          | inr new ↦ rejects s (ap (slice_get states') (sym new.0) ∙ here)
        ]

    -- and where none does, the search goes on
    pub Searching-push : Numbers states origins target (parent, symbol) states' origins' number → AreDistinct states'
        → ((s : S) → slice_get states' (length states) ≡ Some s → machine.accepts s ≡ false)
        → IsSearching machine k states' origins' done state (passed ++ (symbol, target) ∷ [])
    Searching-push numbers distinct rejects = record {
      rows = so_far.rows;
      count = so_far.count;
      row = so_far.row ++ (symbol, number) ∷ [];
      partway = let count = so_far.count in
          Partway-push so_far.partway symbol target on below parent (omega arith) states' origins' number numbers distinct;
      none = none_more numbers rejects;
    }

-- the states that are seen then are all up to there
pub few_found : {S : Type 0} {machine : Machine S} {states : List S} {origins : List (ℕ × ℕ)} → IsFound machine states origins
    → (limit : ℕ) → length states ≤ limit → ¬ HasMoreStatesBefore machine limit
few_found found limit within more = found.few (MoreThan-fewer more within)

-- ---- the begin and the end of a state's moves

module _ {S : Type 0} {machine : Machine S} {k : ℕ} {states : List S} {origins : List (ℕ × ℕ)} {done : ℕ} where
  pub Searching-begun : (state : S) → IsSearched machine k states origins done → slice_get states done ≡ Some state
      → IsSearching machine k states origins done state []
  Searching-begun state searched at = record {
    rows = searched.rows;
    count = searched.count;
    row = [];
    partway = Partway-begun state searched.progress (ap (slice_get states) searched.count ∙ at);
    none = searched.none;
  }

  pub Searched-push : {state : S} {moves : List (ℕ × S)} → IsSearching machine k states origins done state moves
      → AreMovesOf machine k state moves → IsSearched machine k states origins (suc done)
  Searched-push {state} {moves} whole are_moves = record {
    rows = whole.rows ++ whole.row ∷ [];
    count = let count = whole.count in let longer = length-append whole.rows (whole.row ∷ []) in omega arith;
    progress = Progress-push whole.partway are_moves;
    none = whole.none;
  }

  -- ---- the end, where no state accepts

  module _ (searched : IsSearched machine k states origins done) (all : ¬ (done < length states)) (small : length states < 2 ^ 32) where
    whole : length searched.rows ≡ length states
    whole = let count = searched.count in let progress = searched.progress in let within = progress.within in omega arith

    pub none_accepted : (text : List ℕ) → ¬ MachineAccepts machine text
    none_accepted text accepts =
        let at = leads_within (explored searched.progress whole (min (length searched.rows) 1) refl small) text accepts.state accepts.leads_there in
        true≢false (sym accepts.accepts ∙ searched.none at.0 accepts.state at.1.0)

    pub few_in_all : (limit : ℕ) → length states ≤ limit → ¬ HasMoreStatesBefore machine limit
    few_in_all limit within more =
        let count = whole in
        no_more_than_explored (explored searched.progress whole (min (length searched.rows) 1) refl small)
        (MoreThan-fewer (MoreThan-kept more (λ text counts. counts.0) (λ text other one two same. same)) (omega arith))
