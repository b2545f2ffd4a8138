-- Marks of the states to which texts lead, texts with padding on a track among them.
use Rattle.std.proofs.Common.{◌≡◌, ◌≢◌, ◌⊎◌, ◌↔◌, ℕ, suc, ◌+◌, ◌<◌, Bool, true, false, not, ◌&&◌, ◌||◌, List, [], ◌∷◌, ◌++◌, length, get_or, set, replicate, All, Any, Contains, sym, ap, ◌∙◌, subst, inl, inr, arith, append-nil, append_assoc, length-append, length-set}
use Rattle.std.proofs.lemmas.Bool.{cases_eq, cases_lt, true≢false, and_parts, and_from, or_cases, or_left, or_right, eqb-true, eq-eqb, not-true, not_from_false, false_from_ne_true}
use Rattle.std.proofs.lemmas.List.{length-map, length-replicate, get_or-replicate, get_or_past, get_or-map, get_or_at, get_or_append_left, get_or_default}
use Rattle.std.proofs.lemmas.List.Elements.{All-same, All-map}
use Rattle.std.proofs.lemmas.List.Quantifiers.{Any-push}
use Rattle.kb_fsa.specs.PairSymbols.{first_letter, second_letter}
use Rattle.kb_fsa.specs.Table.{Table, IsTable, step, after, state_after}
use Rattle.kb_fsa.proofs.Lookups.{after-append, after_none}
use Rattle.kb_fsa.specs.Graphs.{source, end, IsMarked, IsReached, at_seed, along}
use Rattle.kb_fsa.specs.Moves.{AreBackward}
use Rattle.kb_fsa.proofs.MoveLemmas.{edge_from_step}
use Rattle.kb_fsa.proofs.Reaching.{marked_set, marked_kept, marked_before}
use Rattle.kb_padding.specs.Misplaced.{IsMisplaced}
use Rattle.kb_padding.specs.Cleaning.{turned, Pads, pads, AreMet, AreReachMarks, IsPaddedMove, ArePaddedTargets, is_out_of_place, is_misplaced}
use Rattle.kb_padding.specs.declared.misplaced.Track.{Track}
use Rattle.kb_padding.specs.declared.misplaced.Track.TheVariants.{First, Second}

-- ---- texts with a symbol more

any_longer : (P : ℕ → Type 0) (text more : List ℕ) → Any P text → Any P (text ++ more)
any_longer P text more (k, x, low, at, holds) =
    (k, x, (let long = length-append text more in omega arith), get_or_append_left text more x k low ∙ at, holds)

any_before : (P : ℕ → Type 0) (text : List ℕ) (symbol : ℕ) → Any P (text ++ symbol ∷ []) → Any P text ⊎ P symbol
any_before P text symbol (k, x, low, at, holds) =
    elim (cases_lt k (length text)) [
      | inl inside ↦ inl (k, x, inside, sym (get_or_append_left text (symbol ∷ []) x k inside) ∙ at, holds)
      | inr past ↦
          let long = length-append text (symbol ∷ []) in
          let last : length text ≡ k = omega arith in
          inr (subst P (sym at ∙ get_or_at text symbol [] x k last) holds)
    ]

none_of_none : (P : ℕ → Type 0) → ¬ Any P []
none_of_none P (k, x, low, at, holds) = omega arith

pub Pads-from_true : (track : Track) (n symbol : ℕ) → pads track n symbol ≡ true → Pads track n symbol
Pads-from_true First n symbol is = eqb-true (first_letter n symbol) (n + 1) is
Pads-from_true Second n symbol is = eqb-true (second_letter n symbol) (n + 1) is

pub true_from_Pads : (track : Track) (n symbol : ℕ) → Pads track n symbol → pads track n symbol ≡ true
true_from_Pads First n symbol is = eq-eqb (first_letter n symbol) (n + 1) is
true_from_Pads Second n symbol is = eq-eqb (second_letter n symbol) (n + 1) is

-- the moves forwards
abbrev turn : ℕ × ℕ → ℕ × ℕ
turn edge = (edge.1, edge.0)

module _ (table : Table) (edges : List (ℕ × ℕ)) (symbols : List ℕ) (is : IsTable table)
    (backward : AreBackward table (suc (length table.rows)) 0 edges symbols) where
  turned_at : (place : ℕ) (d : ℕ × ℕ) → place < length edges → get_or (turned edges) place d ≡ (end edges place, source edges place)
  turned_at place d within = get_or-map (λ (edge : ℕ × ℕ). (edge.1, edge.0)) edges place (0, 0) d within

  pub turned_within : (forwards : List (ℕ × ℕ)) (seeds : List Bool) → forwards ≡ turned edges → length seeds ≡ length table.rows + 1
      → All (λ edge. (edge.0 < length seeds) × (edge.1 < length seeds)) forwards
  turned_within forwards seeds are size =
      All-same (λ (edge : ℕ × ℕ). (edge.0 < length seeds) × (edge.1 < length seeds)) forwards (turned edges) are
      (All-map (λ (edge : ℕ × ℕ). (edge.0 < length seeds) × (edge.1 < length seeds)) turn edges (λ place d within.
      let same = get_or_default edges place d (0, 0) within in
      let back = backward.sound place within in
      let to_state = back.to_state.within in
      let from_state = back.from_state.within in
      let first = ap (λ (e : ℕ × ℕ). e.0) same in
      let second = ap (λ (e : ℕ × ℕ). e.1) same in
      (omega arith, omega arith)))

  -- each is a step
  step_of_edge : (x y : ℕ) → Contains (turned edges) (x, y) → (symbol : ℕ) × (step table x symbol ≡ y)
  step_of_edge x y (place, within, at) =
      let low : place < length edges = omega (arith, length-map edges turn) in
      let here : (end edges place, source edges place) ≡ (x, y) = sym (turned_at place (x, y) low) ∙ at in
      let back = backward.sound place low in (
        get_or symbols place 0,
        sym (ap (λ (e : ℕ × ℕ). step table e.0 (get_or symbols place 0)) here) ∙ back.step ∙ ap (λ (e : ℕ × ℕ). e.1) here,
      )

  -- and each step is one
  edge_of_step : (state symbol : ℕ) → step table state symbol ≢ 0 → Contains (turned edges) (state, step table state symbol)
  edge_of_step state symbol some =
      let edge = edge_from_step table edges symbols is backward state symbol some in (
        edge.0,
        omega (arith, edge.1, length-map edges turn),
        turned_at edge.0 (state, step table state symbol) edge.1 ∙ ap (λ (e : ℕ × ℕ). (e.1, e.0)) edge.2,
      )

  -- from marked states the moves lead to the states to which texts lead that meet a condition, if texts meet it longer
  -- than others that do, or than others by which a marked state is reached
  module _ (Meets : List ℕ → Type 0) (seeds : List Bool)
      (seeded : (state : ℕ) → IsMarked seeds state → (text : List ℕ) × ((state_after table text ≡ state) × Meets text))
      (stays : (text : List ℕ) (symbol : ℕ) → Meets text → Meets (text ++ symbol ∷ []))
      (at_first : Meets [] → IsMarked seeds table.initial)
      (begins : (text : List ℕ) (symbol : ℕ) → state_after table (text ++ symbol ∷ []) ≢ 0 → Meets (text ++ symbol ∷ [])
      → Meets text ⊎ IsMarked seeds (state_after table (text ++ symbol ∷ []))) where
    text_of_reached : (state : ℕ) → IsReached (turned edges) seeds state → (text : List ℕ) × ((state_after table text ≡ state) × Meets text)
    text_of_reached state (at_seed marked) = seeded state marked
    text_of_reached state (along {x = x} before edge) =
        let text = text_of_reached x before in
        let move = step_of_edge x state edge in (
          text.0 ++ move.0 ∷ [],
          (
            after-append table table.initial text.0 (move.0 ∷ []) ∙ ap (λ s. step table s move.0) text.1.0 ∙ move.1,
            stays text.0 move.0 text.1.1,
          ),
        )

    reached_onward : (front rest : List ℕ) → (Meets front → IsReached (turned edges) seeds (state_after table front))
        → state_after table (front ++ rest) ≢ 0 → Meets (front ++ rest) → IsReached (turned edges) seeds (state_after table (front ++ rest))
    reached_onward front [] so_far some meets =
        let P : List ℕ → Type 0 = λ text. IsReached (turned edges) seeds (state_after table text) in
        subst P (sym (append-nil front)) (so_far (subst Meets (append-nil front) meets))
    reached_onward front (symbol ∷ rest) so_far some meets =
        let longer : (front ++ symbol ∷ []) ++ rest ≡ front ++ symbol ∷ rest = append_assoc front (symbol ∷ []) rest in
        let P : List ℕ → Type 0 = λ text. IsReached (turned edges) seeds (state_after table text) in
        let to_here : state_after table (front ++ symbol ∷ []) ≡ step table (state_after table front) symbol =
        after-append table table.initial front (symbol ∷ []) in
        let here : state_after table (front ++ symbol ∷ []) ≢ 0 = λ none.
        some (sym (ap (state_after table) longer) ∙ after-append table table.initial (front ++ symbol ∷ []) rest
        ∙ ap (λ s. after table s rest) none ∙ after_none table rest) in
        subst P longer (reached_onward (front ++ symbol ∷ []) rest
        (λ longer_meets. elim (begins front symbol here longer_meets) [
          | inl before ↦
              let Q : ℕ → Type 0 = λ s. IsReached (turned edges) seeds s in
              subst Q (sym to_here) (along (so_far before) (edge_of_step (state_after table front) symbol (λ none. here (to_here ∙ none))))
          | inr marked ↦ at_seed marked
        ])
        (λ none. some (sym (ap (state_after table) longer) ∙ none))
        (subst Meets (sym longer) meets))

    met_where_reached : (marks : List Bool) → length seeds ≡ length table.rows + 1 → length marks ≡ length seeds
        → ((state : ℕ) → IsMarked marks state ↔ IsReached (turned edges) seeds state) → AreMet table Meets marks
    met_where_reached marks size one_each reached = record {
      one_each = one_each ∙ size;
      sound = λ state marked. text_of_reached state ((reached state).0 marked);
      complete = λ text some meets.
          (reached (state_after table text)).1 (reached_onward [] text (λ none. at_seed (at_first none)) some meets);
    }

  -- the states to which texts lead
  pub texts_met : (start marks : List Bool) → start ≡ set (replicate (length table.rows + 1) false) table.initial true → length marks ≡ length start
      → ((state : ℕ) → IsMarked marks state ↔ IsReached (turned edges) start state) → AreMet table (λ _. Unit {0}) marks
  texts_met start marks made one_each reached =
      met_where_reached (λ _. Unit {0}) start
      (λ state marked. ([], (only state marked, tt))) (λ _ _ _. tt) (λ _. initial_marked) (λ text symbol _ _. inl tt)
      marks size one_each reached
    where
      none : List Bool
      none = replicate (length table.rows + 1) false

      size : length start ≡ length table.rows + 1
      size = ap length made ∙ length-set (replicate (length table.rows + 1) false) table.initial true ∙ length-replicate (length table.rows + 1) false

      initial_marked : IsMarked start table.initial
      initial_marked =
          let P : List Bool → Type 0 = λ seeds. IsMarked seeds table.initial in
          let within = is.initial in
          let long = length-replicate (length table.rows + 1) false in
          subst P (sym made) (marked_set (replicate (length table.rows + 1) false) table.initial (omega arith))

      only : (state : ℕ) → IsMarked start state → table.initial ≡ state
      only state marked =
          elim (cases_eq state table.initial) [
            | inl same ↦ sym same
            | inr other ↦
                let P : List Bool → Type 0 = λ seeds. IsMarked seeds state in
                let before = marked_before (replicate (length table.rows + 1) false) table.initial state other (subst P made marked) in
                absurd (true≢false (sym before ∙ all_false (length table.rows + 1) state))
          ]
        where
          all_false : (count place : ℕ) → get_or (replicate count false) place false ≡ false
          all_false count place =
              elim (cases_lt place count) [
                | inl low ↦ get_or-replicate count place false false low
                | inr past ↦ get_or_past (replicate count false) place false (let long = length-replicate count false in omega arith)
              ]

  -- those to which texts with padding on a track lead
  pub padded_met : (track : Track) (n : ℕ) (marks targets found : List Bool) → AreMet table (λ _. Unit {0}) marks
      → ArePaddedTargets track n edges symbols marks (length edges) targets → length found ≡ length targets
      → ((state : ℕ) → IsMarked found state ↔ IsReached (turned edges) targets state) → AreMet table (Any (Pads track n)) found
  padded_met track n marks targets found met are_targets one_each reached =
      met_where_reached (Any (Pads track n)) targets seeded (λ text symbol any. any_longer (Pads track n) text (symbol ∷ []) any)
      (λ any. absurd (none_of_none (Pads track n) any)) begins found (are_targets.one_each ∙ met.one_each) one_each reached
    where
      seeded : (state : ℕ) → IsMarked targets state → (text : List ℕ) × ((state_after table text ≡ state) × Any (Pads track n) text)
      seeded state marked =
          let move = are_targets.sound state marked in
          let text = met.sound (end edges move.0) move.1.1.1.from_marked in
          let symbol = get_or symbols move.0 0 in
          let back = backward.sound move.0 move.1.0 in (
            text.0 ++ symbol ∷ [],
            (
              after-append table table.initial text.0 (symbol ∷ []) ∙ ap (λ s. step table s symbol) text.1.0 ∙ back.step ∙ move.1.1.0,
              Any-push (Pads track n) text.0 symbol (Pads-from_true track n symbol move.1.1.1.is_padded),
            ),
          )

      begins : (text : List ℕ) (symbol : ℕ) → state_after table (text ++ symbol ∷ []) ≢ 0 → Any (Pads track n) (text ++ symbol ∷ [])
          → Any (Pads track n) text ⊎ IsMarked targets (state_after table (text ++ symbol ∷ []))
      begins text symbol some any =
          elim (any_before (Pads track n) text symbol any) [
            | inl before ↦ inl before
            | inr here ↦
                let state = state_after table text in
                let to_here : state_after table (text ++ symbol ∷ []) ≡ step table state symbol =
                after-append table table.initial text (symbol ∷ []) in
                let moves : step table state symbol ≢ 0 = λ none. some (to_here ∙ none) in
                let edge = edge_from_step table edges symbols is backward state symbol moves in
                let from : end edges edge.0 ≡ state = ap (λ (e : ℕ × ℕ). e.1) edge.2 in
                let to : source edges edge.0 ≡ step table state symbol = ap (λ (e : ℕ × ℕ). e.0) edge.2 in
                let marked : IsMarked marks state = met.complete text (start_positive text symbol moves) tt in
                let P : ℕ → Type 0 = λ s. IsMarked targets s in
                let M : ℕ → Type 0 = λ s. IsMarked marks s in
                inr (subst P (to ∙ sym to_here) (are_targets.complete edge.0 edge.1 (record {
                  from_marked = subst M (sym from) marked;
                  is_padded = ap (pads track n) edge.3 ∙ true_from_Pads track n symbol here;
                })))
          ]
        where
          start_positive : (word : List ℕ) (x : ℕ) → step table (state_after table word) x ≢ 0 → state_after table word ≢ 0
          start_positive word x moves none = moves (ap (λ s. step table s x) none)

-- ---- misplaced moves

module _ (n : ℕ) (table : Table) (marks first second : List Bool) (reached : AreReachMarks n table marks first second) where
  pub misplaced_from_true : (state symbol : ℕ) → step table state symbol ≢ 0 → is_misplaced n marks first second state symbol ≡ true
      → IsMisplaced n table state symbol
  misplaced_from_true state symbol some is =
      let parts = and_parts (get_or marks state false)
      (is_out_of_place (get_or first state false) (get_or second state false) (pads First n symbol) (pads Second n symbol)) is in
      elim (or_cases _ _ parts.1) [
        | inl by_first ↦
            let facts = and_parts (get_or first state false) (not (pads First n symbol)) by_first in
            let text = reached.by_first.sound state facts.0 in
            record {
              text = text.0;
              leads = text.1.0;
              some = some;
              out_of_place = inl (text.1.1, not_padded First facts.1);
            }
        | inr others ↦ elim (or_cases _ _ others) [
          | inl by_second ↦
              let facts = and_parts (get_or second state false) (not (pads Second n symbol)) by_second in
              let text = reached.by_second.sound state facts.0 in
              record {
                text = text.0;
                leads = text.1.0;
                some = some;
                out_of_place = inr (inl (text.1.1, not_padded Second facts.1));
              }
          | inr both ↦
              let facts = and_parts (pads First n symbol) (pads Second n symbol) both in
              let text = reached.by_texts.sound state parts.0 in
              record {
                text = text.0;
                leads = text.1.0;
                some = some;
                out_of_place = inr (inr (Pads-from_true First n symbol facts.0, Pads-from_true Second n symbol facts.1));
              }
        ]
      ]
    where
      not_padded : (track : Track) → not (pads track n symbol) ≡ true → ¬ Pads track n symbol
      not_padded track none padded = true≢false (sym (true_from_Pads track n symbol padded) ∙ not-true (pads track n symbol) none)

  pub true_from_misplaced : (state symbol : ℕ) → IsMisplaced n table state symbol → is_misplaced n marks first second state symbol ≡ true
  true_from_misplaced state symbol misplaced =
      let by_first : Bool = get_or first state false && not (pads First n symbol) in
      let by_second : Bool = get_or second state false && not (pads Second n symbol) in
      let by_both : Bool = pads First n symbol && pads Second n symbol in
      and_from (get_or marks state false)
      (is_out_of_place (get_or first state false) (get_or second state false) (pads First n symbol) (pads Second n symbol))
      (there marks (reached.by_texts.complete misplaced.text some tt))
      (elim misplaced.out_of_place [
        | inl after_first ↦
            or_left by_first (by_second || by_both) (and_from (get_or first state false) (not (pads First n symbol))
            (there first (reached.by_first.complete misplaced.text some after_first.0)) (none First after_first.1))
        | inr others ↦ or_right by_first (by_second || by_both) (elim others [
          | inl after_second ↦
              or_left by_second by_both (and_from (get_or second state false) (not (pads Second n symbol))
              (there second (reached.by_second.complete misplaced.text some after_second.0)) (none Second after_second.1))
          | inr both ↦
              or_right by_second by_both (and_from (pads First n symbol) (pads Second n symbol)
              (true_from_Pads First n symbol both.0) (true_from_Pads Second n symbol both.1))
        ])
      ])
    where
      some : state_after table misplaced.text ≢ 0
      some gone = misplaced.some (ap (λ s. step table s symbol) (sym misplaced.leads ∙ gone))

      there : (found : List Bool) → IsMarked found (state_after table misplaced.text) → IsMarked found state
      there found marked = let P : ℕ → Type 0 = λ s. IsMarked found s in subst P misplaced.leads marked

      none : (track : Track) → ¬ Pads track n symbol → not (pads track n symbol) ≡ true
      none track not_padded =
          not_from_false (pads track n symbol) (false_from_ne_true (pads track n symbol) (λ padded. not_padded (Pads-from_true track n symbol padded)))

-- ---- one move after another

pub ArePaddedTargets-none : (track : Track) (n : ℕ) (edges : List (ℕ × ℕ)) (symbols : List ℕ) (marks : List Bool)
    → ArePaddedTargets track n edges symbols marks 0 (replicate (length marks) false)
ArePaddedTargets-none track n edges symbols marks = record {
  one_each = length-replicate (length marks) false;
  sound = λ state marked. absurd (true≢false (sym marked ∙ none_marked (length marks) state));
  complete = λ place less. absurd (let no : ⊥ = omega arith in no);
}
  where
    none_marked : (count place : ℕ) → get_or (replicate count false) place false ≡ false
    none_marked count place =
        elim (cases_lt place count) [
          | inl low ↦ get_or-replicate count place false false low
          | inr past ↦ get_or_past (replicate count false) place false (let long = length-replicate count false in omega arith)
        ]

module _ {track : Track} {n : ℕ} {edges : List (ℕ × ℕ)} {symbols : List ℕ} {marks : List Bool} {done : ℕ} {targets : List Bool}
    (before : ArePaddedTargets track n edges symbols marks done targets) where
  -- the target of a padded move is marked
  pub ArePaddedTargets-marked : (target : ℕ) → source edges done ≡ target → target < length targets → IsPaddedMove track n edges symbols marks done
      → ArePaddedTargets track n edges symbols marks (done + 1) (set targets target true)
  ArePaddedTargets-marked target is within padded = record {
    one_each = length-set targets target true ∙ before.one_each;
    sound = λ state marked. elim (cases_eq state target) [
      | inl same ↦ (done, (omega arith, (is ∙ sym same, padded)))
      | inr other ↦
          let move = before.sound state (marked_before targets target state other marked) in
          let less = move.1.0 in
          (move.0, (omega arith, move.1.1))
    ];
    complete = λ place less here. elim (cases_eq place done) [
      | inl same ↦
          let P : ℕ → Type 0 = λ s. IsMarked (set targets target true) s in
          subst P (sym (ap (source edges) same ∙ is)) (marked_set targets target within)
      | inr other ↦ marked_kept targets target (source edges place) (before.complete place (omega arith) here)
    ];
  }

  -- another's is not
  pub ArePaddedTargets-passed : ¬ IsPaddedMove track n edges symbols marks done → ArePaddedTargets track n edges symbols marks (done + 1) targets
  ArePaddedTargets-passed other = record {
    one_each = before.one_each;
    sound = λ state marked.
        let move = before.sound state marked in
        let less = move.1.0 in
        (move.0, (omega arith, move.1.1));
    complete = λ place less here. elim (cases_eq place done) [
      | inl same ↦
          let P : ℕ → Type 0 = λ p. IsPaddedMove track n edges symbols marks p in absurd (other (subst P same here))
      | inr earlier ↦ before.complete place (omega arith) here
    ];
  }
