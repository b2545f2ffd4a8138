-- The rests of the middle word, behind both outer words.
use Rattle.std.proofs.Common.{◌≡◌, ◌≢◌, ◌↔◌, ◌⊎◌, ℕ, zero, suc, ◌+◌, ◌-◌, ◌*◌, ◌<◌, ◌≤◌, ◌^◌, nat_eq, nat_lt, nat_le, ◌||◌, Bool, true, false, if◌then◌else◌, List, [], ◌∷◌, ◌++◌, length, get_or, slice_get, Contains, Option, Some, None, refl, sym, ap, ap₂, ◌∙◌, subst, inl, inr, arith}
use Rattle.std.specs.List.{All}
use Rattle.std.proofs.lemmas.Bool.{false≢true, cases_lt, cases_eq, eq-eqb, ne_eqb, lt-ltb, le-ltb, le-leb, lt-leb, and_from, and_left, and_right, and_parts, or_right}
use Rattle.std.proofs.lemmas.List.{get_or_default}
use Rattle.std.proofs.lemmas.List.Elements.{All-nil, All-cons, All-head, All-tail, All-push, Contains-push, Contains-push_cases, Contains-append_left}
use Rattle.std.proofs.lemmas.Option.{none-some, same_Some, slice_get-get_or, get_or_from_slice_get}
use Rattle.kb_word.specs.Relations.{IsOver}
use Rattle.kb_fsa.specs.Table.{Table, IsTable, IsRow, Moves, Ascends, AcceptsFrom, IsLive, lookup, target, moves_of, step, after, is_accepting}
use Rattle.kb_fsa.specs.PairSymbols.{pair_symbol}
use Rattle.kb_fsa.specs.Padding.{padded}
use Rattle.kb_fsa.specs.Graphs.{IsMarked}
use Rattle.kb_fsa.proofs.Lookups.{after_none, step_within, Ascends-push, lookup_above, lookup_nowhere, lookup-push_same, lookup-push_other, target_none}
use Rattle.kb_fsa.proofs.PairSymbolLaws.{last_row}
use Rattle.kb_explore.proofs.Lists.{item_within}
use Rattle.kb_explore.specs.Machine.{Machine, AreMovesOf, lead}
use Rattle.kb_explore.specs.Exploration.{numbered, IsExploration}
use Rattle.kb_explore.proofs.ExplorationLemmas.{accepts_same}
use Rattle.kb_fsadet.specs.SubsetConstruction.{set_of}
use Rattle.kb_fsadet.proofs.Members.{contains_from_member, member_from_contains}
use Rattle.kb_fsadet.proofs.Sets.{Contains-none, Contains-set_of}
use Rattle.kb_compose.specs.declared.tail.Tail.{Tail}
use Rattle.kb_compose.specs.declared.tail.Tail.TheVariants.{At}
use Rattle.kb_compose.specs.StatePairs.{number_of, first_state, second_state}
use Rattle.kb_compose.specs.Tails.{EndsTogether, AreEnding, tail_at, tail_of, tail_after, tail_accepts, tails}
use Rattle.kb_compose.specs.Progress.{AreMovesBelow, AreEndingBelow}
use Rattle.kb_compose.proofs.Numbers.{first_of_number, second_of_number}

-- ---- moves by numbers, one after another

pub no_moves_below : {S : Type 0} (follow : ℕ → Option S) → follow 0 ≡ None → AreMovesBelow follow 1 []
no_moves_below {S} follow none = record {
  ascends = λ i j d low high. absurd (omega arith);
  numbers = All-nil (λ (move : ℕ × S). (0 < move.0) × (move.0 < 1));
  leads = λ number less. let zero_is : 0 ≡ number = omega arith in sym none ∙ ap follow zero_is;
}

module _ {S : Type 0} (follow : ℕ → Option S) (bound : ℕ) (moves : List (ℕ × S)) (below : AreMovesBelow follow bound moves) (positive : 0 < bound) where
  pub move_more : (target : S) → follow bound ≡ Some target → AreMovesBelow follow (suc bound) (moves ++ (bound, target) ∷ [])
  move_more target is =
      let under : All (λ move. move.0 < bound) moves = λ k d h. (below.numbers k d h).1 in
      record {
        ascends = Ascends-push moves bound target below.ascends under;
        numbers = All-push (λ (move : ℕ × S). (0 < move.0) × (move.0 < suc bound)) moves (bound, target)
            (λ k d h. ((below.numbers k d h).0, omega (arith, (below.numbers k d h).1))) (positive, omega arith);
        leads = λ number less. elim (cases_eq number bound) [
          | inl same ↦
              ap (lookup (moves ++ (bound, target) ∷ [])) same ∙ lookup-push_same moves bound target (lookup_above moves bound under)
              ∙ sym is ∙ ap follow (sym same)
          | inr differ ↦ lookup-push_other moves bound target number differ ∙ below.leads number (omega arith)
        ];
      }

  pub move_none : follow bound ≡ None → AreMovesBelow follow (suc bound) moves
  move_none none =
      let under : All (λ move. move.0 < bound) moves = λ k d h. (below.numbers k d h).1 in
      record {
        ascends = below.ascends;
        numbers = λ k d h. ((below.numbers k d h).0, omega (arith, (below.numbers k d h).1));
        leads = λ number less. elim (cases_eq number bound) [
          | inl same ↦ ap (lookup moves) same ∙ lookup_above moves bound under ∙ sym none ∙ ap follow (sym same)
          | inr differ ↦ below.leads number (omega arith)
        ];
      }

  -- once none is left
  pub moves_whole : (machine : Machine S) (state : S) (k : ℕ) → ((number : ℕ) → machine.follow state number ≡ follow number)
      → bound ≤ suc k → ((number : ℕ) → bound ≤ number → follow number ≡ None) → AreMovesOf machine k state moves
  moves_whole machine state k same within none = record {
    ascends = below.ascends;
    symbols = λ i d h. ((below.numbers i d h).0, omega (arith, (below.numbers i d h).1));
    follow = λ number. elim (cases_lt number bound) [
      | inl less ↦ below.leads number less ∙ sym (same number)
      | inr past ↦
          lookup_above moves number (λ i d h. omega (arith, (below.numbers i d h).1)) ∙ sym (none number past) ∙ sym (same number)
    ];
  }

-- ---- letters of the middle word

module _ (n : ℕ) (first second : Table) where
  -- a letter that leads from the pair to two states
  pub record IsTailStep (pair letter : ℕ) : Type 0 where
    pub positive : 0 < letter
    pub low : letter ≤ n
    pub p_some : step first (first_state pair) (pair_symbol n (n + 1) letter) ≢ 0
    pub q_some : step second (second_state pair) (pair_symbol n letter (n + 1)) ≢ 0

  abbrev next_pair : ℕ → ℕ → ℕ
  next_pair pair letter =
      number_of (step first (first_state pair) (pair_symbol n (n + 1) letter)) (step second (second_state pair) (pair_symbol n letter (n + 1)))

  pub tail_of_letter : (pair letter : ℕ) → 0 < letter → letter ≤ n → tail_after n first second pair letter
      ≡ tail_at (step first (first_state pair) (pair_symbol n (n + 1) letter)) (step second (second_state pair) (pair_symbol n letter (n + 1)))
  tail_of_letter pair letter positive low =
      let p = step first (first_state pair) (pair_symbol n (n + 1) letter) in
      let q = step second (second_state pair) (pair_symbol n letter (n + 1)) in
      ap (λ (b : Bool). if b then tail_at p q else None) (and_from (nat_lt 0 letter) (nat_le letter n) (lt-ltb 0 letter positive) (le-leb letter n low))

  pub no_tail : (pair letter : ℕ) → ¬ ((0 < letter) × (letter ≤ n)) → tail_after n first second pair letter ≡ None
  no_tail pair letter foreign =
      let p = step first (first_state pair) (pair_symbol n (n + 1) letter) in
      let q = step second (second_state pair) (pair_symbol n letter (n + 1)) in
      ap (λ (b : Bool). if b then tail_at p q else None) (elim (cases_lt 0 letter) [
        | inr none ↦ and_left (nat_lt 0 letter) (nat_le letter n) (le-ltb 0 letter none)
        | inl positive ↦ elim (cases_lt n letter) [
          | inl above ↦ and_right (nat_lt 0 letter) (nat_le letter n) (lt-leb letter n above)
          | inr low ↦ absurd (foreign (positive, low))
        ]
      ])

  tail_at_some : (p q : ℕ) → p ≢ 0 → q ≢ 0 → tail_at p q ≡ Some (At (number_of p q))
  tail_at_some p q one two =
      ap (λ (b : Bool). let o : Option Tail = if b then None else Some (At (number_of p q)) in o) (ap₂ (λ a b. a || b) (ne_eqb p 0 one) (ne_eqb q 0 two))

  tail_at_none : (p q : ℕ) → (p ≡ 0) ⊎ (q ≡ 0) → tail_at p q ≡ None
  tail_at_none p q (inl none) =
      ap (λ (b : Bool). let o : Option Tail = if b then None else Some (At (number_of p q)) in o) (ap (λ a. a || nat_eq q 0) (eq-eqb p 0 none))
  tail_at_none p q (inr none) =
      ap (λ (b : Bool). let o : Option Tail = if b then None else Some (At (number_of p q)) in o) (ap (λ b. nat_eq p 0 || b) (eq-eqb q 0 none) ∙ or_right (nat_eq p 0) true refl)

  pub tail_of_step : (pair letter : ℕ) → IsTailStep pair letter → tail_after n first second pair letter ≡ Some (At (next_pair pair letter))
  tail_of_step pair letter is =
      tail_of_letter pair letter is.positive is.low
      ∙ tail_at_some (step first (first_state pair) (pair_symbol n (n + 1) letter)) (step second (second_state pair) (pair_symbol n letter (n + 1)))
      is.p_some is.q_some

  tail_cases : (pair letter : ℕ) → (tail_after n first second pair letter ≡ None) ⊎ IsTailStep pair letter
  tail_cases pair letter =
      let p = step first (first_state pair) (pair_symbol n (n + 1) letter) in
      let q = step second (second_state pair) (pair_symbol n letter (n + 1)) in
      elim (cases_lt 0 letter) [
        | inr none ↦ inl (no_tail pair letter (λ is. omega (arith, is.0)))
        | inl positive ↦ elim (cases_lt n letter) [
          | inl above ↦ inl (no_tail pair letter (λ is. omega (arith, is.1)))
          | inr low ↦ elim (cases_eq p 0) [
            | inl none ↦ inl (tail_of_letter pair letter positive low ∙ tail_at_none p q (inl none))
            | inr one ↦ elim (cases_eq q 0) [
              | inl none ↦ inl (tail_of_letter pair letter positive low ∙ tail_at_none p q (inr none))
              | inr two ↦ inr (record { positive = positive; low = low; p_some = one; q_some = two })
            ]
          ]
        ]
      ]

module _ (n : ℕ) (first second : Table) (pairs : List ℕ) (one : IsTable first) (two : IsTable second) where
  abbrev machine : Machine Tail
  machine = tails n first second pairs

  -- the states of the next pair
  next_states : (pair letter : ℕ) →
      (first_state (next_pair n first second pair letter) ≡ step first (first_state pair) (pair_symbol n (n + 1) letter))
      × (second_state (next_pair n first second pair letter) ≡ step second (second_state pair) (pair_symbol n letter (n + 1)))
  next_states pair letter =
      let p = step first (first_state pair) (pair_symbol n (n + 1) letter) in
      let q = step second (second_state pair) (pair_symbol n letter (n + 1)) in
      let within = step_within second (second_state pair) (pair_symbol n letter (n + 1)) two in
      let size = two.size in
      let small : q < 2 ^ 32 = omega arith in
      (first_of_number p q small, second_of_number p q small)

  lead_nowhere : (text : List ℕ) → lead machine None text ≡ None
  lead_nowhere [] = refl
  lead_nowhere (symbol ∷ text) = refl

  pub ends_from_lead : (text : List ℕ) (pair : ℕ) (tail : Tail) → lead machine (Some (At pair)) text ≡ Some tail
      → tail_accepts first second tail ≡ true → EndsTogether n first second pair
  ends_from_lead [] pair tail is accepts =
      let P : Tail → Type 0 = λ t. tail_accepts first second t ≡ true in
      let both = and_parts (is_accepting first (first_state pair)) (is_accepting second (second_state pair))
      (subst P (sym (same_Some _ _ is)) accepts) in
      record { rest = []; over = All-nil (λ x. (0 < x) × (x ≤ n)); in_first = both.0; in_second = both.1 }
  ends_from_lead (letter ∷ text) pair tail is accepts =
      elim (tail_cases n first second pair letter) [
        | inl none ↦ absurd (none-some tail (sym (ap (λ o. lead machine o text) none ∙ lead_nowhere text) ∙ is))
        | inr goes ↦
            let next = next_pair n first second pair letter in
            let on = ends_from_lead text next tail (sym (ap (λ o. lead machine o text) (tail_of_step n first second pair letter goes)) ∙ is) accepts in
            let states = next_states pair letter in
            record {
              rest = letter ∷ on.rest;
              over = All-cons (λ x. (0 < x) × (x ≤ n)) letter on.rest (goes.positive, goes.low) on.over;
              in_first = (let P : ℕ → Type 0 = λ s. AcceptsFrom first s (padded n [] on.rest) in subst P states.0 on.in_first);
              in_second = (let P : ℕ → Type 0 = λ s. AcceptsFrom second s (padded n on.rest []) in subst P states.1 on.in_second);
            }
      ]

  -- what leads to acceptance is a state
  some_accepts : (table : Table) (state : ℕ) (text : List ℕ) → AcceptsFrom table state text → state ≢ 0
  some_accepts table state text accepts none =
      false≢true (sym (ap (is_accepting table) (ap (λ s. after table s text) none ∙ after_none table text)) ∙ accepts)

  -- where the rest leads from the pair
  pub record LeadsToEnd (pair : ℕ) (rest : List ℕ) : Type 0 where
    pub tail : Tail
    pub leads_there : lead machine (Some (At pair)) rest ≡ Some tail
    pub accepts : tail_accepts first second tail ≡ true

  pub lead_from_ends : (rest : List ℕ) (pair : ℕ) → IsOver n rest → AcceptsFrom first (first_state pair) (padded n [] rest)
      → AcceptsFrom second (second_state pair) (padded n rest []) → LeadsToEnd pair rest
  lead_from_ends [] pair over in_first in_second = record {
    tail = At pair;
    leads_there = refl;
    accepts = and_from (is_accepting first (first_state pair)) (is_accepting second (second_state pair)) in_first in_second;
  }
  lead_from_ends (letter ∷ rest) pair over in_first in_second =
      let p = step first (first_state pair) (pair_symbol n (n + 1) letter) in
      let q = step second (second_state pair) (pair_symbol n letter (n + 1)) in
      let is = All-head (λ x. (0 < x) × (x ≤ n)) letter rest over in
      let goes : IsTailStep n first second pair letter = record {
        positive = is.0;
        low = is.1;
        p_some = some_accepts first p (padded n [] rest) in_first;
        q_some = some_accepts second q (padded n rest []) in_second;
      } in
      let next = next_pair n first second pair letter in
      let states = next_states pair letter in
      let P : ℕ → Type 0 = λ s. AcceptsFrom first s (padded n [] rest) in
      let Q : ℕ → Type 0 = λ s. AcceptsFrom second s (padded n rest []) in
      let on = lead_from_ends rest next (All-tail (λ x. (0 < x) × (x ≤ n)) letter rest over)
      (subst P (sym states.0) in_first) (subst Q (sym states.1) in_second) in
      record {
        tail = on.tail;
        leads_there = ap (λ o. lead machine o rest) (tail_of_step n first second pair letter goes) ∙ on.leads_there;
        accepts = on.accepts;
      }

  -- ---- the live states

  module _ (table : Table) (states : List Tail) (origins : List (ℕ × ℕ)) (explored : IsExploration machine table states origins) where
    pub live_tails : (place : ℕ) → place < length pairs
        → IsLive table (step table table.initial (suc place)) ↔ EndsTogether n first second (get_or pairs place 0)
    live_tails place within =
        let pair = get_or pairs place 0 in
        let here : tail_of (numbered pairs (suc place)) ≡ Some (At pair) = ap tail_of (slice_get-get_or pairs place 0 within) in (
          λ is_live.
              let accepts = (accepts_same explored (suc place ∷ is_live.0)).0 is_live.1 in
              ends_from_lead is_live.0 pair accepts.state (sym (ap (λ o. lead machine o is_live.0) here) ∙ accepts.leads_there) accepts.accepts,
          λ ends.
              let on = lead_from_ends ends.rest pair ends.over ends.in_first ends.in_second in (
                ends.rest,
                (accepts_same explored (suc place ∷ ends.rest)).1 (record {
                  state = on.tail;
                  leads_there = ap (λ o. lead machine o ends.rest) here ∙ on.leads_there;
                  accepts = on.accepts;
                }),
              ),
        )

    -- the marked pairs are those that end
    pub ending_marked : (marks : List Bool) (ending : List ℕ) → ((state : ℕ) → IsMarked marks state ↔ IsLive table state)
        → AreEndingBelow table marks pairs (length pairs) ending → AreEnding n first second pairs (set_of ending)
    ending_marked marks ending live below = record {
      ends = λ pair at. (
        λ member.
            let found = below.sound pair ((Contains-set_of ending pair).0 (contains_from_member (set_of ending) pair member)) in
            let marked = found.1.1.1 in
            subst (EndsTogether n first second) found.1.1.0
            ((live_tails found.0 found.1.0).0 ((live (step table table.initial (suc found.0))).0 marked)),
        λ ends.
            let place = at.0 in
            let is : get_or pairs place 0 ≡ pair = get_or_default pairs place 0 pair at.1 ∙ at.2 in
            let alive = (live_tails place at.1).1 (subst (EndsTogether n first second) (sym is) ends) in
            let listed = below.complete place at.1 ((live (step table table.initial (suc place))).1 alive) in
            let P : ℕ → Type 0 = λ x. Contains (set_of ending) x in
            member_from_contains (set_of ending) pair (subst P is ((Contains-set_of ending (get_or pairs place 0)).1 listed)),
      );
    }

-- ---- marked pairs, one after another

pub ending_none : (table : Table) (marks : List Bool) (pairs : List ℕ) → AreEndingBelow table marks pairs 0 []
ending_none table marks pairs = record {
  sound = λ pair at. absurd (Contains-none pair at);
  complete = λ place less. absurd (omega arith);
}

module _ (table : Table) (marks : List Bool) (pairs : List ℕ) (place : ℕ) (ending : List ℕ) (below : AreEndingBelow table marks pairs place ending) where
  pub ending_more : (d : ℕ) → place < length pairs → IsMarked marks (step table table.initial (suc place))
      → AreEndingBelow table marks pairs (suc place) (ending ++ get_or pairs place d ∷ [])
  ending_more d within marked =
      let last = get_or pairs place d in
      let last_is : get_or pairs place 0 ≡ last = get_or_default pairs place 0 d within in
      record {
        sound = λ pair at. elim (Contains-push_cases ending last pair at) [
          | inl old ↦ let found = below.sound pair old in let low = found.1.0 in (found.0, (omega arith, found.1.1))
          | inr new ↦ (place, (omega arith, (last_is ∙ new, marked)))
        ];
        complete = λ other less is. elim (cases_eq other place) [
          | inl same ↦
              let P : ℕ → Type 0 = λ x. Contains (ending ++ last ∷ []) x in
              subst P (sym last_is ∙ ap (λ k. get_or pairs k 0) (sym same)) (Contains-push ending last)
          | inr differ ↦ Contains-append_left ending (last ∷ []) (get_or pairs other 0) (below.complete other (omega arith) is)
        ];
      }

  pub ending_same : get_or marks (step table table.initial (suc place)) false ≡ false → AreEndingBelow table marks pairs (suc place) ending
  ending_same unmarked = record {
    sound = λ pair at. let found = below.sound pair at in let low = found.1.0 in (found.0, (omega arith, found.1.1));
    complete = λ other less is. elim (cases_eq other place) [
      | inl same ↦
          absurd (false≢true (sym unmarked ∙ ap (λ k. get_or marks (step table table.initial (suc k)) false) (sym same) ∙ is))
      | inr differ ↦ below.complete other (omega arith) is
    ];
  }

-- ---- places past the end

slice_get_past : (xs : List ℕ) (place : ℕ) → length xs ≤ place → slice_get xs place ≡ None
slice_get_past [] place past = refl
slice_get_past (x ∷ xs) zero past = absurd (omega arith)
slice_get_past (x ∷ xs) (suc place) past = slice_get_past xs place (omega arith)

pub no_place_past : (pairs : List ℕ) (number : ℕ) → length pairs < number → tail_of (numbered pairs number) ≡ None
no_place_past pairs zero past = absurd (omega arith)
no_place_past pairs (suc place) past = ap tail_of (slice_get_past pairs place (omega arith))

-- ---- without a move behind the first outer word

-- the last move of a row is by its greatest symbol
all_low : (moves : Moves) (last : ℕ × ℕ) (bound : ℕ) → Ascends moves → slice_get moves (length moves - 1) ≡ Some last → last.0 ≤ bound
    → All (λ move. move.0 ≤ bound) moves
all_low moves last bound ascends is low = λ k d within.
    let at = get_or_from_slice_get moves (length moves - 1) last d is in
    elim (cases_lt k (length moves - 1)) [
      | inl less ↦
          let up = ascends k (length moves - 1) d less (omega arith) in
          omega (arith, ap (λ (m : ℕ × ℕ). m.0) at)
      | inr past ↦
          let same : k ≡ length moves - 1 = omega arith in
          omega (arith, ap (λ i. (get_or moves i d).0) same, ap (λ (m : ℕ × ℕ). m.0) at)
    ]

no_last : (moves : Moves) → slice_get moves (length moves - 1) ≡ None → length moves ≡ 0
no_last [] none = refl
no_last (move ∷ moves) none =
    let some = item_within (move ∷ moves) (length (move ∷ moves) - 1) (omega arith) in absurd (none-some some.0 (sym none ∙ some.1))

module _ (n : ℕ) (first second : Table) (pair : ℕ) (moves : Moves) (same : moves ≡ moves_of first (first_state pair)) where
  no_letters : All (λ move. move.0 ≤ (n + 1) * n) moves → (letter : ℕ) → tail_after n first second pair letter ≡ None
  no_letters low letter =
      let p = step first (first_state pair) (pair_symbol n (n + 1) letter) in
      let q = step second (second_state pair) (pair_symbol n letter (n + 1)) in
      elim (cases_lt 0 letter) [
        | inr none ↦ no_tail n first second pair letter (λ is. omega (arith, is.0))
        | inl positive ↦ elim (cases_lt n letter) [
          | inl above ↦ no_tail n first second pair letter (λ is. omega (arith, is.1))
          | inr within ↦
              let row = last_row n letter in
              let nowhere = lookup_nowhere moves (pair_symbol n (n + 1) letter) (λ k d h is. omega (arith, low k d h)) in
              let none : p ≡ 0 =
              ap (λ (m : Moves). target m (pair_symbol n (n + 1) letter)) (sym same) ∙ target_none moves (pair_symbol n (n + 1) letter) nowhere in
              tail_of_letter n first second pair letter positive within ∙ tail_at_none n first second p q (inl none)
        ]
      ]

  pub no_letters_below : (last : ℕ × ℕ) → IsRow (moves_of first (first_state pair)) → slice_get moves (length moves - 1) ≡ Some last
      → last.0 ≤ (n + 1) * n → (letter : ℕ) → tail_after n first second pair letter ≡ None
  no_letters_below last row is low =
      let P : Moves → Type 0 = λ m. Ascends m in
      no_letters (all_low moves last ((n + 1) * n) (subst P (sym same) row.ascends) is low)

  pub no_letters_at_all : slice_get moves (length moves - 1) ≡ None → (letter : ℕ) → tail_after n first second pair letter ≡ None
  no_letters_at_all none = let nothing = no_last moves none in no_letters (λ k d within. absurd (omega arith))

-- a pair from which no letter leads on has no moves
pub no_moves : (n : ℕ) (first second : Table) (pairs : List ℕ) (k pair : ℕ) (moves : List (ℕ × Tail)) → moves ≡ []
    → ((letter : ℕ) → tail_after n first second pair letter ≡ None) → AreMovesOf (tails n first second pairs) k (At pair) moves
no_moves n first second pairs k pair moves none each =
    let P : List (ℕ × Tail) → Type 0 = λ l. AreMovesOf (tails n first second pairs) k (At pair) l in
    subst P (sym none) (record {
      ascends = λ i j d less within. absurd (omega arith);
      symbols = All-nil (λ (move : ℕ × Tail). (0 < move.0) × (move.0 ≤ k));
      follow = λ letter. sym (each letter);
    })
