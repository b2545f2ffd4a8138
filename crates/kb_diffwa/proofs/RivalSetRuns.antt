-- The machine of sets of rivals goes by a word to the set of its rivals, unless one of them shows a lesser word.
use Rattle.std.proofs.Common.{◌≡◌, ◌↔◌, ℕ, zero, suc, ◌<◌, ◌≤◌, nat_eq, true, false, List, [], ◌∷◌, ◌++◌, length, get_or, Option, Some, None, append_assoc, append-nil, refl, sym, ap, ◌∙◌, subst, inl, inr, arith}
use Rattle.std.specs.List.{Contains}
use Rattle.std.proofs.lemmas.Bool.{and_parts, cases_Bool, cases_lt, eqb-true, false≢true, le-ltb, lt-ltb, or_cases, or_left, or_right}
use Rattle.std.proofs.lemmas.List.{same_from_push}
use Rattle.std.proofs.lemmas.List.Elements.{All-nil, All-push, All-contains, Contains-push}
use Rattle.kb_word.specs.Relations.{IsOver}
use Rattle.kb_explore.specs.Machine.{Machine, lead, leads}
use Rattle.kb_rules.proofs.Lists.{All-front}
use Rattle.kb_diffwa.specs.Comparing.{Comparison, Ended, Equal, Greater, Less, compares_less}
use Rattle.kb_diffwa.specs.declared.comparisons.Comparisons.{Comparisons}
use Rattle.kb_diffwa.specs.Rivals.{Rival}
use Rattle.kb_diffwa.specs.declared.rivals.Rivals.{Rivals}
use Rattle.kb_diffwa.specs.RivalMoves.{StepsWithin, first_rival, shows_less}
use Rattle.kb_diffwa.specs.RivalSets.{AreAllSteps, AreWithin, IsInRow, IsPair, Steps, any_less, first_row, followed, includes, members_from, no_comparisons, pairs_from, rival_sets, row_after, shows_any_less, unless_less}
use Rattle.kb_diffwa.proofs.AllCompared.{comes_from, leads_to}
use Rattle.kb_diffwa.proofs.Rows.{IsInSet, IsLedFromSet, all_cases, all_length, all_now, all_still, first_in_row, first_row_length, in_row, in_row_within, in_set, only_first}
use Rattle.kb_diffwa.proofs.RivalSteps.{HasLast, HasRun, IsStepped, first_alone, has_first, has_last, has_push, has_split, is_empty, last_of}
use Rattle.kb_diffwa.proofs.StepPairs.{within_letters}

-- ---- rows that show a lesser word

less_included : (f : Comparisons) (c : Comparison) → includes f c ≡ true → compares_less c ≡ true → any_less f ≡ true
less_included f Equal among less = absurd (false≢true less)
less_included f Less among less = or_left f.less f.ended among
less_included f Greater among less = absurd (false≢true less)
less_included f Ended among less = or_right f.less f.ended among

pub some_less : (f : Comparisons) → any_less f ≡ true
    → (c : Comparison) × ((includes f c ≡ true) × (compares_less c ≡ true))
some_less f any = elim (or_cases f.less f.ended any) [
  | inl less ↦ (Less, (less, refl))
  | inr ended ↦ (Ended, (ended, refl))
]

pub shown_in_row : (row : List Comparisons) (rival : Rival) → IsInRow row rival → shows_less rival ≡ true
    → shows_any_less row ≡ true
shown_in_row row rival at shows =
    let parts = and_parts (nat_eq rival.difference 1) (compares_less rival.comparison) shows in
    let one = eqb-true rival.difference 1 parts.0 in
    let is = at.is in
    let start : at.index ≡ 0 = omega arith in
    let P : ℕ → Type 0 = λ k. includes (get_or row k no_comparisons) rival.comparison ≡ true in
    less_included (get_or row 0 no_comparisons) rival.comparison (subst P start at.among) parts.1

record ShowsLess (row : List Comparisons) : Type 0 where
  rival : Rival
  at : IsInRow row rival
  shows : shows_less rival ≡ true

row_shows : (row : List Comparisons) → shows_any_less row ≡ true → ShowsLess row
row_shows row any =
    let some = some_less (get_or row 0 no_comparisons) any in
    let rival : Rival = record { difference = 1; comparison = some.0 } in
    record { rival = rival; at = record { index = 0; is = refl; among = some.1.0 }; shows = some.1.1 }

pub unless_shown : (row : List Comparisons) → shows_any_less row ≡ true → unless_less row ≡ None
unless_shown row shows = rw shows refl

unless_not : (row : List Comparisons) → shows_any_less row ≡ false → unless_less row ≡ Some (members_from 1 row)
unless_not row none = rw none refl

lead-append : {S : Type 0} (machine : Machine S) (from : Option S) (text more : List ℕ)
    → lead machine from (text ++ more) ≡ lead machine (lead machine from text) more
lead-append machine None text more = refl
lead-append machine (Some state) [] more = refl
lead-append machine (Some state) (symbol ∷ text) more = lead-append machine (machine.follow state symbol) text more

lead_end : {S : Type 0} (machine : Machine S) (from : Option S) → lead machine from [] ≡ from
lead_end machine None = refl
lead_end machine (Some state) = refl

module _ (n : ℕ) (step : ℕ → ℕ → ℕ → ℕ) where
  -- no prefix of the word has a rival that shows a lesser word
  pub record IsFree (w : List ℕ) : Type 0 where
    pub letters : IsOver n w
    pub none_less : (front rest : List ℕ) (rival : Rival) → w ≡ front ++ rest → HasRun n step front rival
        → ¬ (shows_less rival ≡ true)

  free_front : (w : List ℕ) (a : ℕ) → IsFree (w ++ a ∷ []) → IsFree w
  free_front w a free = record {
    letters = All-front (λ (x : ℕ). (0 < x) × (x ≤ n)) w (w ++ a ∷ []) (a ∷ []) refl free.letters;
    none_less = λ front rest rival whole has.
        free.none_less front (rest ++ a ∷ []) rival
        (ap (λ u. u ++ a ∷ []) whole ∙ append_assoc front rest (a ∷ [])) has;
  }

  last_letter : (w : List ℕ) (a : ℕ) → IsOver n (w ++ a ∷ []) → (0 < a) × (a ≤ n)
  last_letter w a over =
      All-contains (λ (x : ℕ). (0 < x) × (x ≤ n)) (w ++ a ∷ []) a over (Contains-push w a)

module _ (n : ℕ) (step : ℕ → ℕ → ℕ → ℕ) (count : ℕ) (letters : List Steps) (some : 0 < count)
    (within : StepsWithin count step) (are : AreAllSteps n step count letters) where
  machine : Machine (List Rivals)
  machine = rival_sets n count letters

  -- the set is that of the word's rivals
  pub record IsSetAfter (w : List ℕ) (members : List Rivals) : Type 0 where
    pub row : List Comparisons
    pub long : length row ≡ count
    pub is : members ≡ members_from 1 row
    pub rivals : (rival : Rival) → IsInRow row rival ↔ HasRun n step w rival
    pub free : IsFree n step w

  unfoldable pub IsLed : List ℕ → Option (List Rivals) → Type 0
  IsLed w None = ¬ IsFree n step w
  IsLed w (Some members) = IsSetAfter w members

  -- ---- the first set

  led_first : IsSetAfter [] (members_from 1 (first_row count))
  led_first = record {
    row = first_row count;
    long = first_row_length count;
    is = refl;
    rivals = rivals;
    free = record {
      letters = All-nil (λ (x : ℕ). (0 < x) × (x ≤ n));
      none_less = by;
    };
  }
    where
      rivals : (rival : Rival) → IsInRow (first_row count) rival ↔ HasRun n step [] rival
      rivals rival = (
        λ at.
            let P : Rival → Type 0 = λ it. HasRun n step [] it in
            subst P (sym (only_first count some rival at)) (has_first n step []),
        λ has.
            let P : Rival → Type 0 = λ it. IsInRow (first_row count) it in
            subst P (sym (first_alone n step rival has)) (first_in_row count some),
      )

      by : (front rest : List ℕ) (rival : Rival) → [] ≡ front ++ rest → HasRun n step front rival
          → ¬ (shows_less rival ≡ true)
      by [] rest rival whole has shows =
          let P : Rival → Type 0 = λ it. shows_less it ≡ true in
          false≢true (subst P (first_alone n step rival has) shows)
      by (x ∷ front) rest rival whole has shows = cc

  -- ---- a letter more

  module _ (w : List ℕ) (index : ℕ) (is_letter : index < n) (members : List Rivals) (set : IsSetAfter w members) where
    steps : Steps
    steps = get_or letters index []

    next : List Comparisons
    next = row_after n count (suc index) steps members

    steps_within : AreWithin count steps
    unfolding steps
    steps_within =
        let long = are.one_each in
        within_letters n step count letters within are index [] (omega arith)

    next_long : length next ≡ count
    unfolding next
    next_long = all_length n (suc index) count steps steps_within members (first_row count) ∙ first_row_length count

    in_members : (rival : Rival) → IsInSet members rival → HasRun n step w rival
    in_members rival at =
        let P : List Rivals → Type 0 = λ all. IsInSet all rival in
        (set.rivals rival).0 (in_row set.row rival (subst P set.is at))

    among_members : (rival : Rival) → HasRun n step w rival → IsInSet members rival
    among_members rival has =
        let P : List Rivals → Type 0 = λ all. IsInSet all rival in
        subst P (sym set.is) (in_set set.row rival ((set.rivals rival).1 has))

    -- a pair from a difference is a step of the machine's
    pair_step : (difference b target : ℕ) → 0 < difference → difference ≤ count
        → Contains (pairs_from steps difference) (b, target) ↔ IsPair n step difference (suc index) b target
    unfolding steps
    pair_step zero b target positive most = absurd (let no : ⊥ = omega arith in no)
    pair_step (suc d) b target positive most = (are.each index is_letter).each d (omega arith) b target

    difference_within : (rival : Rival) → HasRun n step w rival → (0 < rival.difference) × (rival.difference ≤ count)
    difference_within rival has =
        let at = (set.rivals rival).1 has in
        let low = in_row_within set.row at.index rival.comparison at.among in
        let is = at.is in
        let long = set.long in
        (omega arith, omega arith)

    stepped_of_led : (rival : Rival) → IsLedFromSet n (suc index) steps members rival → IsStepped n step w (suc index) rival
    stepped_of_led rival led =
        let m = led.member in
        let b = led.led.b in
        let from = comes_from n m.comparisons (suc index) b rival.comparison led.led.among in
        let mid : Rival = record { difference = m.difference; comparison = from.earlier } in
        let has = in_members mid (record { member = m; at = led.at; same = refl; among = from.among }) in
        let low = difference_within mid has in
        let pair = (pair_step m.difference b rival.difference low.0 low.1).0 led.led.at in record {
          mid = mid;
          before = has;
          goes = record {
            b = b;
            positive = pair.positive;
            letter = pair.letter;
            difference = pair.leads;
            kept = pair.kept;
            comparison = from.leads;
          };
        }

    led_of_stepped : (rival : Rival) → IsStepped n step w (suc index) rival → IsLedFromSet n (suc index) steps members rival
    led_of_stepped rival stepped =
        let mid = stepped.mid in
        let goes = stepped.goes in
        let at = among_members mid stepped.before in
        let m = at.member in
        let low = difference_within mid stepped.before in
        let S : ℕ → Type 0 = λ d. Contains (pairs_from steps d) (goes.b, rival.difference) in
        let pair = (pair_step mid.difference goes.b rival.difference low.0 low.1).1 (record {
          positive = goes.positive;
          letter = goes.letter;
          leads = goes.difference;
          kept = goes.kept;
        }) in record {
          member = m;
          at = at.at;
          led = record {
            b = goes.b;
            at = subst S (sym at.same) pair;
            among = leads_to n m.comparisons (suc index) goes.b mid.comparison rival.comparison at.among goes.comparison;
          };
        }

    next_rivals : (rival : Rival) → IsInRow next rival ↔ HasRun n step (w ++ suc index ∷ []) rival
    unfolding next
    next_rivals rival = (
      λ at. elim (all_cases n (suc index) count steps steps_within members (first_row count) rival (first_row_length count) at) [
        | inl old ↦
            let P : Rival → Type 0 = λ it. HasRun n step (w ++ suc index ∷ []) it in
            subst P (sym (only_first count some rival old)) (has_first n step (w ++ suc index ∷ []))
        | inr led ↦ has_push n step w (suc index) rival (stepped_of_led rival led)
      ],
      λ has. elim (has_split n step w (suc index) rival has) [
        | inl first ↦
            let P : Rival → Type 0 = λ it. IsInRow (row_after n count (suc index) steps members) it in
            subst P (sym first)
            (all_still n (suc index) count steps steps_within members (first_row count) first_rival (first_row_length count)
            (first_in_row count some))
        | inr stepped ↦
            all_now n (suc index) count steps steps_within members (first_row count) rival (first_row_length count)
            (led_of_stepped rival stepped)
      ],
    )

    next_none_less : shows_any_less next ≡ false → (front rest : List ℕ) (rival : Rival)
        → w ++ suc index ∷ [] ≡ front ++ rest → HasRun n step front rival → ¬ (shows_less rival ≡ true)
    next_none_less none front rest rival whole has shows = by (last_of rest)
      where
        by : HasLast rest → ⊥
        by (is_empty empty) =
            let all : front ≡ w ++ suc index ∷ [] = sym (append-nil front) ∙ ap (λ u. front ++ u) (sym empty) ∙ sym whole in
            let P : List ℕ → Type 0 = λ u. HasRun n step u rival in
            let at = (next_rivals rival).1 (subst P all has) in
            false≢true (sym none ∙ shown_in_row next rival at shows)
        by (has_last before letter is) =
            let split : w ++ suc index ∷ [] ≡ (front ++ before) ++ letter ∷ [] =
            whole ∙ ap (λ u. front ++ u) is ∙ sym (append_assoc front before (letter ∷ [])) in
            let parts = same_from_push w (front ++ before) (suc index) letter split in
            set.free.none_less front before rival parts.0 has shows

    led_next : IsLed (w ++ suc index ∷ []) (unless_less next)
    unfolding IsLed
    led_next = elim (cases_Bool (shows_any_less next)) [
      | inl shows ↦
          let shown = row_shows next shows in
          let P : Option (List Rivals) → Type 0 = IsLed (w ++ suc index ∷ []) in
          subst P (sym (unless_shown next shows)) (λ free.
          free.none_less (w ++ suc index ∷ []) [] shown.rival (sym (append-nil (w ++ suc index ∷ [])))
          ((next_rivals shown.rival).0 shown.at) shown.shows)
      | inr none ↦
          let P : Option (List Rivals) → Type 0 = IsLed (w ++ suc index ∷ []) in
          subst P (sym (unless_not next none)) (record {
            row = next;
            long = next_long;
            is = refl;
            rivals = next_rivals;
            free = record {
              letters = All-push (λ (x : ℕ). (0 < x) × (x ≤ n)) w (suc index) set.free.letters (omega arith, omega arith);
              none_less = next_none_less none;
            };
          })
    ]

  followed_letter : (members : List Rivals) (index : ℕ) → index < n
      → followed n count letters members (suc index)
      ≡ unless_less (row_after n count (suc index) (get_or letters index []) members)
  followed_letter members index is_letter = rw (lt-ltb index n is_letter) refl

  followed_other : (members : List Rivals) (index : ℕ) → n ≤ index → followed n count letters members (suc index) ≡ None
  followed_other members index other = rw (le-ltb index n other) refl

  led_follow : (w : List ℕ) (a : ℕ) (members : List Rivals) → IsSetAfter w members
      → IsLed (w ++ a ∷ []) (followed n count letters members a)
  unfolding IsLed next steps
  led_follow w zero members set = λ free.
      let positive = (last_letter n step w 0 free.letters).0 in
      let no : ⊥ = omega arith in no
  led_follow w (suc index) members set = elim (cases_lt index n) [
    | inl is_letter ↦
        subst (IsLed (w ++ suc index ∷ [])) (sym (followed_letter members index is_letter))
        (led_next w index is_letter members set)
    | inr other ↦
        subst (IsLed (w ++ suc index ∷ [])) (sym (followed_other members index other)) (λ free.
        let most = (last_letter n step w (suc index) free.letters).1 in
        let no : ⊥ = omega arith in no)
  ]

  led_step : (w : List ℕ) (a : ℕ) (from : Option (List Rivals)) → IsLed w from
      → IsLed (w ++ a ∷ []) (lead machine from (a ∷ []))
  unfolding IsLed machine
  led_step w a None led = λ free. led (free_front n step w a free)
  led_step w a (Some members) led =
      subst (IsLed (w ++ a ∷ [])) (sym (lead_end (rival_sets n count letters) (followed n count letters members a)))
      (led_follow w a members led)

  led_on_from : (done rest : List ℕ) → IsLed done (leads machine done) → IsLed (done ++ rest) (leads machine (done ++ rest))
  led_on_from done [] led =
      let P : List ℕ → Type 0 = λ w. IsLed w (leads machine w) in subst P (sym (append-nil done)) led
  led_on_from done (a ∷ rest) led =
      let P : List ℕ → Type 0 = λ w. IsLed w (leads machine w) in
      let Q : Option (List Rivals) → Type 0 = IsLed (done ++ a ∷ []) in
      let step = subst Q (sym (lead-append machine machine.start done (a ∷ []))) (led_step done a (leads machine done) led) in
      subst P (append_assoc done (a ∷ []) rest) (led_on_from (done ++ a ∷ []) rest step)

  pub led : (w : List ℕ) → IsLed w (leads (rival_sets n count letters) w)
  unfolding IsLed machine
  led w = led_on_from [] w led_first
