-- The pairs that the machine accepts.
use Rattle.std.proofs.Common.{◌≡◌, ℕ, zero, suc, ◌+◌, ◌<◌, ◌≤◌, Bool, true, false, not, ◌&&◌, nat_eq, IsTrue, List, [], ◌∷◌, ◌++◌, Option, Some, None, if◌then◌else◌, refl, sym, ap, ◌∙◌, subst, inl, inr, arith}
use Rattle.std.specs.List.{Contains, filter_map}
use Rattle.std.proofs.lemmas.Bool.{and_from, and_parts, cases_Bool, eq-eqb, eqb-false, eqb-true, false≢true, le-leb, lt-leb, ne_eqb, not-true, not_from_false}
use Rattle.std.proofs.lemmas.Option.{none-some, same_Some}
use Rattle.std.proofs.lemmas.List.Elements.{All-cons, All-head, All-nil, All-tail, Contains-append_cases, Contains-append_left, Contains-append_right}
use Rattle.kb_word.specs.Relations.{IsOver}
use Rattle.kb_fsa.specs.Table.{Table, IsTable, AcceptsFrom, after, is_accepting, moves_of, step}
use Rattle.kb_fsa.specs.PairSymbols.{first_letter, pair_symbol, pads_second, second_letter}
use Rattle.kb_fsa.specs.Padding.{padded}
use Rattle.kb_fsa.proofs.Lookups.{after_none}
use Rattle.kb_fsa.proofs.PairSymbolLaws.{first_letter-pair_symbol, pair_symbol-letters, second_letter-pair_symbol, second_letter_within}
use Rattle.kb_fsadet.proofs.FirstWordLemmas.{Contains-filter_map, filter_map_contains}
use Rattle.kb_fsadet.proofs.Sets.{Contains-cons_cases, Contains-here, Contains-none}
use Rattle.kb_branching.specs.Branching.{LeadsFrom}
use Rattle.kb_certificates.specs.declared.later_pairs.relation.Relation.{Relation}
use Rattle.kb_certificates.specs.declared.later_pairs.relation.Relation.TheVariants.{Ended}
use Rattle.kb_certificates.specs.declared.later_pairs.rivals.Rivals.{Rivals}
use Rattle.kb_certificates.specs.Rivalry.{compared, goes_on, is_less, paused, rival_at, rival_by, rivals_by, rivalry}
use Rattle.kb_certificates.specs.Containing.{move_of_step, step_of_move}
use Rattle.kb_certificates.specs.Reading.{from_move}
use Rattle.kb_certificates.proofs.RivalComparing.{Fits, ended_fits, fits_less, fits_letter_on, fits_stopped, head_of, less_fits, letter_fits_on, stopped_fits, tail_of}
use Rattle.kb_certificates.proofs.RivalMoves.{to_move}

-- the rest of a rival leads beside the rest of the first word from the state to acceptance, and is less
pub record HasRival (n : ℕ) (table : Table) (rival : ℕ) (relation : Relation) (first second : List ℕ) : Type 0 where
  pub rest : List ℕ
  pub over : IsOver n rest
  pub accepted : AcceptsFrom table rival (padded n first rest)
  pub fits : Fits relation rest second

-- the state, if it is one
at_rival : (state : ℕ) (relation : Relation) (to : ℕ) (next : Relation) → Contains (rival_at state relation) (to, next)
    → (to ≡ state) × (next ≡ relation)
at_rival zero relation to next at = absurd (Contains-none (to, next) at)
at_rival (suc state) relation to next at = elim (Contains-cons_cases (suc state, relation) [] (to, next) at) [
  | inl is ↦ (sym (ap (λ (x : ℕ × Relation). x.0) is), sym (ap (λ (x : ℕ × Relation). x.1) is))
  | inr there ↦ absurd (Contains-none (to, next) there)
]

rival_there : (state : ℕ) (relation : Relation) → 0 < state → Contains (rival_at state relation) (state, relation)
rival_there zero relation positive = absurd (let no : ⊥ = omega arith in no)
rival_there (suc state) relation positive = Contains-here (suc state, relation) []

head_within : (n : ℕ) (w : List ℕ) → IsOver n w → (0 < head_of n w) × (head_of n w ≤ n + 1)
head_within n [] over = (omega arith, omega arith)
head_within n (x ∷ w) over = let letter = All-head (λ x. (0 < x) × (x ≤ n)) x w over in (letter.0, omega (arith, letter.1))

tail_over : (n : ℕ) (w : List ℕ) → IsOver n w → IsOver n (tail_of w)
tail_over n [] over = over
tail_over n (x ∷ w) over = All-tail (λ x. (0 < x) × (x ≤ n)) x w over

module _ (n : ℕ) (table : Table) (is : IsTable table) where
  -- the padding of the rival, and a letter of it, beside the first word
  paused_on : (state : ℕ) (u : List ℕ) → IsOver n u
      → after table (paused n table state (head_of n u)) (padded n (tail_of u) []) ≡ after table state (padded n u [])
  paused_on state [] over =
      ap (λ (b : Bool). if b then step table state (pair_symbol n (n + 1) (n + 1)) else state) (lt-leb (n + 1) n (omega arith))
  paused_on state (a ∷ u) over =
      let letter = All-head (λ x. (0 < x) × (x ≤ n)) a u over in
      ap (λ (b : Bool). after table (if b then step table state (pair_symbol n a (n + 1)) else state) (padded n u [])) (le-leb a n letter.1)

  letter_on : (state c : ℕ) (u rest : List ℕ)
      → after table (step table state (pair_symbol n (head_of n u) c)) (padded n (tail_of u) rest) ≡ after table state (padded n u (c ∷ rest))
  letter_on state c [] rest = refl
  letter_on state c (a ∷ u) rest = refl

  pub some_state : (state : ℕ) (text : List ℕ) → AcceptsFrom table state text → 0 < state
  some_state zero text accepts = absurd (false≢true (sym (ap (is_accepting table) (after_none table text)) ∙ accepts))
  some_state (suc state) text accepts = omega arith

  -- ---- from a rival after a symbol to one before it

  module _ (state : ℕ) (relation : Relation) (u v : List ℕ) (over : IsOver n u) (also : IsOver n v) where
    abbrev a : ℕ
    a = head_of n u

    abbrev b : ℕ
    b = head_of n v

    abbrev ended : List (ℕ × Relation)
    ended = rival_at (paused n table state a) Ended

    abbrev letters : List (ℕ × Relation)
    letters = filter_map (rival_by n relation a b) (moves_of table state)

    abbrev stopped : List (ℕ × Relation)
    stopped = rival_at (paused n table state a) relation

    from_paused : (to : ℕ) (rest : List ℕ) → to ≡ paused n table state a → rest ≡ [] → AcceptsFrom table to (padded n (tail_of u) rest)
        → Fits relation [] v → HasRival n table state relation u v
    from_paused to rest is_to none accepts fits =
        let P : ℕ → List ℕ → Type 0 = λ s w. AcceptsFrom table s (padded n (tail_of u) w) in
        let there = subst (λ s. P s []) is_to (subst (P to) none accepts) in record {
          rest = [];
          over = All-nil (λ x. (0 < x) × (x ≤ n));
          accepted = sym (ap (is_accepting table) (paused_on state u over)) ∙ there;
          fits = fits;
        }

    from_letter : (to : ℕ) (next : Relation) → goes_on n relation b ≡ true → Contains letters (to, next)
        → HasRival n table to next (tail_of u) (tail_of v) → HasRival n table state relation u v
    from_letter to next on at has =
        let found = Contains-filter_map (rival_by n relation a b) (moves_of table state) (to, next) at in
        let move = found.0 in
        let c = second_letter n move.0 in
        let test = nat_eq (first_letter n move.0) a && not (pads_second n move.0) in
        let made : Bool → Option (ℕ × Relation) = λ t. if t then Some (move.1, compared relation c b) else None in
        elim (cases_Bool test) [
          | inl kept ↦
              let both = and_parts (nat_eq (first_letter n move.0) a) (not (pads_second n move.0)) kept in
              let pair = same_Some (move.1, compared relation c b) (to, next) (sym (ap made kept) ∙ found.1.1) in
              let same_to : move.1 ≡ to = ap (λ (x : ℕ × Relation). x.0) pair in
              let same_next : compared relation c b ≡ next = ap (λ (x : ℕ × Relation). x.1) pair in
              let steps = step_of_move table is state move.0 move.1 found.1.0 in
              let within = second_letter_within n move.0 in
              let unpadded = eqb-false c (n + 1) (not-true (pads_second n move.0) both.1) in
              let symbol : move.0 ≡ pair_symbol n a c =
              sym (pair_symbol-letters n move.0 steps.1.0) ∙ ap (λ i. pair_symbol n i c) (eqb-true (first_letter n move.0) a both.0) in
              let stepped : step table state (pair_symbol n a c) ≡ to = ap (step table state) (sym symbol) ∙ steps.0 ∙ same_to in
              let P : ℕ → Type 0 = λ s. AcceptsFrom table s (padded n (tail_of u) has.rest) in
              let Q : Relation → Type 0 = λ r. Fits r has.rest (tail_of v) in
              let letter : (0 < c) × (c ≤ n) = (within.0, omega (arith, within.1, unpadded)) in record {
                rest = c ∷ has.rest;
                over = All-cons (λ x. (0 < x) × (x ≤ n)) c has.rest letter has.over;
                accepted = sym (ap (is_accepting table) (letter_on state c u has.rest)) ∙ subst P (sym stepped) has.accepted;
                fits = letter_fits_on n relation c has.rest v on (subst Q (sym same_next) has.fits);
              }
          | inr dropped ↦ absurd (none-some (to, next) (sym (ap made dropped) ∙ found.1.1))
        ]

    pub rival_before : (to : ℕ) (next : Relation) → Contains (rivals_by n table state relation a b) (to, next)
        → HasRival n table to next (tail_of u) (tail_of v) → HasRival n table state relation u v
    rival_before to next at has =
        let P : Bool → Type 0 = λ t. Contains (if t then ended ++ letters else stopped) (to, next) in
        elim (cases_Bool (goes_on n relation b)) [
          | inl on ↦ elim (Contains-append_cases ended letters (to, next) (subst P on at)) [
            | inl here ↦
                let same = at_rival (paused n table state a) Ended to next here in
                let Q : Relation → Type 0 = λ r. Fits r has.rest (tail_of v) in
                from_paused to has.rest same.0 (subst Q same.1 has.fits) has.accepted (ended_fits n relation v on)
            | inr there ↦ from_letter to next on there has
          ]
          | inr off ↦
              let same = at_rival (paused n table state a) relation to next (subst P off at) in
              let Q : Relation → Type 0 = λ r. Fits r has.rest (tail_of v) in
              let nothing = stopped_fits n relation has.rest v also off (subst Q same.1 has.fits) in
              from_paused to has.rest same.0 nothing.0 has.accepted nothing.1
        ]

    -- ---- and on from a rival to one after the symbol

    abbrev Next : Type 0
    Next = (to : ℕ) × ((next : Relation) × (Contains (rivals_by n table state relation a b) (to, next) × HasRival n table to next (tail_of u) (tail_of v)))

    paused_accepts : AcceptsFrom table state (padded n u []) → AcceptsFrom table (paused n table state a) (padded n (tail_of u) [])
    paused_accepts accepts = ap (is_accepting table) (paused_on state u over) ∙ accepts

    pub rival_after : (rest : List ℕ) → IsOver n rest → AcceptsFrom table state (padded n u rest) → Fits relation rest v → Next
    rival_after [] all accepts fits =
        let there = paused_accepts accepts in
        let positive = some_state (paused n table state a) (padded n (tail_of u) []) there in
        let P : Relation → Bool → Type 0 = λ r t. Contains (if t then ended ++ letters else stopped) (paused n table state a, r) in
        elim (cases_Bool (goes_on n relation b)) [
          | inl on ↦ (
            paused n table state a,
            (
              Ended,
              (
                subst (P Ended) (sym on) (Contains-append_left ended letters (paused n table state a, Ended) (rival_there (paused n table state a) Ended positive)),
                record { rest = []; over = all; accepted = there; fits = refl },
              ),
            ),
          )
          | inr off ↦ (
            paused n table state a,
            (
              relation,
              (
                subst (P relation) (sym off) (rival_there (paused n table state a) relation positive),
                record { rest = []; over = all; accepted = there; fits = (fits_stopped n relation [] v also off fits).1 },
              ),
            ),
          )
        ]
    rival_after (c ∷ rest) all accepts fits =
        let letter = All-head (λ x. (0 < x) × (x ≤ n)) c rest all in
        let symbol = pair_symbol n a c in
        let to = step table state symbol in
        let next = compared relation c b in
        let there : AcceptsFrom table to (padded n (tail_of u) rest) = ap (is_accepting table) (letter_on state c u rest) ∙ accepts in
        let head = head_within n u over in
        let first : first_letter n symbol ≡ a = first_letter-pair_symbol n a c head.0 (letter.0, omega (arith, letter.1)) in
        let second : second_letter n symbol ≡ c = second_letter-pair_symbol n a c (letter.0, omega (arith, letter.1)) in
        let unpadded : pads_second n symbol ≡ false = ne_eqb (second_letter n symbol) (n + 1) (λ same. omega (arith, second, letter.1, same)) in
        let test : nat_eq (first_letter n symbol) a && not (pads_second n symbol) ≡ true =
        and_from (nat_eq (first_letter n symbol) a) (not (pads_second n symbol)) (eq-eqb (first_letter n symbol) a first) (not_from_false (pads_second n symbol) unpadded) in
        let kept : rival_by n relation a b (symbol, to) ≡ Some (to, next) =
        ap (λ (t : Bool). if t then Some (to, compared relation (second_letter n symbol) b) else None) test
        ∙ ap (λ x. Some (to, compared relation x b)) second in
        let P : Bool → Type 0 = λ t. Contains (if t then ended ++ letters else stopped) (to, next) in
        elim (cases_Bool (goes_on n relation b)) [
          | inl on ↦ (
            to,
            (
              next,
              (
                subst P (sym on) (Contains-append_right ended letters (to, next) (filter_map_contains (rival_by n relation a b) (moves_of table state) (symbol, to) (to, next)
                    (move_of_step table state symbol (some_state to (padded n (tail_of u) rest) there)) kept)),
                record {
                  rest = rest;
                  over = All-tail (λ x. (0 < x) × (x ≤ n)) c rest all;
                  accepted = there;
                  fits = fits_letter_on n relation c rest v on fits;
                },
              ),
            ),
          )
          | inr off ↦ absurd (let none = (fits_stopped n relation (c ∷ rest) v also off fits).0 in let no : ⊥ = cc in no)
        ]

  -- ---- whole pairs

  abbrev EndsIn : Rivals → List ℕ → Type 0
  EndsIn from text = (final : Rivals) × (LeadsFrom (rivalry n table) from text final × IsTrue ((rivalry n table).accepts final))

  abbrev Both : Rivals → List ℕ → List ℕ → Type 0
  Both from u v = AcceptsFrom table from.own (padded n u v) × HasRival n table from.rival from.relation u v

  letters_of_symbol : (u v : List ℕ) → IsOver n u → IsOver n v
      → (first_letter n (pair_symbol n (head_of n u) (head_of n v)) ≡ head_of n u)
      × (second_letter n (pair_symbol n (head_of n u) (head_of n v)) ≡ head_of n v)
  letters_of_symbol u v over also =
      let one = head_within n u over in
      let two = head_within n v also in
      (first_letter-pair_symbol n (head_of n u) (head_of n v) one.0 two, second_letter-pair_symbol n (head_of n u) (head_of n v) two)

  before : (u v : List ℕ) → IsOver n u → IsOver n v → (from next : Rivals)
      → Contains ((rivalry n table).moves from) (pair_symbol n (head_of n u) (head_of n v), next) → Both next (tail_of u) (tail_of v)
      → AcceptsFrom table (step table from.own (pair_symbol n (head_of n u) (head_of n v))) (padded n (tail_of u) (tail_of v))
      × HasRival n table from.rival from.relation u v
  before u v over also from next at both =
      let symbol = pair_symbol n (head_of n u) (head_of n v) in
      let on = from_move n table is from symbol next at in
      let letters = letters_of_symbol u v over also in
      let P : ℕ → Type 0 = λ s. AcceptsFrom table s (padded n (tail_of u) (tail_of v)) in
      let Q : ℕ → ℕ → Type 0 = λ x y. Contains (rivals_by n table from.rival from.relation x y) (next.rival, next.relation) in (
        subst P (sym on.own) both.0,
        rival_before from.rival from.relation u v over also next.rival next.relation
            (subst (Q (head_of n u)) letters.1 (subst (λ x. Q x (second_letter n symbol)) letters.0 on.rival)) both.1,
      )

  pub ends_accepted : (u v : List ℕ) → IsOver n u → IsOver n v → (from : Rivals) → EndsIn from (padded n u v) → Both from u v
  ends_accepted [] [] over also from ends =
      let P : Rivals → Type 0 = λ rivals. IsTrue ((rivalry n table).accepts rivals) in
      let accepts = subst P (sym ends.1.0) ends.1.1 in
      let outer = and_parts (is_accepting table from.own && is_accepting table from.rival) (is_less from.relation) accepts in
      let inner = and_parts (is_accepting table from.own) (is_accepting table from.rival) outer.0 in
      (inner.0, record { rest = []; over = over; accepted = inner.1; fits = less_fits from.relation outer.1 })
  ends_accepted (x ∷ u) [] over also from ends =
      before (x ∷ u) [] over also from ends.1.0.0 ends.1.0.1
      (ends_accepted u [] (tail_over n (x ∷ u) over) also ends.1.0.0 (ends.0, (ends.1.0.2, ends.1.1)))
  ends_accepted [] (y ∷ v) over also from ends =
      before [] (y ∷ v) over also from ends.1.0.0 ends.1.0.1
      (ends_accepted [] v over (tail_over n (y ∷ v) also) ends.1.0.0 (ends.0, (ends.1.0.2, ends.1.1)))
  ends_accepted (x ∷ u) (y ∷ v) over also from ends =
      before (x ∷ u) (y ∷ v) over also from ends.1.0.0 ends.1.0.1
      (ends_accepted u v (tail_over n (x ∷ u) over) (tail_over n (y ∷ v) also) ends.1.0.0 (ends.0, (ends.1.0.2, ends.1.1)))

  -- a move to where both go on
  abbrev GoingOn : Rivals → List ℕ → List ℕ → Type 0
  GoingOn from u v = (next : Rivals) × (Contains ((rivalry n table).moves from) (pair_symbol n (head_of n u) (head_of n v), next) × Both next (tail_of u) (tail_of v))

  onward : (u v : List ℕ) → IsOver n u → IsOver n v → (from : Rivals)
      → AcceptsFrom table (step table from.own (pair_symbol n (head_of n u) (head_of n v))) (padded n (tail_of u) (tail_of v))
      → HasRival n table from.rival from.relation u v → GoingOn from u v
  onward u v over also from accepts has =
      let symbol = pair_symbol n (head_of n u) (head_of n v) in
      let own = step table from.own symbol in
      let letters = letters_of_symbol u v over also in
      let after = rival_after from.rival from.relation u v over also has.rest has.over has.accepted has.fits in
      let Q : ℕ → ℕ → Type 0 = λ x y. Contains (rivals_by n table from.rival from.relation x y) (after.0, after.1.0) in
      let at = subst (λ x. Q x (second_letter n symbol)) (sym letters.0) (subst (Q (head_of n u)) (sym letters.1) after.1.1.0) in (
        record { own = own; rival = after.0; relation = after.1.0 },
        (to_move n table from symbol (some_state own (padded n (tail_of u) (tail_of v)) accepts) after.0 after.1.0 at, (accepts, after.1.1.1)),
      )

  pub accepted_ends : (u v : List ℕ) → IsOver n u → IsOver n v → (from : Rivals) → Both from u v → EndsIn from (padded n u v)
  accepted_ends [] [] over also from both =
      let has = both.1 in
      let none = fits_less from.relation has.rest has.fits in
      let P : List ℕ → Type 0 = λ rest. AcceptsFrom table from.rival (padded n [] rest) in
      let rival = subst P none.0 has.accepted in (
        from,
        (
          refl,
          and_from (is_accepting table from.own && is_accepting table from.rival) (is_less from.relation)
              (and_from (is_accepting table from.own) (is_accepting table from.rival) both.0 rival) none.1,
        ),
      )
  accepted_ends (x ∷ u) [] over also from both =
      let on = onward (x ∷ u) [] over also from both.0 both.1 in
      let rest = accepted_ends u [] (tail_over n (x ∷ u) over) also on.0 on.1.1 in
      (rest.0, ((on.0, on.1.0, rest.1.0), rest.1.1))
  accepted_ends [] (y ∷ v) over also from both =
      let on = onward [] (y ∷ v) over also from both.0 both.1 in
      let rest = accepted_ends [] v over (tail_over n (y ∷ v) also) on.0 on.1.1 in
      (rest.0, ((on.0, on.1.0, rest.1.0), rest.1.1))
  accepted_ends (x ∷ u) (y ∷ v) over also from both =
      let on = onward (x ∷ u) (y ∷ v) over also from both.0 both.1 in
      let rest = accepted_ends u v (tail_over n (x ∷ u) over) (tail_over n (y ∷ v) also) on.0 on.1.1 in
      (rest.0, ((on.0, on.1.0, rest.1.0), rest.1.1))
