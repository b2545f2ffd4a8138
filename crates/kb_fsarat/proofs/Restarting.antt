-- Automata in which words that are accepted lead on to where other words start.
use Rattle.std.proofs.Common.{◌≡◌, ◌↔◌, ◌⊎◌, ℕ, ◌<◌, IsTrue, List, [], ◌∷◌, ◌++◌, length, map, refl, sym, ap, ◌∙◌, subst, inl, inr, arith}
use Rattle.std.specs.Bool.{if◌then◌else◌}
use Rattle.std.specs.List.{Contains}
use Rattle.std.proofs.lemmas.List.Elements.{Contains-append_left, Contains-append_right, Contains-append_cases}
use Rattle.kb_fsa.specs.Table.{Moves, Table, IsTable, moves_of, is_accepting, step, after, AcceptsFrom}
use Rattle.kb_fsa.specs.Canonical.{IsState}
use Rattle.kb_fsadet.specs.Nondeterministic.{Nondeterministic, LeadsFrom, moves_from}
use Rattle.kb_fsarat.specs.Restarts.{with_restarts, restarting}
use Rattle.kb_fsarat.proofs.MoveLists.{Contains-nil, Contains-cons, Contains-cons_cases, Contains-map, Contains-if}
use Rattle.kb_fsarat.proofs.TableMoves.{IsMove-from_contains, step_from_move, move_from_step, leads_from_state, accepts_from_state}

pub pair_is : (e : ℕ × ℕ) (a b : ℕ) → e.0 ≡ a → e.1 ≡ b → e ≡ (a, b)
pair_is e a b one two = ap (λ v. (v, e.1)) one ∙ ap (λ w. (a, w)) two

-- a start, by the symbol of a move to an accepting state
pub record IsRestart (table : Table) (starts : List ℕ) (moves : Moves) (symbol next : ℕ) : Type 0 where
  pub target : ℕ
  pub move : Contains moves (symbol, target)
  pub accepts : IsTrue (is_accepting table target)
  pub start : Contains starts next

-- what the moves to the starts after one move are
restart_of : (table : Table) (starts : List ℕ) (move : ℕ × ℕ) (symbol next : ℕ)
    → Contains (with_restarts table starts move) (symbol, next)
    ↔ ((move ≡ (symbol, next)) ⊎ ((move.0 ≡ symbol) × (IsTrue (is_accepting table move.1) × Contains starts next)))
restart_of table starts move symbol next =
    let others = if is_accepting table move.1 then map (λ start. (move.0, start)) starts else [] in (
      λ has. elim (Contains-cons_cases move others (symbol, next) has) [
        | inl here ↦ inl here
        | inr there ↦
            let on = (Contains-if (is_accepting table move.1) (map (λ start. (move.0, start)) starts) (symbol, next)).0 there in
            let from = (Contains-map (λ (start : ℕ). (move.0, start)) starts (symbol, next)).0 on.1 in
            let P : ℕ → Type 0 = λ start. Contains starts start in
            inr (ap (λ m. m.0) from.1.1, (on.0, subst P (ap (λ m. m.1) from.1.1) from.1.0))
      ],
      λ has. elim has [
        | inl here ↦ (0, omega arith, here)
        | inr there ↦
            Contains-cons move others (symbol, next)
            ((Contains-if (is_accepting table move.1) (map (λ start. (move.0, start)) starts) (symbol, next)).1
            (there.1.0, (Contains-map (λ (start : ℕ). (move.0, start)) starts (symbol, next)).1 (next, (there.1.1, pair_is (move.0, next) symbol next there.0 refl))))
      ],
    )

pub Contains-restarting : (table : Table) (starts : List ℕ) (moves : Moves) (symbol next : ℕ)
    → Contains (restarting table starts moves) (symbol, next) ↔ (Contains moves (symbol, next) ⊎ IsRestart table starts moves symbol next)
Contains-restarting table starts [] symbol next = (
  λ has. inl has,
  λ has. elim has [ inl none ↦ none | inr restart ↦ absurd (Contains-nil (symbol, restart.target) restart.move) ],
)
Contains-restarting table starts (move ∷ moves) symbol next =
    let rest = Contains-restarting table starts moves symbol next in (
      λ has. elim (Contains-append_cases (with_restarts table starts move) (restarting table starts moves) (symbol, next) has) [
        | inl first ↦ elim ((restart_of table starts move symbol next).0 first) [
          | inl here ↦ inl (0, omega arith, here)
          | inr on ↦ inr (record {
            target = move.1;
            move = (0, omega arith, pair_is move symbol move.1 on.0 refl);
            accepts = on.1.0;
            start = on.1.1;
          })
        ]
        | inr later ↦ elim (rest.0 later) [
          | inl there ↦ inl (Contains-cons move moves (symbol, next) there)
          | inr restart ↦ inr (record {
            target = restart.target;
            move = Contains-cons move moves (symbol, restart.target) restart.move;
            accepts = restart.accepts;
            start = restart.start;
          })
        ]
      ],
      λ has. elim has [
        | inl own ↦ elim (Contains-cons_cases move moves (symbol, next) own) [
          | inl here ↦ Contains-append_left (with_restarts table starts move) (restarting table starts moves) (symbol, next) (0, omega arith, here)
          | inr there ↦ Contains-append_right (with_restarts table starts move) (restarting table starts moves) (symbol, next) (rest.1 (inl there))
        ]
        | inr restart ↦ elim (Contains-cons_cases move moves (symbol, restart.target) restart.move) [
          | inl here ↦
              let P : ℕ → Type 0 = λ target. IsTrue (is_accepting table target) in
              Contains-append_left (with_restarts table starts move) (restarting table starts moves) (symbol, next)
              ((restart_of table starts move symbol next).1
              (inr (ap (λ m. m.0) here, (subst P (ap (λ m. m.1) (sym here)) restart.accepts, restart.start))))
          | inr there ↦
              Contains-append_right (with_restarts table starts move) (restarting table starts moves) (symbol, next)
              (rest.1 (inr (record { target = restart.target; move = there; accepts = restart.accepts; start = restart.start })))
        ]
      ],
    )

-- each state of the table has its moves, and the restarts
abbrev pub HasRestarts : Table → List ℕ → Nondeterministic → Type 0
HasRestarts table starts nfa = (state symbol next : ℕ) → IsState table state
    → Contains (moves_from nfa state) (symbol, next)
    ↔ (Contains (moves_of table state) (symbol, next) ⊎ IsRestart table starts (moves_of table state) symbol next)

-- a front of the text is accepted, and the rest leads on from a start
pub record IsRestarted (table : Table) (starts : List ℕ) (nfa : Nondeterministic) (state : ℕ) (text : List ℕ) (other : ℕ) : Type 0 where
  pub front : List ℕ
  pub back : List ℕ
  pub start : ℕ
  pub whole : text ≡ front ++ back
  pub some : 0 < length front
  pub accepts : AcceptsFrom table state front
  pub is_start : Contains starts start
  pub leads : LeadsFrom nfa start back other

pub leads-append : (nfa : Nondeterministic) (state : ℕ) (front : List ℕ) (middle : ℕ) (back : List ℕ) (other : ℕ) → LeadsFrom nfa state front middle
    → LeadsFrom nfa middle back other → LeadsFrom nfa state (front ++ back) other
leads-append nfa state [] middle back other one two = let P : ℕ → Type 0 = λ s. LeadsFrom nfa s back other in subst P (sym one) two
leads-append nfa state (symbol ∷ front) middle back other one two =
    (one.0, one.1, leads-append nfa one.0 front middle back other one.2 two)

module _ (table : Table) (starts : List ℕ) (nfa : Nondeterministic) (is : IsTable table) (restarts : HasRestarts table starts nfa) where
  -- a text leads where it leads in the table
  pub leads_plainly : (state : ℕ) (text : List ℕ) → IsState table (after table state text) → LeadsFrom nfa state text (after table state text)
  leads_plainly state [] reached = refl
  leads_plainly state (symbol ∷ text) reached =
      let next = step table state symbol in
      let there = leads_from_state table next text is reached in
      let move = move_from_step table state symbol next refl there.positive in
      let here = (IsMove-from_contains table state symbol next is move).from in
      (next, (restarts state symbol next here).1 (inl move), leads_plainly next text reached)

  -- and to each start where it is accepted
  pub leads_to_start : (state symbol : ℕ) (text : List ℕ) (start : ℕ) → AcceptsFrom table state (symbol ∷ text) → Contains starts start
      → LeadsFrom nfa state (symbol ∷ text) start
  leads_to_start state symbol [] start accepts is_start =
      let next = step table state symbol in
      let there = accepts_from_state table next [] is accepts in
      let move = move_from_step table state symbol next refl there.positive in
      let here = (IsMove-from_contains table state symbol next is move).from in (
        start,
        (restarts state symbol start here).1 (inr (record { target = next; move = move; accepts = accepts; start = is_start })),
        refl,
      )
  leads_to_start state symbol (letter ∷ rest) start accepts is_start =
      let next = step table state symbol in
      let there = accepts_from_state table next (letter ∷ rest) is accepts in
      let move = move_from_step table state symbol next refl there.positive in
      let here = (IsMove-from_contains table state symbol next is move).from in
      (next, (restarts state symbol next here).1 (inl move), leads_to_start next letter rest start accepts is_start)

  -- and nowhere else
  pub leads_cases : (state : ℕ) (text : List ℕ) (other : ℕ) → IsState table state → LeadsFrom nfa state text other
      → ((after table state text ≡ other) × IsState table other) ⊎ IsRestarted table starts nfa state text other
  leads_cases state [] other here leads = let P : ℕ → Type 0 = λ s. IsState table s in inl (leads, subst P leads here)
  leads_cases state (symbol ∷ text) other here leads =
      elim ((restarts state symbol leads.0 here).0 leads.1) [
        | inl move ↦
            let stepped = step_from_move table state symbol leads.0 is move in
            let there = (IsMove-from_contains table state symbol leads.0 is move).to in
            elim (leads_cases leads.0 text other there leads.2) [
              | inl plain ↦ inl (ap (λ s. after table s text) stepped ∙ plain.0, plain.1)
              | inr restarted ↦
                  let P : ℕ → Type 0 = λ s. AcceptsFrom table s restarted.front in
                  inr (record {
                    front = symbol ∷ restarted.front;
                    back = restarted.back;
                    start = restarted.start;
                    whole = ap (λ w. symbol ∷ w) restarted.whole;
                    some = omega arith;
                    accepts = subst P (sym stepped) restarted.accepts;
                    is_start = restarted.is_start;
                    leads = restarted.leads;
                  })
            ]
        | inr restart ↦
            let P : ℕ → Type 0 = λ s. IsTrue (is_accepting table s) in
            inr (record {
              front = symbol ∷ [];
              back = text;
              start = leads.0;
              whole = refl;
              some = omega arith;
              accepts = subst P (sym (step_from_move table state symbol restart.target is restart.move)) restart.accepts;
              is_start = restart.start;
              leads = leads.2;
            })
      ]
