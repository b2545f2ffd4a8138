-- Where moves by a symbol lead, and the sets of what they lead to.
use Rattle.std.proofs.Common.{◌≡◌, ◌≢◌, ◌↔◌, ℕ, zero, suc, ◌<◌, List, [], ◌∷◌, ◌++◌, length, get_or, map, Some, refl, sym, ap, ◌∙◌, subst, inl, inr, arith}
use Rattle.std.specs.List.{All, Contains}
use Rattle.std.specs.List.Sorted.{IsPermutation}
use Rattle.std.proofs.lemmas.Bool.{cases_eq, cases_lt, eq-eqb, ne_eqb}
use Rattle.std.proofs.lemmas.List.{get_or_past}
use Rattle.std.proofs.lemmas.List.Elements.{All-head, All-tail, All-contains, All-get_or, Contains-append_cases, Contains-append_left, Contains-append_right}
use Rattle.std.proofs.lemmas.List.Sorted.{Contains-permutation, IsPermutation-sym}
use Rattle.kb_fsa.specs.Table.{Moves}
use Rattle.kb_fsa.specs.Language.{symbols}
use Rattle.kb_explore.specs.Machine.{AreMovesOf}
use Rattle.kb_fsadet.specs.Nondeterministic.{Nondeterministic, IsNondeterministic, IsOneOf, moves_from}
use Rattle.kb_fsadet.specs.SubsetConstruction.{set_of, some_set, targets_by, moves_of_each, subsets, AreGroups}
use Rattle.kb_fsadet.proofs.Sets.{Contains-none, Contains-here, Contains-there, Contains-cons_cases, All-from_contains, same_set}

-- ---- where moves by a symbol lead

targets_by_here : (move : ℕ × ℕ) (moves : Moves) (symbol : ℕ) → move.0 ≡ symbol → targets_by (move ∷ moves) symbol ≡ move.1 ∷ targets_by moves symbol
targets_by_here move moves symbol same = rw (eq-eqb move.0 symbol same) refl

targets_by_there : (move : ℕ × ℕ) (moves : Moves) (symbol : ℕ) → move.0 ≢ symbol → targets_by (move ∷ moves) symbol ≡ targets_by moves symbol
targets_by_there move moves symbol differ = rw (ne_eqb move.0 symbol differ) refl

pub targets_by-append : (moves others : Moves) (symbol : ℕ) → targets_by (moves ++ others) symbol ≡ targets_by moves symbol ++ targets_by others symbol
targets_by-append [] others symbol = refl
targets_by-append (move ∷ moves) others symbol =
    elim (cases_eq move.0 symbol) [
      | inl same ↦
          targets_by_here move (moves ++ others) symbol same ∙ ap (λ rest. move.1 ∷ rest) (targets_by-append moves others symbol)
          ∙ sym (ap (λ front. front ++ targets_by others symbol) (targets_by_here move moves symbol same))
      | inr differ ↦
          targets_by_there move (moves ++ others) symbol differ ∙ targets_by-append moves others symbol
          ∙ sym (ap (λ front. front ++ targets_by others symbol) (targets_by_there move moves symbol differ))
    ]

-- where all moves are by the symbol
pub targets_by_all : (moves : Moves) (symbol : ℕ) → All (λ move. move.0 ≡ symbol) moves → targets_by moves symbol ≡ map (λ move. move.1) moves
targets_by_all [] symbol each = refl
targets_by_all (move ∷ moves) symbol each =
    let P = λ (m : ℕ × ℕ). m.0 ≡ symbol in
    targets_by_here move moves symbol (All-head P move moves each)
    ∙ ap (λ rest. move.1 ∷ rest) (targets_by_all moves symbol (All-tail P move moves each))

pub targets_by_nowhere : (moves : Moves) (symbol : ℕ) → All (λ move. move.0 ≢ symbol) moves → targets_by moves symbol ≡ []
targets_by_nowhere [] symbol none = refl
targets_by_nowhere (move ∷ moves) symbol none =
    let P = λ (m : ℕ × ℕ). m.0 ≢ symbol in
    targets_by_there move moves symbol (All-head P move moves none) ∙ targets_by_nowhere moves symbol (All-tail P move moves none)

-- the targets by a symbol are those of the moves
pub Contains-targets_by : (moves : Moves) (symbol state : ℕ) → Contains (targets_by moves symbol) state ↔ Contains moves (symbol, state)
Contains-targets_by [] symbol state = (λ at. absurd (Contains-none state at), λ at. absurd (Contains-none (symbol, state) at))
Contains-targets_by (move ∷ moves) symbol state =
    let rest = Contains-targets_by moves symbol state in
    elim (cases_eq move.0 symbol) [
      | inl same ↦ (
        λ at. elim (Contains-cons_cases move.1 (targets_by moves symbol) state (by (targets_by_here move moves symbol same) at)) [
          | inl is ↦ first move moves symbol state same is
          | inr later ↦ Contains-there move moves (symbol, state) (rest.0 later)
        ],
        λ at. by (sym (targets_by_here move moves symbol same)) (elim (Contains-cons_cases move moves (symbol, state) at) [
          | inl is ↦ by (ap (λ (m : ℕ × ℕ). m.1 ∷ targets_by moves symbol) (sym is)) (Contains-here state (targets_by moves symbol))
          | inr later ↦ Contains-there move.1 (targets_by moves symbol) state (rest.1 later)
        ]),
      )
      | inr differ ↦ (
        λ at. Contains-there move moves (symbol, state) (rest.0 (by (targets_by_there move moves symbol differ) at)),
        λ at. by (sym (targets_by_there move moves symbol differ)) (elim (Contains-cons_cases move moves (symbol, state) at) [
          | inl is ↦ absurd (differ (ap (λ (m : ℕ × ℕ). m.0) is))
          | inr later ↦ rest.1 later
        ]),
      )
    ]
  where
    by : {xs ys : List ℕ} {x : ℕ} → xs ≡ ys → Contains xs x → Contains ys x
    by {x} e at = let P : List ℕ → Type 0 = λ zs. Contains zs x in subst P e at

    first : (m : ℕ × ℕ) (ms : Moves) (x y : ℕ) → m.0 ≡ x → m.1 ≡ y → Contains (m ∷ ms) (x, y)
    first m ms x y one two =
        let is : m ≡ (x, y) = ap (λ v. (v, m.1)) one ∙ ap (λ w. (x, w)) two in
        let P : ℕ × ℕ → Type 0 = λ n. Contains (n ∷ ms) (x, y) in subst P (sym is) (Contains-here (x, y) ms)

-- ---- sets

pub some_set_of_some : (xs : List ℕ) → 0 < length xs → some_set xs ≡ Some (set_of xs)
some_set_of_some [] some = absurd (let no : ⊥ = omega arith in no)
some_set_of_some (x ∷ xs) some = refl

pub same_some_set : (xs ys : List ℕ) → ((z : ℕ) → Contains xs z ↔ Contains ys z) → some_set xs ≡ some_set ys
same_some_set [] [] same = refl
same_some_set [] (y ∷ ys) same = absurd (Contains-none y ((same y).1 (Contains-here y ys)))
same_some_set (x ∷ xs) [] same = absurd (Contains-none x ((same x).0 (Contains-here x xs)))
same_some_set (x ∷ xs) (y ∷ ys) same = ap (λ set. Some set) (same_set (x ∷ xs) (y ∷ ys) same)

-- ---- the moves of a machine

-- moves of all states are moves of one
pub Contains-moves_of_each : (automaton : Nondeterministic) (states : List ℕ) (move : ℕ × ℕ) → Contains (moves_of_each automaton states) move
    → (state : ℕ) × (Contains states state × Contains (moves_from automaton state) move)
Contains-moves_of_each automaton [] move at = absurd (Contains-none move at)
Contains-moves_of_each automaton (state ∷ states) move at =
    elim (Contains-append_cases (moves_from automaton state) (moves_of_each automaton states) move at) [
      | inl here ↦ (state, (Contains-here state states, here))
      | inr there ↦
          let later = Contains-moves_of_each automaton states move there in
          (later.0, (Contains-there state states later.0 later.1.0, later.1.1))
    ]

pub moves_of_each_contain : (automaton : Nondeterministic) (states : List ℕ) (state : ℕ) (move : ℕ × ℕ) → Contains states state
    → Contains (moves_from automaton state) move → Contains (moves_of_each automaton states) move
moves_of_each_contain automaton [] state move within at = absurd (Contains-none state within)
moves_of_each_contain automaton (other ∷ states) state move within at =
    elim (Contains-cons_cases other states state within) [
      | inl is ↦
          let P : ℕ → Type 0 = λ s. Contains (moves_from automaton s) move in
          Contains-append_left (moves_from automaton other) (moves_of_each automaton states) move (subst P (sym is) at)
      | inr later ↦
          Contains-append_right (moves_from automaton other) (moves_of_each automaton states) move
          (moves_of_each_contain automaton states state move later at)
    ]

-- each move's symbol is one of the alphabet's, and its target is a state
pub move_is_known : (automaton : Nondeterministic) (state : ℕ) (move : ℕ × ℕ) → IsNondeterministic automaton
    → Contains (moves_from automaton state) move
    → IsOneOf (symbols automaton.alphabet) move.0 × IsOneOf (length automaton.rows) move.1
move_is_known automaton zero move is at = absurd (Contains-none move at)
move_is_known automaton (suc place) move is at =
    let P = λ (m : ℕ × ℕ). IsOneOf (symbols automaton.alphabet) m.0 × IsOneOf (length automaton.rows) m.1 in
    elim (cases_lt place (length automaton.rows)) [
      | inl within ↦ All-contains P (get_or automaton.rows place []) move (All-get_or (All P) automaton.rows place [] within is.moves) at
      | inr past ↦
          let Q : Moves → Type 0 = λ moves. Contains moves move in
          absurd (Contains-none move (subst Q (get_or_past automaton.rows place [] past) at))
    ]

-- and so of all moves of states
pub moves_are_known : (automaton : Nondeterministic) (states : List ℕ) → IsNondeterministic automaton
    → All (λ move. IsOneOf (symbols automaton.alphabet) move.0 × IsOneOf (length automaton.rows) move.1) (moves_of_each automaton states)
moves_are_known automaton states is =
    All-from_contains (λ (m : ℕ × ℕ). IsOneOf (symbols automaton.alphabet) m.0 × IsOneOf (length automaton.rows) m.1)
    (moves_of_each automaton states) (λ move at.
    let from = Contains-moves_of_each automaton states move at in move_is_known automaton from.0 move is from.1.1)

-- the groups of the sorted moves are those of the moves
pub groups_from_sorted : (moves sorted : Moves) (groups : List (ℕ × List ℕ)) → IsPermutation moves sorted → AreGroups sorted groups
    → AreGroups moves groups
groups_from_sorted moves sorted groups permuted grouped = record {
  ascends = grouped.ascends;
  symbols = λ k d h.
      let move = grouped.symbols k d h in
      (move.0, Contains-permutation sorted moves ((get_or groups k d).0, move.0) (IsPermutation-sym moves sorted permuted) move.1);
  each = λ symbol. grouped.each symbol ∙ same_some_set (targets_by sorted symbol) (targets_by moves symbol) (λ z. (
    λ at. (Contains-targets_by moves symbol z).1
        (Contains-permutation sorted moves (symbol, z) (IsPermutation-sym moves sorted permuted) ((Contains-targets_by sorted symbol z).0 at)),
    λ at. (Contains-targets_by sorted symbol z).1
        (Contains-permutation moves sorted (symbol, z) permuted ((Contains-targets_by moves symbol z).0 at)),
  ));
}

-- the groups of the states' moves are the moves of the machine
pub moves_from_groups : (automaton : Nondeterministic) (states : List ℕ) (groups : List (ℕ × List ℕ)) → IsNondeterministic automaton
    → AreGroups (moves_of_each automaton states) groups → AreMovesOf (subsets automaton) (symbols automaton.alphabet) states groups
moves_from_groups automaton states groups is grouped = record {
  ascends = grouped.ascends;
  symbols = λ k d h.
      let move = grouped.symbols k d h in
      let from = Contains-moves_of_each automaton states ((get_or groups k d).0, move.0) move.1 in
      (move_is_known automaton from.0 ((get_or groups k d).0, move.0) is from.1.1).0;
  follow = grouped.each;
}
