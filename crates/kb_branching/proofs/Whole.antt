-- The end of an exploration: each state that is seen has its row.
use Rattle.std.proofs.Common.{◌≡◌, ◌↔◌, ℕ, zero, suc, ◌^◌, ◌<◌, ◌≤◌, false, List, [], ◌∷◌, ◌++◌, length, get_or, slice_get, map, Some, refl, sym, ap, subst, ◌∙◌, arith}
use Rattle.std.specs.List.{All, AllZip, Contains}
use Rattle.std.proofs.lemmas.List.{get_or-map, length-map}
use Rattle.std.proofs.lemmas.List.Elements.{All-contains, Contains-get_or, Contains-push}
use Rattle.std.proofs.lemmas.Option.{none-some, same_Some, slice_get_within, slice_get-get_or, get_or_from_slice_get}
use Rattle.kb_fsa.specs.declared.alphabet.Alphabet.{Alphabet}
use Rattle.kb_fsa.specs.declared.alphabet.Alphabet.TheVariants.{Plain, Pair}
use Rattle.kb_fsa.specs.Language.{symbols, IsTextOf}
use Rattle.kb_fsa.specs.Table.{Moves}
use Rattle.kb_fsa.proofs.PairSymbolLaws.{IsPairSymbol}
use Rattle.kb_fsa.proofs.Paddings.{symbols_of_padded}
use Rattle.kb_explore.specs.Exploration.{numbered}
use Rattle.kb_explore.proofs.ExplorationLemmas.{number_positive, number_within, one_number}
use Rattle.kb_explore.proofs.Lists.{item_within}
use Rattle.kb_fsadet.specs.Nondeterministic.{Nondeterministic, IsNondeterministic, IsOneOf, AcceptsSomehow, LeadsSomehow, LeadsFrom as LeadsFromNumber, accepts_at, automaton_of, moves_from}
use Rattle.kb_branching.specs.Branching.{Branching, LeadsFrom, LeadsTo, BranchingAccepts, ReadsAlphabet, IsReached, HasMoreBranchStates}
use Rattle.kb_branching.specs.Exploration.{IsBranchExploration}
use Rattle.kb_branching.specs.Progress.{AreReached, AreNumbers, AreNumberedMoves, AreRows}
use Rattle.kb_branching.proofs.Counting.{no_more_items}
use Rattle.kb_branching.proofs.Steps.{LeadsTo-push}

-- ---- lists of things of two kinds, side by side

Contains-cons : {X : Type 0} (x : X) (xs : List X) (y : X) → Contains xs y → Contains (x ∷ xs) y
Contains-cons x xs y at = let within = at.1 in (suc at.0, omega arith, at.2)

beside : {A B : Type 0} (R : A → B → Type 0) (xs : List A) (ys : List B) → AllZip R xs ys → (x : A) → Contains xs x
    → (y : B) × Contains ys y × R x y
beside R [] ys all x at = absurd (let within = at.1 in let no : ⊥ = omega arith in no)
beside R (z ∷ xs) [] all x at = absurd all
beside R (z ∷ xs) (y ∷ ys) all x (zero, within, is) = (y, (0, omega arith, refl), subst (λ w. R w y) is all.0)
beside R (z ∷ xs) (y ∷ ys) all x (suc place, within, is) =
    let rest = beside R xs ys all.1 x (place, omega arith, is) in (rest.0, Contains-cons y ys rest.0 rest.1, rest.2)

beside_back : {A B : Type 0} (R : A → B → Type 0) (xs : List A) (ys : List B) → AllZip R xs ys → (y : B) → Contains ys y
    → (x : A) × Contains xs x × R x y
beside_back R xs [] all y at = absurd (let within = at.1 in let no : ⊥ = omega arith in no)
beside_back R [] (z ∷ ys) all y at = absurd all
beside_back R (x ∷ xs) (z ∷ ys) all y (zero, within, is) = (x, (0, omega arith, refl), subst (R x) is all.0)
beside_back R (x ∷ xs) (z ∷ ys) all y (suc place, within, is) =
    let rest = beside_back R xs ys all.1 y (place, omega arith, is) in (rest.0, Contains-cons x xs rest.0 rest.1, rest.2)

-- the last symbol of a text is one of the alphabet
symbol_of_text : (alphabet : Alphabet) (text : List ℕ) (symbol : ℕ) → IsTextOf alphabet (text ++ symbol ∷ []) → IsOneOf (symbols alphabet) symbol
symbol_of_text (Plain n) text symbol is =
    All-contains (λ x. (0 < x) × (x ≤ n)) (text ++ symbol ∷ []) symbol is (Contains-push text symbol)
symbol_of_text (Pair n) text symbol is =
    All-contains (IsPairSymbol n) (text ++ symbol ∷ []) symbol (symbols_of_padded n (text ++ symbol ∷ []) is) (Contains-push text symbol)

-- and so is the symbol of a move from a state to which some text leads
symbol_of_move : {S : Type 0} (machine : Branching S) → ReadsAlphabet machine → (state : S) → IsReached machine state → (symbol : ℕ) (next : S)
    → Contains (machine.moves state) (symbol, next) → IsOneOf (symbols machine.alphabet) symbol
symbol_of_move machine law state reached symbol next among =
    symbol_of_text machine.alphabet reached.0 symbol
    (law.texts (reached.0 ++ symbol ∷ []) next (LeadsTo-push reached.0 state symbol next reached.1 among))

-- there are no more rows than states
pub rows_within : {S : Type 0} (machine : Branching S) (states : List S) (rows : List Moves) → AreRows machine states rows → length rows ≤ length states
rows_within machine states [] done = omega arith
rows_within machine states (row ∷ rows) done =
    let last = item_within (row ∷ rows) (length rows) (omega arith) in
    let is = done (length rows) last.0 last.1 in
    let within = slice_get_within states (length rows) is.state is.is_state in
    omega arith

module _ {S : Type 0} {machine : Branching S} {states : List S} (starts : List ℕ) (rows : List Moves) (seen : AreReached machine states)
    (are_starts : AreNumbers states starts machine.starts) (done : AreRows machine states rows) (whole : length rows ≡ length states) where
  abbrev pub automaton : Nondeterministic
  automaton = automaton_of machine.alphabet starts rows (map machine.accepts states)

  row_of : (place : ℕ) (state : S) → slice_get states place ≡ Some state → (d : Moves) → AreNumberedMoves states (get_or rows place d) (machine.moves state)
  row_of place state at d =
      let within = slice_get_within states place state at in
      let is = done place (get_or rows place d) (slice_get-get_or rows place d (omega arith)) in
      subst (λ s. AreNumberedMoves states (get_or rows place d) (machine.moves s)) (same_Some is.state state (sym is.is_state ∙ at)) is.are_moves

  -- ---- a move

  moves_forth : (number : ℕ) (state : S) → numbered states number ≡ Some state → (symbol target : ℕ)
      → Contains (moves_from automaton number) (symbol, target)
      → (next : S) × (numbered states target ≡ Some next) × Contains (machine.moves state) (symbol, next)
  moves_forth zero state at symbol target among = absurd (none-some state at)
  moves_forth (suc place) state at symbol target among =
      let is = beside (λ move original. (move.0 ≡ original.0) × (numbered states move.1 ≡ Some original.1)) (get_or rows place [])
      (machine.moves state) (row_of place state at []) (symbol, target) among in
      (is.0.1, is.2.1, subst (λ s. Contains (machine.moves state) (s, is.0.1)) (sym is.2.0) is.1)

  moves_back : (number : ℕ) (state : S) → numbered states number ≡ Some state → (symbol : ℕ) (next : S)
      → Contains (machine.moves state) (symbol, next)
      → (target : ℕ) × (numbered states target ≡ Some next) × Contains (moves_from automaton number) (symbol, target)
  moves_back zero state at symbol next among = absurd (none-some state at)
  moves_back (suc place) state at symbol next among =
      let is = beside_back (λ move original. (move.0 ≡ original.0) × (numbered states move.1 ≡ Some original.1)) (get_or rows place [])
      (machine.moves state) (row_of place state at []) (symbol, next) among in
      (is.0.1, is.2.1, subst (λ s. Contains (get_or rows place []) (s, is.0.1)) is.2.0 is.1)

  -- ---- a text

  leads_forth : (text : List ℕ) (number : ℕ) (state : S) → numbered states number ≡ Some state → (target : ℕ)
      → LeadsFromNumber automaton number text target → (next : S) × (numbered states target ≡ Some next) × LeadsFrom machine state text next
  leads_forth [] number state at target leads = (state, ap (numbered states) (sym leads) ∙ at, refl)
  leads_forth (symbol ∷ text) number state at target leads =
      let on = moves_forth number state at symbol leads.0 leads.1 in
      let rest = leads_forth text leads.0 on.0 on.1 target leads.2 in
      (rest.0, rest.1, (on.0, on.2, rest.2))

  leads_back : (text : List ℕ) (number : ℕ) (state : S) → numbered states number ≡ Some state → (next : S)
      → LeadsFrom machine state text next → (target : ℕ) × (numbered states target ≡ Some next) × LeadsFromNumber automaton number text target
  leads_back [] number state at next leads = (number, at ∙ ap (λ s. Some s) leads, refl)
  leads_back (symbol ∷ text) number state at next leads =
      let on = moves_back number state at symbol leads.0 leads.1 in
      let rest = leads_back text on.0 leads.0 on.1 next leads.2 in
      (rest.0, rest.1, (on.0, on.2, rest.2))

  to_state : (text : List ℕ) (number : ℕ) → LeadsSomehow automaton text number
      → (state : S) × (numbered states number ≡ Some state) × LeadsTo machine text state
  to_state text number somehow =
      let start = beside (λ n s. numbered states n ≡ Some s) starts machine.starts are_starts somehow.start somehow.is_initial in
      let there = leads_forth text somehow.start start.0 start.2 number somehow.leads in
      (there.0, there.1, record { start = start.0; is_start = start.1; leads = there.2 })

  to_number : (text : List ℕ) (state : S) → LeadsTo machine text state
      → (number : ℕ) × (numbered states number ≡ Some state) × LeadsSomehow automaton text number
  to_number text state leads =
      let start = beside_back (λ n s. numbered states n ≡ Some s) starts machine.starts are_starts leads.start leads.is_start in
      let there = leads_back text start.0 leads.start start.2 state leads.leads in
      (there.0, there.1, record { start = start.0; is_initial = start.1; leads = there.2 })

  answers : (number : ℕ) (state : S) → numbered states number ≡ Some state → accepts_at automaton number ≡ machine.accepts state
  answers zero state at = absurd (none-some state at)
  answers (suc place) state at =
      get_or-map machine.accepts states place state false (slice_get_within states place state at)
      ∙ ap machine.accepts (get_or_from_slice_get states place state state at)

  -- ---- all of it

  pub explored : IsBranchExploration machine automaton states
  explored = record {
    alphabet = refl;
    one_row_each = whole;
    distinct = seen.distinct;
    leads_there = λ text number state at. (
      λ somehow.
          let there = to_state text number somehow in
          subst (LeadsTo machine text) (same_Some there.0 state (sym there.1 ∙ at)) there.2,
      λ leads.
          let there = to_number text state leads in
          subst (LeadsSomehow automaton text) (one_number states seen.distinct there.0 number state there.1 at) there.2,
    );
    has_number = λ text state leads. let there = to_number text state leads in (there.0, there.1);
    has_state = λ text number somehow. let there = to_state text number somehow in (there.0, there.1);
    reached = seen.reached;
    accepts = answers;
  }

  pub same_language : (text : List ℕ) → AcceptsSomehow automaton text ↔ BranchingAccepts machine text
  same_language text = (
    λ accepts.
        let there = to_state text accepts.0 accepts.1 in (there.0, there.2, sym (answers accepts.0 there.0 there.1) ∙ accepts.2),
    λ accepts.
        let there = to_number text accepts.0 accepts.1 in (there.0, there.2, answers there.0 accepts.0 there.1 ∙ accepts.2),
  )

  number_of_state : (number : ℕ) (state : S) → numbered states number ≡ Some state → IsOneOf (length rows) number
  number_of_state number state at =
      let within = number_within states number state at in (number_positive states number state at, omega arith)

  pub is_nondeterministic : ReadsAlphabet machine → length states < 2 ^ 32 → IsNondeterministic automaton
  is_nondeterministic law small = record {
    generators = law.generators;
    one_answer_each = length-map states machine.accepts ∙ sym whole;
    size = omega arith;
    initial = λ place d within.
        let is = beside (λ n s. numbered states n ≡ Some s) starts machine.starts are_starts (get_or starts place d)
        (Contains-get_or starts place d within) in
        number_of_state (get_or starts place d) is.0 is.2;
    moves = λ place d within. row_moves place d within;
    texts = λ text number somehow. let there = to_state text number somehow in law.texts text there.0 there.2;
  }
    where
      row_moves : (place : ℕ) (d : Moves) → place < length rows
          → All (λ move. IsOneOf (symbols machine.alphabet) move.0 × IsOneOf (length rows) move.1) (get_or rows place d)
      row_moves place d within other e inside =
          let state = item_within states place (omega arith) in
          let move = get_or (get_or rows place d) other e in
          let is = beside (λ move original. (move.0 ≡ original.0) × (numbered states move.1 ≡ Some original.1)) (get_or rows place d)
          (machine.moves state.0) (row_of place state.0 state.1 d) move (Contains-get_or (get_or rows place d) other e inside) in
          let reached = seen.reached (suc place) state.0 state.1 in (
            subst (IsOneOf (symbols machine.alphabet)) (sym is.2.0) (symbol_of_move machine law state.0 reached is.0.0 is.0.1 is.1),
            number_of_state move.1 is.0.1 is.2.1,
          )

  pub no_more_states : (limit : ℕ) → length states ≤ limit → ¬ HasMoreBranchStates machine limit
  no_more_states limit room more =
      let many = more.many in
      let few = no_more_items more.states states more.distinct (λ place state at. place_of state (reached_at place state at)) in
      omega arith
    where
      reached_at : (place : ℕ) (state : S) → slice_get more.states place ≡ Some state → (text : List ℕ) × LeadsTo machine text state
      reached_at place state at =
          let P : S → Type 0 = λ s. (text : List ℕ) × LeadsTo machine text s in
          subst P (get_or_from_slice_get more.states place state state at)
          (more.reached place state (slice_get_within more.states place state at))

      at_place : (number : ℕ) (state : S) → numbered states number ≡ Some state → (place : ℕ) × (slice_get states place ≡ Some state)
      at_place zero state at = absurd (none-some state at)
      at_place (suc place) state at = (place, at)

      place_of : (state : S) → (text : List ℕ) × LeadsTo machine text state → (place : ℕ) × (slice_get states place ≡ Some state)
      place_of state reached = let there = to_number reached.0 state reached.1 in at_place there.0 state there.1
