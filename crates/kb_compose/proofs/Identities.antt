-- The identity on an acceptor.
use Rattle.std.proofs.Common.{◌≡◌, ◌≢◌, ◌↔◌, ℕ, zero, suc, ◌+◌, ◌-◌, ◌<◌, ◌≤◌, IsTrue, List, [], ◌∷◌, length, get_or, map, Contains, refl, sym, ap, ◌∙◌, subst, inl, inr, arith}
use Rattle.std.specs.List.{All}
use Rattle.std.specs.Option.{unwrap_or}
use Rattle.std.proofs.lemmas.Bool.{false≢true, cases_eq, cases_lt}
use Rattle.std.proofs.lemmas.List.{length-map}
use Rattle.std.proofs.lemmas.Nat.{mul-le}
use Rattle.std.proofs.lemmas.List.Elements.{All-nil, All-cons, All-head, All-tail, All-map, All-contains, Contains-get_or}
use Rattle.kb_word.specs.Relations.{IsOver}
use Rattle.kb_fsa.specs.declared.alphabet.Alphabet.TheVariants.{Plain}
use Rattle.kb_fsa.specs.Table.{Table, IsTable, IsRow, HasSymbols, Moves, lookup, target, moves_of, step, after, is_accepting}
use Rattle.kb_fsa.specs.PairSymbols.{pair_symbol, pair_symbols}
use Rattle.kb_fsa.specs.Padding.{padded, IsPadded}
use Rattle.kb_fsa.specs.Language.{Automaton, IsAutomaton, Accepts, AcceptsPair, generators, symbols}
use Rattle.kb_fsa.proofs.PairSymbolLaws.{IsLetter, IsPairSymbol-first, pair_symbol-injective}
use Rattle.kb_fsa.proofs.Paddings.{padded-injective}
use Rattle.kb_fsa.proofs.Lookups.{lookup_here, lookup_there, entry_from_lookup, lookup_from_target, IsRow-moves_of, All-moves_of, after_none}
use Rattle.kb_fsadet.proofs.Sets.{Contains-none, Contains-here, Contains-there, Contains-cons_cases}
use Rattle.kb_compose.specs.Along.{AreLetters, twice, identity_on}

-- a pair of the same letter twice rises with the letter
twice_rises : (n x y : ℕ) → 0 < x → x < y → pair_symbol n x x < pair_symbol n y y
twice_rises n x y some less =
    let fits = mul-le (n + 1) (x - 1) (n + 1) (y - 1) (omega arith) (omega arith) in omega arith

-- and is that of one letter
twice_injective : (n x y : ℕ) → IsLetter n x → IsLetter n y → pair_symbol n x x ≡ pair_symbol n y y → x ≡ y
twice_injective n x y one two same =
    let low = one.1 in let high = two.1 in
    (pair_symbol-injective n x x y y one.0 two.0 (one.0, omega arith) (two.0, omega arith) same).0

lookup_twice : (n : ℕ) (moves : Moves) (x : ℕ) → AreLetters n moves → IsLetter n x
    → lookup (map (twice n) moves) (pair_symbol n x x) ≡ lookup moves x
lookup_twice n [] x letters letter = refl
lookup_twice n (move ∷ moves) x letters letter =
    let P = λ (m : ℕ × ℕ). (0 < m.0) × (m.0 ≤ n) in
    let here = All-head P move moves letters in
    let rest = lookup_twice n moves x (All-tail P move moves letters) letter in
    elim (cases_eq move.0 x) [
      | inl same ↦
          lookup_here (twice n move) (map (twice n) moves) (pair_symbol n x x) (ap (λ z. pair_symbol n z z) same)
          ∙ sym (lookup_here move moves x same)
      | inr differ ↦
          lookup_there (twice n move) (map (twice n) moves) (pair_symbol n x x) (λ same. differ (twice_injective n move.0 x here letter same))
          ∙ rest ∙ sym (lookup_there move moves x differ)
    ]

get_or_map : (f : Moves → Moves) (rows : List Moves) (place : ℕ) → f [] ≡ [] → get_or (map f rows) place [] ≡ f (get_or rows place [])
get_or_map f [] place none = sym none
get_or_map f (row ∷ rows) zero none = refl
get_or_map f (row ∷ rows) (suc place) none = get_or_map f rows place none

-- the entry of a row of pairs
from_twice : (n : ℕ) (moves : Moves) (symbol target : ℕ) → Contains (map (twice n) moves) (symbol, target)
    → (x : ℕ) × (Contains moves (x, target) × (symbol ≡ pair_symbol n x x))
from_twice n moves symbol target at =
    let found = contains_map moves (symbol, target) at in
    let move = found.0 in
    let P : ℕ → Type 0 = λ t. Contains moves (move.0, t) in
    (move.0, (subst P (ap (λ (m : ℕ × ℕ). m.1) found.1.1) found.1.0, sym (ap (λ (m : ℕ × ℕ). m.0) found.1.1)))
  where
    contains_map : (xs : Moves) (y : ℕ × ℕ) → Contains (map (twice n) xs) y → (x : ℕ × ℕ) × (Contains xs x × (twice n x ≡ y))
    contains_map [] y none = absurd (Contains-none y none)
    contains_map (x ∷ xs) y there =
        elim (Contains-cons_cases (twice n x) (map (twice n) xs) y there) [
          | inl is ↦ (x, (Contains-here x xs, is))
          | inr later ↦ let found = contains_map xs y later in (found.0, (Contains-there x xs found.0 found.1.0, found.1.1))
        ]

-- ---- rows

pub row_twice : (n : ℕ) (moves : Moves) → IsRow moves → AreLetters n moves → IsRow (map (twice n) moves)
row_twice n moves row letters = record {
  ascends = λ i j d less within.
      let long = length-map moves (twice n) in
      let d' : ℕ × ℕ = (0, 0) in
      let one = get_or-map_within moves i d (omega arith) in
      let two = get_or-map_within moves j d (omega arith) in
      let rises = twice_rises n (get_or moves i d').0 (get_or moves j d').0 (letters i d' (omega arith)).0 (row.ascends i j d' less (omega arith)) in
      omega (arith, ap (λ (m : ℕ × ℕ). m.0) one, ap (λ (m : ℕ × ℕ). m.0) two);
  numbers = All-map (λ (m : ℕ × ℕ). (0 < m.0) × (0 < m.1)) (twice n) moves (λ k d h.
      let letter = letters k d h in
      ((IsPairSymbol-first n (get_or moves k d).0 (get_or moves k d).0 letter (letter.0, omega (arith, letter.1))).0, (row.numbers k d h).1));
}
  where
    get_or-map_within : (xs : Moves) (i : ℕ) (d : ℕ × ℕ) → i < length xs → get_or (map (twice n) xs) i d ≡ twice n (get_or xs i (0, 0))
    get_or-map_within [] i d within = absurd (omega arith)
    get_or-map_within (x ∷ xs) zero d within = refl
    get_or-map_within (x ∷ xs) (suc i) d within = get_or-map_within xs i d (omega arith)

module _ (acceptor : Automaton) (n : ℕ) (plain : acceptor.alphabet ≡ Plain n) (is : IsAutomaton acceptor) where
  abbrev table : Table
  table = acceptor.table

  abbrev pairs : Table
  pairs = (identity_on acceptor).table

  generators_are : generators acceptor.alphabet ≡ n
  generators_are = ap generators plain

  low : HasSymbols n table
  low = let P : ℕ → Type 0 = λ k. HasSymbols k table in subst P (ap symbols plain) is.symbols

  letters_at : (state : ℕ) → AreLetters n (moves_of table state)
  letters_at state = λ k d h. (
    ((IsRow-moves_of table state is.table).numbers k d h).0,
    All-moves_of (All (λ (m : ℕ × ℕ). m.0 ≤ n)) table state (All-nil (λ (m : ℕ × ℕ). m.0 ≤ n)) low k d h,
  )

  -- the moves of a state of the identity
  pair_moves_of : (state : ℕ) → moves_of pairs state ≡ map (twice n) (moves_of table state)
  pair_moves_of zero = refl
  pair_moves_of (suc place) =
      get_or_map (map (twice (generators acceptor.alphabet))) table.rows place refl
      ∙ ap (λ m. map (twice m) (get_or table.rows place [])) generators_are

  step_twice : (state x : ℕ) → IsLetter n x → step pairs state (pair_symbol n x x) ≡ step table state x
  step_twice state x letter =
      ap (λ moves. target moves (pair_symbol n x x)) (pair_moves_of state)
      ∙ ap (λ o. unwrap_or o 0) (lookup_twice n (moves_of table state) x (letters_at state) letter)

  -- a word beside itself leads where the word leads
  pub after_twice : (u : List ℕ) (state : ℕ) → IsOver n u → after pairs state (padded n u u) ≡ after table state u
  after_twice [] state over = refl
  after_twice (x ∷ u) state over =
      let P = λ (z : ℕ). (0 < z) × (z ≤ n) in
      ap (λ s. after pairs s (padded n u u)) (step_twice state x (All-head P x u over))
      ∙ after_twice u (step table state x) (All-tail P x u over)

  -- a text that leads somewhere is that of a word beside itself
  text_twice : (text : List ℕ) (state : ℕ) → after pairs state text ≢ 0 → (u : List ℕ) × (IsOver n u × (text ≡ padded n u u))
  text_twice [] state some = ([], (All-nil (λ z. (0 < z) × (z ≤ n)), refl))
  text_twice (symbol ∷ text) state some =
      let next = step pairs state symbol in
      let rest = text_twice text next some in
      let next_some : 0 < next = elim (cases_lt 0 next) [
        | inl positive ↦ positive
        | inr none ↦
            let zero_is : next ≡ 0 = omega arith in
            absurd (some (ap (λ s. after pairs s text) zero_is ∙ after_none pairs text))
      ] in
      let move = entry_from_lookup (moves_of pairs state) symbol next (lookup_from_target (moves_of pairs state) symbol next next_some refl) in
      let P : Moves → Type 0 = λ moves. Contains moves (symbol, next) in
      let found = from_twice n (moves_of table state) symbol next (subst P (pair_moves_of state) move) in
      let x = found.0 in
      let letter = All-contains (λ (m : ℕ × ℕ). (0 < m.0) × (m.0 ≤ n)) (moves_of table state) (x, next) (letters_at state) found.1.0 in (
        x ∷ rest.0,
        (
          All-cons (λ z. (0 < z) × (z ≤ n)) x rest.0 letter rest.1.0,
          ap (λ s. s ∷ text) found.1.1 ∙ ap (λ t. pair_symbol n x x ∷ t) rest.1.1,
        ),
      )

  -- the identity accepts each accepted word beside itself, and nothing else
  pub identity_accepts : (u v : List ℕ) → IsOver n u → IsOver n v → AcceptsPair (identity_on acceptor) u v ↔ (Accepts acceptor u × (u ≡ v))
  identity_accepts u v over_u over_v =
      let P : ℕ → Type 0 = λ s. IsTrue (is_accepting table s) in
      let R : ℕ → List ℕ → Type 0 = λ m w. IsTrue (is_accepting table (after pairs table.initial (padded m u w))) in (
        λ accepts.
            let here : R n v = subst (λ (m : ℕ). R m v) generators_are accepts in
            let some : after pairs table.initial (padded n u v) ≢ 0 = λ none.
            false≢true (ap (is_accepting table) (sym none) ∙ here) in
            let is_twice = text_twice (padded n u v) table.initial some in
            let words = padded-injective n u v is_twice.0 is_twice.0 over_u over_v is_twice.1.0 is_twice.1.0 is_twice.1.1 in
            let same : u ≡ v = words.0 ∙ sym words.1 in
            (subst P (after_twice u table.initial over_u) (subst (R n) (sym same) here), same),
        λ both.
            let here : R n u = subst P (sym (after_twice u table.initial over_u)) both.0 in
            subst (λ (m : ℕ). R m v) (sym generators_are) (subst (R n) both.1 here),
      )

  -- ---- it is an automaton of pairs

  -- all moves are by letters
  pub rows_letters : All (AreLetters n) table.rows
  rows_letters = λ k d h i e within. (((is.table.rows k d h).numbers i e within).0, low k d h i e within)

  pub rows_twice : (moves : Moves) → Contains table.rows moves → IsRow (map (twice n) moves)
  rows_twice moves at =
      row_twice n moves (All-contains IsRow table.rows moves is.table.rows at)
      (λ k d h. (
        ((All-contains IsRow table.rows moves is.table.rows at).numbers k d h).0,
        All-contains (All (λ (m : ℕ × ℕ). m.0 ≤ n)) table.rows moves low at k d h,
      ))

  pub pairs_table : IsTable pairs
  pairs_table = record {
    one_answer_each = is.table.one_answer_each ∙ sym (length-map table.rows (map (twice (generators acceptor.alphabet))));
    size = (let count = length-map table.rows (map (twice (generators acceptor.alphabet))) in let size = is.table.size in omega arith);
    initial = (let count = length-map table.rows (map (twice (generators acceptor.alphabet))) in let initial = is.table.initial in omega arith);
    rows = All-map IsRow (map (twice (generators acceptor.alphabet))) table.rows (λ k d h.
        let P : ℕ → Type 0 = λ m. IsRow (map (twice m) (get_or table.rows k d)) in
        subst P (sym generators_are) (rows_twice (get_or table.rows k d) (Contains-get_or table.rows k d h)));
    targets = All-map (All (λ (m : ℕ × ℕ). m.1 ≤ length pairs.rows)) (map (twice (generators acceptor.alphabet))) table.rows (λ k d h.
        All-map (λ (m : ℕ × ℕ). m.1 ≤ length pairs.rows) (twice (generators acceptor.alphabet)) (get_or table.rows k d) (λ i e within.
        let count = length-map table.rows (map (twice (generators acceptor.alphabet))) in
        omega (arith, is.table.targets k d h i e within)));
  }

  pub identity_automaton : IsAutomaton (identity_on acceptor)
  identity_automaton = record {
    generators = is.generators;
    table = pairs_table;
    symbols = All-map (All (λ (m : ℕ × ℕ). m.0 ≤ pair_symbols (generators acceptor.alphabet))) (map (twice (generators acceptor.alphabet))) table.rows (λ k d h.
        All-map (λ (m : ℕ × ℕ). m.0 ≤ pair_symbols (generators acceptor.alphabet)) (twice (generators acceptor.alphabet)) (get_or table.rows k d) (λ i e within.
        let x = (get_or (get_or table.rows k d) i e).0 in
        let positive = ((is.table.rows k d h).numbers i e within).0 in
        let under = low k d h i e within in
        let m_is = generators_are in
        let letter : IsLetter (generators acceptor.alphabet) x = (positive, omega arith) in
        (IsPairSymbol-first (generators acceptor.alphabet) x x letter (positive, omega arith)).1));
    texts = λ text some.
        let found = text_twice text table.initial some in
        let P : ℕ → Type 0 = λ m. IsPadded m text in
        subst P (sym generators_are) (record { first = found.0; second = found.0; first_over = found.1.0; second_over = found.1.0; is_text = found.1.1 });
  }
