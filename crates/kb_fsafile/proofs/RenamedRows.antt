-- Rows whose targets are numbers of listed states, by those states, and rows without the moves by one symbol.
use Rattle.std.proofs.Common.{◌≡◌, ◌≢◌, ◌⊎◌, ℕ, zero, suc, ◌<◌, Bool, true, false, not, nat_eq, if◌then◌else◌, List, [], ◌∷◌, map, get_or, slice_get, Option, Some, None, refl, sym, ap, ◌∙◌, inl, inr, arith}
use Rattle.std.specs.List.{All, filter}
use Rattle.std.specs.Option.{unwrap_or}
use Rattle.std.proofs.lemmas.Bool.{cases_eq, eq-eqb, eqb-true, cases_Bool, true≢false}
use Rattle.std.proofs.lemmas.List.Elements.{All-nil, All-cons, All-head, All-tail}
use Rattle.std.proofs.lemmas.List.Kept.{AllPairs-cons}
use Rattle.std.proofs.lemmas.Option.{none-some, same_Some, unwrap_or-slice_get}
use Rattle.kb_fsa.specs.Table.{Moves, Ascends, lookup, target}
use Rattle.kb_fsa.proofs.Lookups.{lookup_here, lookup_there, Ascends-tail, Ascends-head}
use Rattle.kb_explore.specs.Exploration.{numbered}
use Rattle.kb_fsafile.specs.Languages.{some_state}

-- ---- which states are listed

not_later : (first : ℕ) (rest : List ℕ) (state : ℕ) → first ≢ state → ((k : ℕ) → slice_get rest k ≡ Some state → ⊥)
    → (k : ℕ) → slice_get (first ∷ rest) k ≡ Some state → ⊥
not_later first rest state other none zero at = other (same_Some first state at)
not_later first rest state other none (suc k) at = none k at

-- the state is listed, or it isn't
abbrev pub IsListed : List ℕ → ℕ → Type 0
IsListed states state = ((k : ℕ) × (slice_get states k ≡ Some state)) ⊎ ((k : ℕ) → slice_get states k ≡ Some state → ⊥)

listed_first : (first : ℕ) (rest : List ℕ) (state : ℕ) → (first ≡ state) ⊎ (first ≢ state) → IsListed rest state → IsListed (first ∷ rest) state
listed_first first rest state (inl same) later = inl (0, ap (λ s. Some s) same)
listed_first first rest state (inr other) (inl found) = inl (suc found.0, found.1)
listed_first first rest state (inr other) (inr none) = inr (not_later first rest state other none)

pub listed : (states : List ℕ) (state : ℕ) → IsListed states state
listed [] state = inr (λ k at. none-some state at)
listed (first ∷ rest) state = listed_first first rest state (cases_eq first state) (listed rest state)

-- ---- numbers of reached states, and the states that they are in the file

-- the state of a number, and 0 of what is none
abbrev pub original : List ℕ → ℕ → ℕ
original states zero = 0
original states (suc k) = get_or states k 0

pub original_is : (states : List ℕ) (number : ℕ) → original states number ≡ unwrap_or (numbered states number) 0
original_is states zero = refl
original_is states (suc k) = sym (unwrap_or-slice_get states k 0)

pub unwrap_some : (state : ℕ) → unwrap_or (some_state state) 0 ≡ state
unwrap_some zero = refl
unwrap_some (suc place) = refl

pub some_positive : (state number : ℕ) → some_state state ≡ Some number → 0 < number
some_positive zero number e = absurd (none-some number e)
some_positive (suc place) number e = let same = same_Some (suc place) number e in omega arith

-- ---- rows by the states of the file

abbrev pub renamed : List ℕ → Moves → Moves
renamed states moves = map (λ (move : ℕ × ℕ). (move.0, original states move.1)) moves

pub target_renamed : (states : List ℕ) (moves : Moves) (symbol : ℕ) → target (renamed states moves) symbol ≡ original states (target moves symbol)
target_renamed states [] symbol = refl
target_renamed states (move ∷ moves) symbol =
    let to : ℕ × ℕ = (move.0, original states move.1) in
    let first : Option ℕ → ℕ = λ o. unwrap_or o 0 in
    elim (cases_eq move.0 symbol) [
      | inl same ↦
          ap first (lookup_here to (renamed states moves) symbol same) ∙ sym (ap (λ o. original states (unwrap_or o 0)) (lookup_here move moves symbol same))
      | inr other ↦
          ap first (lookup_there to (renamed states moves) symbol other) ∙ target_renamed states moves symbol
          ∙ sym (ap (λ o. original states (unwrap_or o 0)) (lookup_there move moves symbol other))
    ]

pub symbols_renamed : (P : ℕ → Type 0) (states : List ℕ) (moves : Moves) → All (λ (move : ℕ × ℕ). P move.0) moves
    → All (λ (move : ℕ × ℕ). P move.0) (renamed states moves)
symbols_renamed P states [] all = All-nil (λ (move : ℕ × ℕ). P move.0)
symbols_renamed P states (move ∷ moves) all =
    let Q : ℕ × ℕ → Type 0 = λ m. P m.0 in
    All-cons Q (move.0, original states move.1) (renamed states moves) (All-head Q move moves all) (symbols_renamed P states moves (All-tail Q move moves all))

pub targets_renamed : (P Q : ℕ → Type 0) (states : List ℕ) → ((number : ℕ) → P number → Q (original states number)) → (moves : Moves)
    → All (λ (move : ℕ × ℕ). P move.1) moves → All (λ (move : ℕ × ℕ). Q move.1) (renamed states moves)
targets_renamed P Q states goes [] all = All-nil (λ (move : ℕ × ℕ). Q move.1)
targets_renamed P Q states goes (move ∷ moves) all =
    let A : ℕ × ℕ → Type 0 = λ m. P m.1 in
    All-cons (λ (m : ℕ × ℕ). Q m.1) (move.0, original states move.1) (renamed states moves) (goes move.1 (All-head A move moves all))
    (targets_renamed P Q states goes moves (All-tail A move moves all))

pub ascends_renamed : (states : List ℕ) (moves : Moves) → Ascends moves → Ascends (renamed states moves)
ascends_renamed states [] ascends = λ i j d before within. absurd (omega (arith, before, within))
ascends_renamed states (move ∷ moves) ascends =
    AllPairs-cons (λ (e : ℕ × ℕ) (later : ℕ × ℕ). e.0 < later.0) (move.0, original states move.1) (renamed states moves)
    (symbols_renamed (λ symbol. move.0 < symbol) states moves (Ascends-head move moves ascends))
    (ascends_renamed states moves (Ascends-tail move moves ascends))

pub both : (P Q : ℕ × ℕ → Type 0) (moves : Moves) → All P moves → All Q moves → All (λ move. P move × Q move) moves
both P Q moves one two = λ k d within. (one k d within, two k d within)

-- ---- rows without the moves by one symbol

module _ (last : ℕ) where
  abbrev pub keeps : ℕ × ℕ → Bool
  keeps move = not (nat_eq move.0 last)

  first_stays : (move : ℕ × ℕ) (moves : Moves) → nat_eq move.0 last ≡ false → filter keeps (move ∷ moves) ≡ move ∷ filter keeps moves
  first_stays move moves other = ap (λ (b : Bool). if not b then move ∷ filter keeps moves else filter keeps moves) other

  first_goes : (move : ℕ × ℕ) (moves : Moves) → nat_eq move.0 last ≡ true → filter keeps (move ∷ moves) ≡ filter keeps moves
  first_goes move moves same = ap (λ (b : Bool). if not b then move ∷ filter keeps moves else filter keeps moves) same

  pub lookup_stays : (moves : Moves) (symbol : ℕ) → symbol ≢ last → lookup (filter keeps moves) symbol ≡ lookup moves symbol
  lookup_stays [] symbol other = refl
  lookup_stays (move ∷ moves) symbol other =
      elim (cases_Bool (nat_eq move.0 last)) [
        | inl goes ↦
            let apart : move.0 ≢ symbol = λ same. other (sym same ∙ eqb-true move.0 last goes) in
            ap (λ ms. lookup ms symbol) (first_goes move moves goes) ∙ lookup_stays moves symbol other ∙ sym (lookup_there move moves symbol apart)
        | inr stays ↦ elim (cases_eq move.0 symbol) [
          | inl same ↦
              ap (λ ms. lookup ms symbol) (first_stays move moves stays) ∙ lookup_here move (filter keeps moves) symbol same
              ∙ sym (lookup_here move moves symbol same)
          | inr apart ↦
              ap (λ ms. lookup ms symbol) (first_stays move moves stays) ∙ lookup_there move (filter keeps moves) symbol apart
              ∙ lookup_stays moves symbol other ∙ sym (lookup_there move moves symbol apart)
        ]
      ]

  pub lookup_gone : (moves : Moves) (symbol : ℕ) → symbol ≡ last → lookup (filter keeps moves) symbol ≡ None
  lookup_gone [] symbol same = refl
  lookup_gone (move ∷ moves) symbol same =
      elim (cases_Bool (nat_eq move.0 last)) [
        | inl goes ↦ ap (λ ms. lookup ms symbol) (first_goes move moves goes) ∙ lookup_gone moves symbol same
        | inr stays ↦
            let apart : move.0 ≢ symbol = λ here. true≢false (sym (eq-eqb move.0 last (here ∙ same)) ∙ stays) in
            ap (λ ms. lookup ms symbol) (first_stays move moves stays) ∙ lookup_there move (filter keeps moves) symbol apart ∙ lookup_gone moves symbol same
      ]
