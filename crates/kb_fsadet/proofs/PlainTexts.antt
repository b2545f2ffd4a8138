-- Automata over plain alphabets read words.
use Rattle.std.proofs.Common.{ℕ, zero, suc, ◌<◌, ◌≤◌, List, [], ◌∷◌, length, get_or, subst, inl, inr}
use Rattle.std.specs.List.{All, Contains}
use Rattle.std.proofs.lemmas.Bool.{cases_lt}
use Rattle.std.proofs.lemmas.List.{get_or_past}
use Rattle.std.proofs.lemmas.List.Elements.{All-nil, All-cons, All-contains, All-get_or}
use Rattle.kb_word.specs.Relations.{IsOver}
use Rattle.kb_fsa.specs.Table.{Moves}
use Rattle.kb_fsadet.specs.Nondeterministic.{Nondeterministic, IsOneOf, LeadsFrom, moves_at}
use Rattle.kb_fsadet.proofs.Sets.{Contains-none}

-- moves are by letters, to states
abbrev pub AreByLetters : ℕ → ℕ → List Moves → Type 0
AreByLetters n count rows = All (All (λ move. IsOneOf n move.0 × IsOneOf count move.1)) rows

letter_of_move : (n count : ℕ) (rows : List Moves) (state : ℕ) (move : ℕ × ℕ) → AreByLetters n count rows → Contains (moves_at rows state) move
    → IsOneOf n move.0
letter_of_move n count rows zero move each at = absurd (Contains-none move at)
letter_of_move n count rows (suc place) move each at =
    let P = λ (m : ℕ × ℕ). IsOneOf n m.0 × IsOneOf count m.1 in
    elim (cases_lt place (length rows)) [
      | inl within ↦ (All-contains P (get_or rows place []) move (All-get_or (All P) rows place [] within each) at).0
      | inr past ↦
          let Q : Moves → Type 0 = λ moves. Contains moves move in
          absurd (Contains-none move (subst Q (get_or_past rows place [] past) at))
    ]

module _ (n count : ℕ) (automaton : Nondeterministic) (each : AreByLetters n count automaton.rows) where
  pub words_lead : (text : List ℕ) (from to : ℕ) → LeadsFrom automaton from text to → IsOver n text
  words_lead [] from to leads = All-nil (λ x. (0 < x) × (x ≤ n))
  words_lead (symbol ∷ text) from to leads =
      All-cons (λ x. (0 < x) × (x ≤ n)) symbol text (letter_of_move n count automaton.rows from (symbol, leads.0) each leads.1)
      (words_lead text leads.0 to leads.2)
