-- The canonical table of the empty language.
use Rattle.std.proofs.Common.{◌≡◌, ◌≢◌, ℕ, ◌≤◌, List, [], ◌∷◌, Result, Ok, Err, IfOk, refl, sym, ap, subst, inr, arith}
use Rattle.std.specs.List.{All}
use Rattle.std.proofs.lemmas.List.Elements.{All-nil, All-cons}
use Rattle.kb_fsa.specs.Table.{Moves, IsTable, IsRow, is_accepting, AcceptsFrom, state_after}
use Rattle.kb_fsa.specs.declared.alphabet.Alphabet.{Alphabet}
use Rattle.kb_fsa.specs.declared.alphabet.Alphabet.TheVariants.{Plain, Pair}
use Rattle.kb_fsa.specs.Language.{Automaton, AcceptsText, SameLanguage, IsAutomaton, symbols, generators, IsTextOf}
use Rattle.kb_fsa.specs.Canonical.{IsLeastText, IsState, IsCanonical}
use Rattle.kb_fsa.proofs.Lookups.{IsRow-nil, after_none}
use Rattle.kb_fsamin.specs.Empty.{empty_table}
use Rattle.kb_fsamin.proofs.Reduced.{nothing_less}

-- a text with a symbol leads nowhere
leads_nowhere : (symbol : ℕ) (text : List ℕ) → state_after empty_table (symbol ∷ text) ≡ 0
leads_nowhere symbol text = after_none empty_table text

pub nothing_accepted : (text : List ℕ) → ¬ AcceptsFrom empty_table 1 text
nothing_accepted [] accepts = cc
nothing_accepted (symbol ∷ text) accepts =
    let none = ap (is_accepting empty_table) (leads_nowhere symbol text) in cc

only_row : (P : Moves → Type 0) → P [] → All P empty_table.rows
only_row P here = All-cons P [] [] here (All-nil P)

pub is_table : IsTable empty_table
is_table = record {
  one_answer_each = refl;
  size = omega arith;
  initial = omega arith;
  rows = only_row IsRow IsRow-nil;
  targets = only_row (All (λ move. move.1 ≤ 1)) (All-nil (λ (move : ℕ × ℕ). move.1 ≤ 1));
}

empty_text : (alphabet : Alphabet) → IsTextOf alphabet []
empty_text (Plain n) = λ k d within. absurd (let no : ⊥ = omega arith in no)
empty_text (Pair n) = record {
  first = [];
  second = [];
  first_over = λ k d within. absurd (let no : ⊥ = omega arith in no);
  second_over = λ k d within. absurd (let no : ⊥ = omega arith in no);
  is_text = refl;
}

texts : (alphabet : Alphabet) (text : List ℕ) → state_after empty_table text ≢ 0 → IsTextOf alphabet text
texts alphabet [] some = empty_text alphabet
texts alphabet (symbol ∷ text) some = absurd (some (leads_nowhere symbol text))

pub is_automaton : (alphabet : Alphabet) → generators alphabet ≤ 65534 → IsAutomaton (record { alphabet = alphabet; table = empty_table })
is_automaton alphabet few = record {
  generators = few;
  table = is_table;
  symbols = only_row (All (λ move. move.0 ≤ symbols alphabet)) (All-nil (λ (move : ℕ × ℕ). move.0 ≤ symbols alphabet));
  texts = texts alphabet;
}

one_state : (state : ℕ) → IsState empty_table state → state ≡ 1
one_state state is =
    let positive = is.positive in
    let within = is.within in
    omega arith

first_reached : (state : ℕ) → state ≡ 1 → (text : List ℕ) × IsLeastText empty_table state text
first_reached state is = ([], record { leads = sym is; least = λ other same. nothing_less other })

led_within : (text : List ℕ) → state_after empty_table text ≤ 1
led_within [] = omega arith
led_within (symbol ∷ text) = let none = leads_nowhere symbol text in omega arith

pub is_canonical : IsCanonical empty_table
is_canonical = record {
  initial = refl;
  reached = λ state is. first_reached state (one_state state is);
  trim = inr (refl, (refl, λ live. nothing_accepted live.0 live.1));
  reduced = λ p q one two same. let first = one_state p one in let second = one_state q two in omega arith;
  numbered = λ p q text other positive less one two.
      let leads = two.leads in let within = led_within other in absurd (let no : ⊥ = omega arith in no);
}

-- the automaton of a result, if there is one
pub answer_canonical : {E : Type 0} (answer : Result Automaton E) (alphabet : Alphabet)
    → IfOk answer (λ fsa. fsa ≡ record { alphabet = alphabet; table = empty_table }) → IfOk answer (λ fsa. IsCanonical fsa.table)
answer_canonical (Ok fsa) alphabet is =
    let P : Automaton → Type 0 = λ a. IsCanonical a.table in subst P (sym is) is_canonical
answer_canonical (Err e) alphabet is = is

pub answer_language : {E : Type 0} (given : Automaton) (answer : Result Automaton E) (alphabet : Alphabet) → ((text : List ℕ) → ¬ AcceptsText given text)
    → IfOk answer (λ fsa. fsa ≡ record { alphabet = alphabet; table = empty_table }) → IfOk answer (λ fsa. SameLanguage given fsa)
answer_language given (Ok fsa) alphabet none is =
    let P : Automaton → Type 0 = λ a. SameLanguage given a in
    subst P (sym is) (λ text. (λ accepts. absurd (none text accepts), λ accepts. absurd (nothing_accepted text accepts)))
answer_language given (Err e) alphabet none is = is
