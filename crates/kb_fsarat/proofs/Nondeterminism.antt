-- Nondeterministic automata over plain alphabets, and their sets of states.
use Rattle.std.proofs.Common.{◌≡◌, ◌↔◌, ℕ, zero, suc, ◌<◌, ◌≤◌, ◌^◌, List, [], ◌∷◌, length, get_or, sym, ap, subst, inl, inr, arith}
use Rattle.std.specs.List.{Contains}
use Rattle.std.proofs.lemmas.Bool.{cases_lt}
use Rattle.std.proofs.lemmas.List.{get_or_past, get_or_default}
use Rattle.std.proofs.lemmas.List.Elements.{All-nil, All-cons}
use Rattle.kb_word.specs.Relations.{IsOver}
use Rattle.kb_fsa.specs.declared.alphabet.Alphabet.{Alphabet}
use Rattle.kb_fsa.specs.declared.alphabet.Alphabet.TheVariants.{Plain}
use Rattle.kb_fsa.specs.Table.{Moves}
use Rattle.kb_fsa.specs.Language.{generators, symbols, IsTextOf}
use Rattle.kb_fsa.specs.Counted.{MoreSetsThan}
use Rattle.kb_explore.proofs.CountingLemmas.{MoreThan-kept}
use Rattle.kb_fsadet.specs.Nondeterministic.{Nondeterministic, IsNondeterministic, IsOneOf, LeadsFrom, moves_from}
use Rattle.kb_fsarat.proofs.MoveLists.{Contains-nil, Contains-same}
use Rattle.kb_fsarat.proofs.TableMoves.{All-from_contains}

-- a row has moves only if it is one of the list's
pub row_within : (rows : List Moves) (place : ℕ) (move : ℕ × ℕ) → Contains (get_or rows place []) move → place < length rows
row_within rows place move has =
    elim (cases_lt place (length rows)) [
      | inl within ↦ within
      | inr past ↦ absurd (Contains-nil move (Contains-same _ _ move (get_or_past rows place [] past) has))
    ]

-- the symbols and targets of all moves are within bounds
abbrev pub HasMovesWithin : ℕ → Nondeterministic → Type 0
HasMovesWithin n nfa = (place symbol target : ℕ) → Contains (get_or nfa.rows place []) (symbol, target)
    → IsOneOf n symbol × IsOneOf (length nfa.rows) target

-- so each text that leads to a state is a word over the letters
pub texts_over : (n : ℕ) (nfa : Nondeterministic) → HasMovesWithin n nfa → (state : ℕ) (text : List ℕ) (other : ℕ) → LeadsFrom nfa state text other
    → IsOver n text
texts_over n nfa within state [] other leads = All-nil (λ x. (0 < x) × (x ≤ n))
texts_over n nfa within state (symbol ∷ text) other leads =
    All-cons (λ x. (0 < x) × (x ≤ n)) symbol text (first state leads.1) (texts_over n nfa within leads.0 text other leads.2)
  where
    first : (number : ℕ) → Contains (moves_from nfa number) (symbol, leads.0) → IsOneOf n symbol
    first zero has = absurd (Contains-nil (symbol, leads.0) has)
    first (suc place) has = (within place symbol leads.0 has).0

pub IsNondeterministic-plain : (n : ℕ) (nfa : Nondeterministic) → nfa.alphabet ≡ Plain n → n ≤ 65534
    → length nfa.accepting ≡ length nfa.rows → length nfa.rows < 2 ^ 32
    → ((state : ℕ) → Contains nfa.initial state → IsOneOf (length nfa.rows) state) → HasMovesWithin n nfa → IsNondeterministic nfa
IsNondeterministic-plain n nfa plain small one_answer_each size initial within =
    let count : symbols nfa.alphabet ≡ n = ap symbols plain in
    record {
      generators = let same : generators nfa.alphabet ≡ n = ap generators plain in omega arith;
      one_answer_each = one_answer_each;
      size = size;
      initial = All-from_contains (IsOneOf (length nfa.rows)) nfa.initial initial;
      moves = λ place d in_range. All-from_contains (λ (move : ℕ × ℕ). IsOneOf (symbols nfa.alphabet) move.0 × IsOneOf (length nfa.rows) move.1)
          (get_or nfa.rows place d) (λ move has.
          let P : ℕ → Type 0 = λ k. IsOneOf k move.0 in
          let bounds = within place move.0 move.1 (Contains-same _ _ (move.0, move.1) (get_or_default nfa.rows place d [] in_range) has) in
          (subst P (sym count) bounds.0, bounds.1));
      texts = λ text state among.
          let P : Alphabet → Type 0 = λ alphabet. IsTextOf alphabet text in
          subst P (sym plain) (texts_over n nfa within among.start text state among.leads);
    }

-- ---- counted sets

-- Sets of one kind are counted as those of another, where the things of each kind match one another.
pub MoreSetsThan-forth : {X Y : Type 0} (Member : List ℕ → X → Type 0) (Other : List ℕ → Y → Type 0) (f : X → Y) (m : ℕ)
    → ((text : List ℕ) (x : X) → Member text x ↔ Other text (f x)) → MoreSetsThan Member m → MoreSetsThan Other m
MoreSetsThan-forth Member Other f m same more =
    MoreThan-kept more (λ text some. (f some.0, (same text some.0).0 some.1))
    (λ text other one two alike x. (
      λ has. (same other x).1 ((alike (f x)).0 ((same text x).0 has)),
      λ has. (same text x).1 ((alike (f x)).1 ((same other x).0 has)),
    ))

pub MoreSetsThan-back : {X Y : Type 0} (Member : List ℕ → X → Type 0) (Other : List ℕ → Y → Type 0) (f : X → Y) (m : ℕ)
    → ((text : List ℕ) (x : X) → Member text x ↔ Other text (f x))
    → ((text : List ℕ) (y : Y) → Other text y → (x : X) × (f x ≡ y)) → MoreSetsThan Other m → MoreSetsThan Member m
MoreSetsThan-back {X} {Y} Member Other f m same covered more =
    MoreThan-kept more
    (λ text some.
    let x = covered text some.0 some.1 in
    let P : Y → Type 0 = λ y. Other text y in
    (x.0, (same text x.0).1 (subst P (sym x.1) some.1)))
    (λ text other one two alike y. (carried text other (λ x. (alike x).0) y, carried other text (λ x. (alike x).1) y))
  where
    carried : (text other : List ℕ) → ((x : X) → Member text x → Member other x) → (y : Y) → Other text y → Other other y
    carried text other implied y has =
        let x = covered text y has in
        let P : Y → Type 0 = λ z. Other text z in
        let Q : Y → Type 0 = λ z. Other other z in
        subst Q x.1 ((same other x.0).0 (implied x.0 ((same text x.0).1 (subst P (sym x.1) has))))
