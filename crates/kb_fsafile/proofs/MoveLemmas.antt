-- Entries and the moves among them.
use Rattle.std.proofs.Common.{◌≡◌, ℕ, suc, ◌+◌, ◌<◌, ◌≤◌, Bool, true, false, not, cond, nat_eq, List, [], ◌∷◌, ◌++◌, length, Option, ◌⊎◌, inl, inr, refl, sym, ap, ◌∙◌, subst, arith}
use Rattle.std.specs.Option.{unwrap_or}
use Rattle.std.specs.List.{All}
use Rattle.std.proofs.lemmas.Bool.{cases_eq}
use Rattle.std.proofs.lemmas.Bool.Decides.{nat_tests}
use Rattle.std.proofs.lemmas.List.Elements.{All-nil, All-cons, All-head, All-tail, All-filter, All-weaker}
use Rattle.std.proofs.lemmas.List.Kept.{AllPairs-cons, AllPairs-filter}
use Rattle.kb_fsa.specs.Table.{Moves, IsRow, Ascends, target}
use Rattle.kb_fsa.proofs.Lookups.{lookup_here, lookup_there, lookup_below, Ascends-tail, Ascends-head}
use Rattle.kb_fsafile.specs.Kinds.{numbered_from}
use Rattle.kb_fsafile.specs.RowsRead.{IsWithin, moves_among}

test_eq : (a b : ℕ) → a ≡ b → nat_eq a b ≡ true
test_eq a b e = grind (arith, nat_tests)

test_ne : (a b : ℕ) → (a ≡ b → ⊥) → nat_eq a b ≡ false
test_ne a b n = grind (arith, nat_tests)

target_of : {o p : Option ℕ} → o ≡ p → unwrap_or o 0 ≡ unwrap_or p 0
target_of e = ap (λ (o : Option ℕ). unwrap_or o 0) e

-- the first entry is no move, or it is one
among_left : (e : ℕ × ℕ) (entries : List (ℕ × ℕ)) → e.1 ≡ 0 → moves_among (e ∷ entries) ≡ moves_among entries
among_left e entries none = ap (λ (b : Bool). cond (not b) (e ∷ moves_among entries) (moves_among entries)) (test_eq e.1 0 none)

among_kept : (e : ℕ × ℕ) (entries : List (ℕ × ℕ)) → (e.1 ≡ 0 → ⊥) → moves_among (e ∷ entries) ≡ e ∷ moves_among entries
among_kept e entries some = ap (λ (b : Bool). cond (not b) (e ∷ moves_among entries) (moves_among entries)) (test_ne e.1 0 some)

-- entries that are no moves don't change what symbols lead to
pub target_among : (entries : List (ℕ × ℕ)) (symbol : ℕ) → Ascends entries → target (moves_among entries) symbol ≡ target entries symbol
target_among [] symbol ascends = refl
target_among (e ∷ entries) symbol ascends =
    at (cases_eq e.1 0) (cases_eq e.0 symbol) (target_among entries symbol (Ascends-tail e entries ascends))
  where
    greater : e.0 ≡ symbol → All (λ (x : ℕ × ℕ). symbol < x.0) entries
    greater same = let P : ℕ → Type 0 = λ n. All (λ (x : ℕ × ℕ). n < x.0) entries in subst P same (Ascends-head e entries ascends)

    at : (e.1 ≡ 0) ⊎ (e.1 ≡ 0 → ⊥) → (e.0 ≡ symbol) ⊎ (e.0 ≡ symbol → ⊥) → target (moves_among entries) symbol ≡ target entries symbol
        → target (moves_among (e ∷ entries)) symbol ≡ target (e ∷ entries) symbol
    at (inl none) (inl same) rest =
        ap (λ (ms : Moves). target ms symbol) (among_left e entries none)
        ∙ (rest ∙ (target_of (lookup_below entries symbol (greater same)) ∙ (sym none ∙ sym (target_of (lookup_here e entries symbol same)))))
    at (inl none) (inr other) rest =
        ap (λ (ms : Moves). target ms symbol) (among_left e entries none) ∙ (rest ∙ sym (target_of (lookup_there e entries symbol other)))
    at (inr some) (inl same) rest =
        ap (λ (ms : Moves). target ms symbol) (among_kept e entries some)
        ∙ (target_of (lookup_here e (moves_among entries) symbol same) ∙ sym (target_of (lookup_here e entries symbol same)))
    at (inr some) (inr other) rest =
        ap (λ (ms : Moves). target ms symbol) (among_kept e entries some)
        ∙ (target_of (lookup_there e (moves_among entries) symbol other) ∙ (rest ∙ sym (target_of (lookup_there e entries symbol other))))

positive : (entries : List (ℕ × ℕ)) → All (λ (e : ℕ × ℕ). 0 < e.0) entries → All (λ (e : ℕ × ℕ). (0 < e.0) × (0 < e.1)) (moves_among entries)
positive [] from_one = All-nil (λ (e : ℕ × ℕ). (0 < e.0) × (0 < e.1))
positive (e ∷ entries) from_one = at (cases_eq e.1 0) (positive entries (All-tail (λ (x : ℕ × ℕ). 0 < x.0) e entries from_one))
  where
    first : 0 < e.0
    first = All-head (λ (x : ℕ × ℕ). 0 < x.0) e entries from_one

    at : (e.1 ≡ 0) ⊎ (e.1 ≡ 0 → ⊥) → All (λ (x : ℕ × ℕ). (0 < x.0) × (0 < x.1)) (moves_among entries)
        → All (λ (x : ℕ × ℕ). (0 < x.0) × (0 < x.1)) (moves_among (e ∷ entries))
    at (inl none) rest = let Q : List (ℕ × ℕ) → Type 0 = λ ms. All (λ (x : ℕ × ℕ). (0 < x.0) × (0 < x.1)) ms in subst Q (sym (among_left e entries none)) rest
    at (inr some) rest =
        let Q : List (ℕ × ℕ) → Type 0 = λ ms. All (λ (x : ℕ × ℕ). (0 < x.0) × (0 < x.1)) ms in
        subst Q (sym (among_kept e entries some)) (All-cons (λ (x : ℕ × ℕ). (0 < x.0) × (0 < x.1)) e (moves_among entries) (first, omega (arith, some)) rest)

-- the moves among entries of ascending symbols are a row
pub row_among : (entries : List (ℕ × ℕ)) → Ascends entries → All (λ (e : ℕ × ℕ). 0 < e.0) entries → IsRow (moves_among entries)
row_among entries ascends from_one = record {
  ascends = AllPairs-filter (λ (e : ℕ × ℕ) (later : ℕ × ℕ). e.0 < later.0) (λ (e : ℕ × ℕ). not (nat_eq e.1 0)) entries ascends;
  numbers = positive entries from_one;
}

pub within_among : (size count : ℕ) (entries : List (ℕ × ℕ)) → All (IsWithin size count) entries → All (IsWithin size count) (moves_among entries)
within_among size count entries within = All-filter (λ (e : ℕ × ℕ). not (nat_eq e.1 0)) (IsWithin size count) entries within

-- targets that are numbered from a symbol on
numbered_on : (least symbol : ℕ) (targets : List ℕ) → least ≤ symbol → All (λ (e : ℕ × ℕ). least ≤ e.0) (numbered_from symbol targets)
numbered_on least symbol [] low = All-nil (λ (e : ℕ × ℕ). least ≤ e.0)
numbered_on least symbol (t ∷ targets) low =
    All-cons (λ (e : ℕ × ℕ). least ≤ e.0) (symbol, t) (numbered_from (suc symbol) targets) low (numbered_on least (suc symbol) targets (omega arith))

pub numbered_positive : (targets : List ℕ) → All (λ (e : ℕ × ℕ). 0 < e.0) (numbered_from 1 targets)
numbered_positive targets =
    All-weaker (λ (e : ℕ × ℕ). 1 ≤ e.0) (λ (e : ℕ × ℕ). 0 < e.0) (λ e low. omega (arith, low)) (numbered_from 1 targets) (numbered_on 1 1 targets (omega arith))

pub numbered_ascends : (symbol : ℕ) (targets : List ℕ) → Ascends (numbered_from symbol targets)
numbered_ascends symbol [] = λ i j d before within. absurd (omega (arith, before, within))
numbered_ascends symbol (t ∷ targets) =
    AllPairs-cons (λ (e : ℕ × ℕ) (later : ℕ × ℕ). e.0 < later.0) (symbol, t) (numbered_from (suc symbol) targets)
    (All-weaker (λ (e : ℕ × ℕ). suc symbol ≤ e.0) (λ (e : ℕ × ℕ). symbol < e.0) (λ e low. omega (arith, low)) (numbered_from (suc symbol) targets)
    (numbered_on (suc symbol) (suc symbol) targets (omega arith)))
    (numbered_ascends (suc symbol) targets)

pub numbered_within : (symbol count last : ℕ) (targets : List ℕ) → symbol + length targets ≤ suc last → All (λ (t : ℕ). t ≤ count) targets
    → All (IsWithin last count) (numbered_from symbol targets)
numbered_within symbol count last [] few within = All-nil (IsWithin last count)
numbered_within symbol count last (t ∷ targets) few within =
    let first = All-head (λ (u : ℕ). u ≤ count) t targets within in
    All-cons (IsWithin last count) (symbol, t) (numbered_from (suc symbol) targets) (omega (arith, few), first)
    (numbered_within (suc symbol) count last targets (omega (arith, few)) (All-tail (λ (u : ℕ). u ≤ count) t targets within))

pub numbered-append : (symbol : ℕ) (targets : List ℕ) (t : ℕ) → numbered_from symbol (targets ++ t ∷ []) ≡ numbered_from symbol targets ++ (symbol + length targets, t) ∷ []
numbered-append symbol [] t = ap (λ (n : ℕ). (n, t) ∷ []) (omega arith)
numbered-append symbol (u ∷ targets) t =
    ap (λ (es : List (ℕ × ℕ)). (symbol, u) ∷ es) (numbered-append (suc symbol) targets t
    ∙ ap (λ (n : ℕ). numbered_from (suc symbol) targets ++ (n, t) ∷ []) (omega arith))
