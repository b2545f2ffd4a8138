-- Texts of the alphabet are those through which a run of ended words goes.
use Rattle.std.proofs.Common.{◌≡◌, ◌≢◌, ◌↔◌, ℕ, ◌+◌, ◌-◌, ◌*◌, ◌/◌, ◌%◌, ◌<◌, ◌≤◌, Bool, true, false, if◌then◌else◌, nat_lt, nat_le, List, [], ◌∷◌, length, Option, Some, None, refl, sym, ap, ap₂, ◌∙◌, subst, inl, inr, arith}
use Rattle.std.proofs.Math.Nat.{mod-eq_of_lt}
use Rattle.std.proofs.lemmas.Bool.{cases_lt, lt-ltb, le-ltb, le-leb, lt-leb, and_from, and_left, and_right}
use Rattle.std.proofs.lemmas.List.Elements.{All-nil, All-cons, All-head, All-tail}
use Rattle.std.proofs.lemmas.Nat.{mod-mul-add, div-add-mod'}
use Rattle.std.proofs.lemmas.Option.{none-some, same_Some}
use Rattle.kb_word.specs.Relations.{IsOver}
use Rattle.kb_fsa.specs.PairSymbols.{pair_symbol, pads_first, pads_second}
use Rattle.kb_fsa.specs.Padding.{padded, IsPadded, IsTextOfPair}
use Rattle.kb_fsa.specs.declared.alphabet.Alphabet.{Alphabet}
use Rattle.kb_fsa.specs.declared.alphabet.Alphabet.TheVariants.{Plain, Pair}
use Rattle.kb_fsa.specs.Language.{IsTextOf, symbols}
use Rattle.kb_fsa.specs.Counted.{FirstEnds, SecondEnds, EndAlike}
use Rattle.kb_fsa.proofs.PairSymbolLaws.{IsLetter, IsPairSymbol, IsPairSymbol-first, IsPairSymbol-second, last_row, last_column, pads_first-padding, pads_first-letter, pads_second-padding, pads_second-letter, SymbolCase, two_letters, first_padded, second_padded, symbol_case}
use Rattle.kb_fsa.proofs.Paddings.{IsPadded-from_pair, IsTextOfPair-nil, IsTextOfPair-first, IsTextOfPair-second, IsPadded-letters}
use Rattle.kb_fsa.specs.declared.ended.Ended.{Ended}
use Rattle.kb_fsa.specs.declared.ended.Ended.TheVariants.{Neither, First, Second}
use Rattle.kb_fsa.specs.EndedWords.{word_padded, ended_next, is_symbol, ended_after, ended_by, first_after, stride_after, IsInStride}

-- ---- symbols

-- which word is padded, by which letters are the padding
padded_by : Bool → Bool → Ended
padded_by first second = if first then First else (if second then Second else Neither)

word_padded-letters : (n symbol : ℕ) (first second : Bool) → pads_first n symbol ≡ first → pads_second n symbol ≡ second
    → word_padded n symbol ≡ padded_by first second
unfolding padded_by
word_padded-letters n symbol first second one two = ap₂ padded_by one two

-- what the symbol of a pair of letters, or of one and the padding, pads
first_pads : (n symbol y : ℕ) → IsLetter n y → symbol ≡ pair_symbol n (n + 1) y → word_padded n symbol ≡ First
unfolding padded_by
first_pads n symbol y letter is =
    word_padded-letters n symbol true false (pads_first-padding n symbol (n + 1) y is refl (letter.0, omega (arith, letter.1)))
    (pads_second-letter n symbol (n + 1) y is letter)

second_pads : (n symbol x : ℕ) → IsLetter n x → symbol ≡ pair_symbol n x (n + 1) → word_padded n symbol ≡ Second
unfolding padded_by
second_pads n symbol x letter is =
    word_padded-letters n symbol false true (pads_first-letter n symbol x (n + 1) is letter (omega arith, omega arith))
    (pads_second-padding n symbol x (n + 1) is refl)

none_pads : (n symbol x y : ℕ) → IsLetter n x → IsLetter n y → symbol ≡ pair_symbol n x y → word_padded n symbol ≡ Neither
unfolding padded_by
none_pads n symbol x y first second is =
    word_padded-letters n symbol false false (pads_first-letter n symbol x y is first (second.0, omega (arith, second.1)))
    (pads_second-letter n symbol x y is second)

-- whether a number is that of a symbol
symbol_true : (alphabet : Alphabet) (symbol : ℕ) → 0 < symbol → symbol ≤ symbols alphabet → is_symbol alphabet symbol ≡ true
symbol_true alphabet symbol positive low = and_from (nat_lt 0 symbol) (nat_le symbol (symbols alphabet)) (lt-ltb 0 symbol positive) (le-leb symbol (symbols alphabet) low)

symbol_false : (alphabet : Alphabet) (symbol : ℕ) → ¬ ((0 < symbol) × (symbol ≤ symbols alphabet)) → is_symbol alphabet symbol ≡ false
symbol_false alphabet symbol foreign =
    elim (cases_lt 0 symbol) [
      | inl positive ↦ elim (cases_lt (symbols alphabet) symbol) [
        | inl above ↦ and_right (nat_lt 0 symbol) (nat_le symbol (symbols alphabet)) (lt-leb symbol (symbols alphabet) above)
        | inr low ↦ absurd (foreign (positive, low))
      ]
      | inr none ↦ and_left (nat_lt 0 symbol) (nat_le symbol (symbols alphabet)) (le-ltb 0 symbol none)
    ]

-- what may follow
pub plain_after : (n : ℕ) (ended : Ended) (symbol : ℕ) → (0 < symbol) × (symbol ≤ n) → ended_after (Plain n) ended symbol ≡ Some Neither
plain_after n ended symbol is = ap (λ (b : Bool). if b then Some Neither else None) (symbol_true (Plain n) symbol is.0 is.1)

pub pair_after : (n : ℕ) (ended : Ended) (symbol : ℕ) → IsPairSymbol n symbol → ended_after (Pair n) ended symbol ≡ ended_next ended (word_padded n symbol)
pair_after n ended symbol is =
    ap (λ (b : Bool). if b then ended_next ended (word_padded n symbol) else None) (symbol_true (Pair n) symbol is.0 is.1)

pub none_foreign : (alphabet : Alphabet) (ended : Ended) (symbol : ℕ) → ¬ ((0 < symbol) × (symbol ≤ symbols alphabet))
    → ended_after alphabet ended symbol ≡ None
none_foreign (Plain n) ended symbol foreign = ap (λ (b : Bool). if b then Some Neither else None) (symbol_false (Plain n) symbol foreign)
none_foreign (Pair n) ended symbol foreign =
    ap (λ (b : Bool). if b then ended_next ended (word_padded n symbol) else None) (symbol_false (Pair n) symbol foreign)

-- what follows is a symbol
pub symbol_of_after : (alphabet : Alphabet) (ended : Ended) (symbol : ℕ) (next : Ended) → ended_after alphabet ended symbol ≡ Some next
    → (0 < symbol) × (symbol ≤ symbols alphabet)
symbol_of_after alphabet ended symbol next is =
    elim (cases_lt 0 symbol) [
      | inl positive ↦ elim (cases_lt (symbols alphabet) symbol) [
        | inl above ↦ absurd (none-some next (sym (none_foreign alphabet ended symbol (λ low. omega (arith, low.1))) ∙ is))
        | inr low ↦ (positive, low)
      ]
      | inr none ↦ absurd (none-some next (sym (none_foreign alphabet ended symbol (λ low. omega (arith, low.0))) ∙ is))
    ]

-- ---- runs along padded texts

-- which of two words has ended first
pub ended_of : List ℕ → List ℕ → Ended
ended_of [] [] = Neither
ended_of (x ∷ u) [] = Second
ended_of [] (y ∷ v) = First
ended_of (x ∷ u) (y ∷ v) = ended_of u v

-- one step of a run
run_more : (n : ℕ) (ended next : Ended) (symbol : ℕ) (text : List ℕ) → IsPairSymbol n symbol → ended_next ended (word_padded n symbol) ≡ Some next
    → ended_by (Pair n) (Some ended) (symbol ∷ text) ≡ ended_by (Pair n) (Some next) text
run_more n ended next symbol text is follows = ap (λ o. ended_by (Pair n) o text) (pair_after n ended symbol is ∙ follows)

run_first : (n : ℕ) (v : List ℕ) → IsOver n v → ended_by (Pair n) (Some First) (padded n [] v) ≡ Some First
run_first n [] over = refl
run_first n (y ∷ v) over =
    let P = λ (letter : ℕ). (0 < letter) × (letter ≤ n) in
    let letter = All-head P y v over in
    run_more n First First (pair_symbol n (n + 1) y) (padded n [] v) (IsPairSymbol-second n (n + 1) y (omega arith, omega arith) letter)
    (ap (ended_next First) (first_pads n (pair_symbol n (n + 1) y) y letter refl))
    ∙ run_first n v (All-tail P y v over)

run_second : (n : ℕ) (u : List ℕ) → IsOver n u → ended_by (Pair n) (Some Second) (padded n u []) ≡ Some Second
run_second n [] over = refl
run_second n (x ∷ u) over =
    let P = λ (letter : ℕ). (0 < letter) × (letter ≤ n) in
    let letter = All-head P x u over in
    run_more n Second Second (pair_symbol n x (n + 1)) (padded n u []) (IsPairSymbol-first n x (n + 1) letter (omega arith, omega arith))
    (ap (ended_next Second) (second_pads n (pair_symbol n x (n + 1)) x letter refl))
    ∙ run_second n u (All-tail P x u over)

pub run_padded : (n : ℕ) (u v : List ℕ) → IsOver n u → IsOver n v → ended_by (Pair n) (Some Neither) (padded n u v) ≡ Some (ended_of u v)
unfolding ended_of
run_padded n [] [] first second = refl
run_padded n (x ∷ u) [] first second =
    let P = λ (letter : ℕ). (0 < letter) × (letter ≤ n) in
    let letter = All-head P x u first in
    run_more n Neither Second (pair_symbol n x (n + 1)) (padded n u []) (IsPairSymbol-first n x (n + 1) letter (omega arith, omega arith))
    (ap (ended_next Neither) (second_pads n (pair_symbol n x (n + 1)) x letter refl))
    ∙ run_second n u (All-tail P x u first)
run_padded n [] (y ∷ v) first second =
    let P = λ (letter : ℕ). (0 < letter) × (letter ≤ n) in
    let letter = All-head P y v second in
    run_more n Neither First (pair_symbol n (n + 1) y) (padded n [] v) (IsPairSymbol-second n (n + 1) y (omega arith, omega arith) letter)
    (ap (ended_next Neither) (first_pads n (pair_symbol n (n + 1) y) y letter refl))
    ∙ run_first n v (All-tail P y v second)
run_padded n (x ∷ u) (y ∷ v) first second =
    let P = λ (letter : ℕ). (0 < letter) × (letter ≤ n) in
    let one = All-head P x u first in
    let two = All-head P y v second in
    run_more n Neither Neither (pair_symbol n x y) (padded n u v) (IsPairSymbol-first n x y one (two.0, omega arith))
    (ap (ended_next Neither) (none_pads n (pair_symbol n x y) x y one two refl))
    ∙ run_padded n u v (All-tail P x u first) (All-tail P y v second)

-- ---- texts along which a run goes

run_none : (alphabet : Alphabet) (text : List ℕ) → ended_by alphabet None text ≡ None
run_none alphabet [] = refl
run_none alphabet (symbol ∷ text) = refl

-- what the symbol does where it may follow
module _ (n symbol : ℕ) (text : List ℕ) (ended final : Ended) (runs : ended_by (Pair n) (Some ended) (symbol ∷ text) ≡ Some final) where
  runs_on : (o : Option Ended) → ended_after (Pair n) ended symbol ≡ o
      → (next : Ended) × ((ended_after (Pair n) ended symbol ≡ Some next) × (ended_by (Pair n) (Some next) text ≡ Some final))
  runs_on None is = absurd (none-some final (sym (run_none (Pair n) text) ∙ sym (ap (λ o. ended_by (Pair n) o text) is) ∙ runs))
  runs_on (Some next) is = (next, (is, sym (ap (λ o. ended_by (Pair n) o text) is) ∙ runs))

  pub goes_on : (next : Ended) × (IsPairSymbol n symbol × ((ended_next ended (word_padded n symbol) ≡ Some next) × (ended_by (Pair n) (Some next) text ≡ Some final)))
  goes_on =
      let on = runs_on (ended_after (Pair n) ended symbol) refl in
      let is = symbol_of_after (Pair n) ended symbol on.0 on.1.0 in
      (on.0, (is, (sym (pair_after n ended symbol is) ∙ on.1.0, on.1.1)))

-- after the first word has ended the text is that of a second word, and after the second that of a first
pub text_of_second : (n : ℕ) (text : List ℕ) (final : Ended) → ended_by (Pair n) (Some First) text ≡ Some final
    → (second : List ℕ) × IsTextOfPair n text [] second
text_of_second n [] final runs = ([], IsTextOfPair-nil n)
text_of_second n (symbol ∷ text) final runs =
    let on = goes_on n symbol text First final runs in
    by on.0 on.1.1.0 on.1.1.1 (λ (is_first : on.0 ≡ First).
    let P : Ended → Type 0 = λ e. ended_by (Pair n) (Some e) text ≡ Some final in
    text_of_second n text final (subst P is_first on.1.1.1))
    (symbol_case n symbol on.1.0)
  where
    by : (next : Ended) → ended_next First (word_padded n symbol) ≡ Some next → ended_by (Pair n) (Some next) text ≡ Some final
        → (next ≡ First → (second : List ℕ) × IsTextOfPair n text [] second) → SymbolCase n symbol
        → (second : List ℕ) × IsTextOfPair n (symbol ∷ text) [] second
    by next follows rest along (first_padded y letter is) =
        let tail = along (sym (same_Some _ _ (sym (ap (ended_next First) (first_pads n symbol y letter is)) ∙ follows))) in
        (y ∷ tail.0, IsTextOfPair-second letter is tail.1)
    by next follows rest along (second_padded x letter is) =
        absurd (none-some next (sym (ap (ended_next First) (second_pads n symbol x letter is)) ∙ follows))
    by next follows rest along (two_letters x y one two is) =
        absurd (none-some next (sym (ap (ended_next First) (none_pads n symbol x y one two is)) ∙ follows))

pub text_of_first : (n : ℕ) (text : List ℕ) (final : Ended) → ended_by (Pair n) (Some Second) text ≡ Some final
    → (first : List ℕ) × IsTextOfPair n text first []
text_of_first n [] final runs = ([], IsTextOfPair-nil n)
text_of_first n (symbol ∷ text) final runs =
    let on = goes_on n symbol text Second final runs in
    by on.0 on.1.1.0 on.1.1.1 (λ (is_second : on.0 ≡ Second).
    let P : Ended → Type 0 = λ e. ended_by (Pair n) (Some e) text ≡ Some final in
    text_of_first n text final (subst P is_second on.1.1.1))
    (symbol_case n symbol on.1.0)
  where
    by : (next : Ended) → ended_next Second (word_padded n symbol) ≡ Some next → ended_by (Pair n) (Some next) text ≡ Some final
        → (next ≡ Second → (first : List ℕ) × IsTextOfPair n text first []) → SymbolCase n symbol
        → (first : List ℕ) × IsTextOfPair n (symbol ∷ text) first []
    by next follows rest along (second_padded x letter is) =
        let tail = along (sym (same_Some _ _ (sym (ap (ended_next Second) (second_pads n symbol x letter is)) ∙ follows))) in
        (x ∷ tail.0, IsTextOfPair-first letter is tail.1)
    by next follows rest along (first_padded y letter is) =
        absurd (none-some next (sym (ap (ended_next Second) (first_pads n symbol y letter is)) ∙ follows))
    by next follows rest along (two_letters x y one two is) =
        absurd (none-some next (sym (ap (ended_next Second) (none_pads n symbol x y one two is)) ∙ follows))

pub padded_of_run : (n : ℕ) (text : List ℕ) (final : Ended) → ended_by (Pair n) (Some Neither) text ≡ Some final → IsPadded n text
padded_of_run n [] final runs = IsPadded-from_pair (IsTextOfPair-nil n)
padded_of_run n (symbol ∷ text) final runs =
    let on = goes_on n symbol text Neither final runs in
    by on.0 on.1.1.0 on.1.1.1 (λ (is_neither : on.0 ≡ Neither).
    let P : Ended → Type 0 = λ e. ended_by (Pair n) (Some e) text ≡ Some final in
    padded_of_run n text final (subst P is_neither on.1.1.1))
    (symbol_case n symbol on.1.0)
  where
    by : (next : Ended) → ended_next Neither (word_padded n symbol) ≡ Some next → ended_by (Pair n) (Some next) text ≡ Some final
        → (next ≡ Neither → IsPadded n text) → SymbolCase n symbol → IsPadded n (symbol ∷ text)
    by next follows rest along (first_padded y letter is) =
        let P : Ended → Type 0 = λ e. ended_by (Pair n) (Some e) text ≡ Some final in
        let tail = text_of_second n text final (subst P (sym (same_Some _ _ follows) ∙ first_pads n symbol y letter is) rest) in
        IsPadded-from_pair (IsTextOfPair-second letter is tail.1)
    by next follows rest along (second_padded x letter is) =
        let P : Ended → Type 0 = λ e. ended_by (Pair n) (Some e) text ≡ Some final in
        let tail = text_of_first n text final (subst P (sym (same_Some _ _ follows) ∙ second_pads n symbol x letter is) rest) in
        IsPadded-from_pair (IsTextOfPair-first letter is tail.1)
    by next follows rest along (two_letters x y one two is) =
        IsPadded-letters one two is (along (sym (same_Some _ _ follows) ∙ none_pads n symbol x y one two is))

-- ---- plain texts

run_plain : (n : ℕ) (ended : Ended) (text : List ℕ) → IsOver n text → ended_by (Plain n) (Some Neither) text ≡ Some Neither
run_plain n ended [] over = refl
run_plain n ended (symbol ∷ text) over =
    let P = λ (letter : ℕ). (0 < letter) × (letter ≤ n) in
    ap (λ o. ended_by (Plain n) o text) (plain_after n Neither symbol (All-head P symbol text over))
    ∙ run_plain n ended text (All-tail P symbol text over)

over_of_run : (n : ℕ) (ended : Ended) (text : List ℕ) (final : Ended) → ended_by (Plain n) (Some ended) text ≡ Some final → IsOver n text
over_of_run n ended [] final runs = All-nil (IsLetter n)
over_of_run n ended (symbol ∷ text) final runs =
    on (ended_after (Plain n) ended symbol) refl (λ next along. over_of_run n next text final along)
  where
    on : (o : Option Ended) → ended_after (Plain n) ended symbol ≡ o
        → ((next : Ended) → ended_by (Plain n) (Some next) text ≡ Some final → IsOver n text) → IsOver n (symbol ∷ text)
    on None is along = absurd (none-some final (sym (run_none (Plain n) text) ∙ sym (ap (λ o. ended_by (Plain n) o text) is) ∙ runs))
    on (Some next) is along =
        All-cons (IsLetter n) symbol text (symbol_of_after (Plain n) ended symbol next is) (along next (sym (ap (λ o. ended_by (Plain n) o text) is) ∙ runs))

-- ---- texts of the alphabet

-- a text is one of the alphabet exactly where a run goes along it
pub run_of_text : (alphabet : Alphabet) (text : List ℕ) → IsTextOf alphabet text
    → (ended : Ended) × (ended_by alphabet (Some Neither) text ≡ Some ended)
run_of_text (Plain n) text over = (Neither, run_plain n Neither text over)
run_of_text (Pair n) text is = (
  ended_of is.first is.second,
  ap (ended_by (Pair n) (Some Neither)) is.is_text ∙ run_padded n is.first is.second is.first_over is.second_over,
)

pub text_of_run : (alphabet : Alphabet) (text : List ℕ) (ended : Ended) → ended_by alphabet (Some Neither) text ≡ Some ended
    → IsTextOf alphabet text
text_of_run (Plain n) text ended runs = over_of_run n Neither text ended runs
text_of_run (Pair n) text ended runs = padded_of_run n text ended runs

-- ---- which word has ended

-- the shorter word has ended
ended_first : (u v : List ℕ) → (ended_of u v ≡ First) ↔ (length u < length v)
unfolding ended_of
ended_first [] [] = ((λ e. absurd (let no : ⊥ = cc in no)), λ less. absurd (let no : ⊥ = omega arith in no))
ended_first (x ∷ u) [] = ((λ e. absurd (let no : ⊥ = cc in no)), λ less. absurd (let no : ⊥ = omega arith in no))
ended_first [] (y ∷ v) = ((λ e. omega arith), λ less. refl)
ended_first (x ∷ u) (y ∷ v) = let rest = ended_first u v in ((λ e. omega (arith, rest.0 e)), λ less. rest.1 (omega arith))

ended_second : (u v : List ℕ) → (ended_of u v ≡ Second) ↔ (length v < length u)
unfolding ended_of
ended_second [] [] = ((λ e. absurd (let no : ⊥ = cc in no)), λ less. absurd (let no : ⊥ = omega arith in no))
ended_second (x ∷ u) [] = ((λ e. omega arith), λ less. refl)
ended_second [] (y ∷ v) = ((λ e. absurd (let no : ⊥ = cc in no)), λ less. absurd (let no : ⊥ = omega arith in no))
ended_second (x ∷ u) (y ∷ v) = let rest = ended_second u v in ((λ e. omega (arith, rest.0 e)), λ less. rest.1 (omega arith))

module _ (n : ℕ) (text : List ℕ) where
  first_ends : FirstEnds n text ↔ (ended_by (Pair n) (Some Neither) text ≡ Some First)
  first_ends = (
    λ ends.
        ap (ended_by (Pair n) (Some Neither)) ends.is_text ∙ run_padded n ends.first ends.second ends.first_over ends.second_over
        ∙ ap (λ e. Some e) ((ended_first ends.first ends.second).1 ends.shorter),
    λ runs.
        let is = padded_of_run n text First runs in
        let along = ap (ended_by (Pair n) (Some Neither)) is.is_text ∙ run_padded n is.first is.second is.first_over is.second_over in
        record {
          first = is.first;
          second = is.second;
          first_over = is.first_over;
          second_over = is.second_over;
          is_text = is.is_text;
          shorter = (ended_first is.first is.second).0 (same_Some _ _ (sym along ∙ runs));
        },
  )

  second_ends : SecondEnds n text ↔ (ended_by (Pair n) (Some Neither) text ≡ Some Second)
  second_ends = (
    λ ends.
        ap (ended_by (Pair n) (Some Neither)) ends.is_text ∙ run_padded n ends.first ends.second ends.first_over ends.second_over
        ∙ ap (λ e. Some e) ((ended_second ends.first ends.second).1 ends.shorter),
    λ runs.
        let is = padded_of_run n text Second runs in
        let along = ap (ended_by (Pair n) (Some Neither)) is.is_text ∙ run_padded n is.first is.second is.first_over is.second_over in
        record {
          first = is.first;
          second = is.second;
          first_over = is.first_over;
          second_over = is.second_over;
          is_text = is.is_text;
          shorter = (ended_second is.first is.second).0 (same_Some _ _ (sym along ∙ runs));
        },
  )

-- runs with one end are those of texts in which the same word has ended
pub alike_of_runs : (alphabet : Alphabet) (text other : List ℕ)
    → ended_by alphabet (Some Neither) text ≡ ended_by alphabet (Some Neither) other → EndAlike alphabet text other
alike_of_runs (Plain n) text other same = tt
alike_of_runs (Pair n) text other same = (
  ((λ ends. (first_ends n other).1 (sym same ∙ (first_ends n text).0 ends)), λ ends. (first_ends n text).1 (same ∙ (first_ends n other).0 ends)),
  ((λ ends. (second_ends n other).1 (sym same ∙ (second_ends n text).0 ends)), λ ends. (second_ends n text).1 (same ∙ (second_ends n other).0 ends)),
)

pub runs_of_alike : (alphabet : Alphabet) (text other : List ℕ) (one two : Ended) → ended_by alphabet (Some Neither) text ≡ Some one
    → ended_by alphabet (Some Neither) other ≡ Some two → EndAlike alphabet text other → one ≡ two
runs_of_alike (Plain n) text other one two here there alike = plain n text one here ∙ sym (plain n other two there)
  where
    plain : (m : ℕ) (word : List ℕ) (ended : Ended) → ended_by (Plain m) (Some Neither) word ≡ Some ended → ended ≡ Neither
    plain m word ended runs = same_Some _ _ (sym runs ∙ run_plain m Neither word (over_of_run m Neither word ended runs))
runs_of_alike (Pair n) text other one First here there alike =
    same_Some _ _ (sym here ∙ (first_ends n text).0 (alike.0.1 ((first_ends n other).1 there)))
runs_of_alike (Pair n) text other one Second here there alike =
    same_Some _ _ (sym here ∙ (second_ends n text).0 (alike.1.1 ((second_ends n other).1 there)))
runs_of_alike (Pair n) text other First Neither here there alike =
    same_Some _ _ (sym ((first_ends n other).0 (alike.0.0 ((first_ends n text).1 here))) ∙ there)
runs_of_alike (Pair n) text other Second Neither here there alike =
    same_Some _ _ (sym ((second_ends n other).0 (alike.1.0 ((second_ends n text).1 here))) ∙ there)
runs_of_alike (Pair n) text other Neither Neither here there alike = refl

-- ---- symbols by strides

-- a word that has ended stays so
only_first : (n symbol : ℕ) → symbol ≤ (n + 1) * n → IsPairSymbol n symbol → ended_next First (word_padded n symbol) ≡ None
only_first n symbol low is = by (symbol_case n symbol is)
  where
    by : SymbolCase n symbol → ended_next First (word_padded n symbol) ≡ None
    by (two_letters x y one two same) = ap (ended_next First) (none_pads n symbol x y one two same)
    by (first_padded y letter same) = absurd (let row = last_row n y in let some = letter.0 in let no : ⊥ = omega arith in no)
    by (second_padded x letter same) = ap (ended_next First) (second_pads n symbol x letter same)

only_second : (n symbol : ℕ) → symbol % (n + 1) ≢ 0 → IsPairSymbol n symbol → ended_next Second (word_padded n symbol) ≡ None
only_second n symbol inner is = by (symbol_case n symbol is)
  where
    by : SymbolCase n symbol → ended_next Second (word_padded n symbol) ≡ None
    by (two_letters x y one two same) = ap (ended_next Second) (none_pads n symbol x y one two same)
    by (first_padded y letter same) = ap (ended_next Second) (first_pads n symbol y letter same)
    by (second_padded x letter same) = absurd (inner (ap (λ s. s % (n + 1)) same ∙ last_column n x letter.0))

none_where : (n : ℕ) (ended : Ended) (symbol : ℕ) → (IsPairSymbol n symbol → ended_next ended (word_padded n symbol) ≡ None)
    → ended_after (Pair n) ended symbol ≡ None
none_where n ended symbol none =
    elim (cases_lt 0 symbol) [
      | inl positive ↦ elim (cases_lt (symbols (Pair n)) symbol) [
        | inl above ↦ none_foreign (Pair n) ended symbol (λ is. omega (arith, is.1))
        | inr low ↦ pair_after n ended symbol (positive, low) ∙ none (positive, low)
      ]
      | inr least ↦ none_foreign (Pair n) ended symbol (λ is. omega (arith, is.0))
    ]

low_column : (n symbol : ℕ) → symbol < pair_symbol n 1 (n + 1) → symbol < n + 1
low_column n symbol less = omega arith

-- none before the first may follow
pub none_before : (alphabet : Alphabet) (ended : Ended) (symbol : ℕ) → symbol < first_after alphabet ended → ended_after alphabet ended symbol ≡ None
none_before (Plain n) ended symbol less = none_foreign (Plain n) ended symbol (λ is. omega (arith, is.0))
none_before (Pair n) Neither symbol less = none_foreign (Pair n) Neither symbol (λ is. omega (arith, is.0))
none_before (Pair n) First symbol less =
    let row = last_row n 1 in none_where n First symbol (λ is. only_first n symbol (omega arith) is)
none_before (Pair n) Second symbol less =
    none_where n Second symbol (λ is. only_second n symbol (λ last. let own = mod-eq_of_lt (low_column n symbol less) in omega (arith, is.0)) is)

pub first_in_stride : (alphabet : Alphabet) (ended : Ended) → IsInStride alphabet ended (first_after alphabet ended)
first_in_stride (Plain n) ended = omega arith
first_in_stride (Pair n) Neither = omega arith
first_in_stride (Pair n) First = let row = last_row n 1 in omega arith
first_in_stride (Pair n) Second = (omega arith, last_column n 1 (omega arith))

-- nor may one between two neighbours
pub none_between : (alphabet : Alphabet) (ended : Ended) (symbol other : ℕ) → IsInStride alphabet ended symbol → symbol < other
    → other < symbol + stride_after alphabet ended → ended_after alphabet ended other ≡ None
none_between (Plain n) ended symbol other is more less = absurd (let no : ⊥ = omega arith in no)
none_between (Pair n) Neither symbol other is more less = absurd (let no : ⊥ = omega arith in no)
none_between (Pair n) First symbol other is more less = absurd (let no : ⊥ = omega arith in no)
none_between (Pair n) Second symbol other is more less =
    let parts = div-add-mod' symbol (n + 1) in
    let remainder = mod-mul-add (symbol / (n + 1)) (n + 1) (other - symbol) (omega arith) in
    let place : (symbol / (n + 1)) * (n + 1) + (other - symbol) ≡ other = omega (arith, is.1) in
    let left = sym (ap (λ s. s % (n + 1)) place) ∙ remainder in
    none_where n Second other (λ there. only_second n other (λ last. omega arith) there)

pub next_in_stride : (alphabet : Alphabet) (ended : Ended) (symbol : ℕ) → IsInStride alphabet ended symbol
    → IsInStride alphabet ended (symbol + stride_after alphabet ended)
next_in_stride (Plain n) ended symbol is = omega arith
next_in_stride (Pair n) Neither symbol is = omega arith
next_in_stride (Pair n) First symbol is = omega arith
next_in_stride (Pair n) Second symbol is =
    let parts = div-add-mod' symbol (n + 1) in
    let remainder = mod-mul-add (symbol / (n + 1) + 1) (n + 1) 0 (omega arith) in
    let split : (symbol / (n + 1) + 1) * (n + 1) ≡ (symbol / (n + 1)) * (n + 1) + (n + 1) = grind arith in
    let place : (symbol / (n + 1) + 1) * (n + 1) + 0 ≡ symbol + (n + 1) = omega (arith, is.1) in
    (omega (arith, is.0), sym (ap (λ s. s % (n + 1)) place) ∙ remainder)

pub stride_positive : (alphabet : Alphabet) (ended : Ended) → 0 < stride_after alphabet ended
stride_positive (Plain n) ended = omega arith
stride_positive (Pair n) Neither = omega arith
stride_positive (Pair n) First = omega arith
stride_positive (Pair n) Second = omega arith
