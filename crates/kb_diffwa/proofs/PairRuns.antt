-- Texts along which the machine of pairs goes: they are those of pairs of words whose tracks and differences go on.
use Rattle.std.proofs.Common.{◌≡◌, ℕ, zero, suc, ◌+◌, ◌<◌, ◌≤◌, Bool, if◌then◌else◌, nat_le, nat_lt, List, [], ◌∷◌, Option, Some, None, refl, sym, ap, ◌∙◌, subst, inl, inr, arith}
use Rattle.std.proofs.lemmas.Bool.{and_parts, cases_Bool, leb-true, ltb-true}
use Rattle.std.proofs.lemmas.List.Elements.{All-cons, All-head, All-tail}
use Rattle.std.proofs.lemmas.Option.{none-some, same_Some}
use Rattle.kb_word.specs.Relations.{IsOver}
use Rattle.kb_fsa.specs.Table.{Table, IsTable, HasSymbols, lookup}
use Rattle.kb_fsa.specs.Padding.{IsTextOfPair, padded}
use Rattle.kb_fsa.specs.PairSymbols.{first_letter, pair_symbol, pair_symbols, second_letter}
use Rattle.kb_fsa.specs.EndedWords.{is_symbol}
use Rattle.kb_fsa.specs.declared.alphabet.Alphabet.TheVariants.{Pair}
use Rattle.kb_fsa.proofs.PairSymbolLaws.{IsLetter, IsPairSymbol, IsPairSymbol-first, IsPairSymbol-second, SymbolCase, first_letter-pair_symbol, first_padded, second_letter-pair_symbol, second_padded, symbol_case, two_letters}
use Rattle.kb_fsa.proofs.Paddings.{IsTextOfPair-first, IsTextOfPair-nil, IsTextOfPair-second}
use Rattle.kb_explore.specs.Machine.{Machine, lead}
use Rattle.kb_diffwa.specs.declared.place.Place.{Place}
use Rattle.kb_diffwa.specs.Tracks.{track_moves}
use Rattle.kb_diffwa.specs.Pairs.{both_placed, pairs}
use Rattle.kb_diff.proofs.StepRuns.{StepRun, steps_both, steps_end, steps_first, steps_second}
use Rattle.kb_diffwa.proofs.TrackMoves.{symbol_true}
use Rattle.kb_diffwa.proofs.TrackRuns.{TrackRun, ended_run, padding_moved, run_both, run_end, run_longer, run_padding}

-- the text is that of two words whose tracks and differences lead from one place to another
pub record PairRun (table : Table) (n : ℕ) (step : ℕ → ℕ → ℕ → ℕ) (place : Place) (text : List ℕ) (final : Place) : Type 0 where
  pub first : List ℕ
  pub second : List ℕ
  pub is_text : IsTextOfPair n text first second
  pub one : TrackRun table n place.first first second final.first
  pub two : TrackRun table n place.second second first final.second
  pub steps : StepRun step n place.difference first second final.difference

-- two letters lead from one place to the next
record IsLed (table : Table) (n : ℕ) (step : ℕ → ℕ → ℕ → ℕ) (place next : Place) (a b : ℕ) : Type 0 where
  one : lookup (track_moves table n place.first) a ≡ Some next.first
  two : lookup (track_moves table n place.second) b ≡ Some next.second
  index : ℕ
  steps : step place.difference a b ≡ suc index
  number : next.difference ≡ suc index

-- ---- places

record ArePlaced (one two : Option ℕ) (d : ℕ) (next : Place) : Type 0 where
  first : one ≡ Some next.first
  second : two ≡ Some next.second
  index : ℕ
  steps : d ≡ suc index
  number : next.difference ≡ suc index

are_placed : (one two : Option ℕ) (d : ℕ) (next : Place) → both_placed one two d ≡ Some next → ArePlaced one two d next
are_placed None two d next is = absurd (none-some next is)
are_placed (Some p) None d next is = absurd (none-some next is)
are_placed (Some p) (Some q) zero next is = absurd (none-some next is)
are_placed (Some p) (Some q) (suc index) next is =
    let same = same_Some _ _ is in record {
      first = ap (λ (place : Place). Some place.first) same;
      second = ap (λ (place : Place). Some place.second) same;
      index = index;
      steps = refl;
      number = sym (ap (λ (place : Place). place.difference) same);
    }

lead_none : {S : Type 0} (machine : Machine S) (text : List ℕ) → lead machine None text ≡ None
lead_none machine [] = refl
lead_none machine (symbol ∷ text) = refl

IsTextOfPair-letters : {n symbol x y : ℕ} {text u v : List ℕ} → IsLetter n x → IsLetter n y → symbol ≡ pair_symbol n x y
    → IsTextOfPair n text u v → IsTextOfPair n (symbol ∷ text) (x ∷ u) (y ∷ v)
IsTextOfPair-letters {n} {symbol} {x} {y} {text} {u} {v} one two same is = record {
  first_over = All-cons (IsLetter n) x u one is.first_over;
  second_over = All-cons (IsLetter n) y v two is.second_over;
  is_text = ap (λ s. s ∷ text) same ∙ ap (λ t. pair_symbol n x y ∷ t) is.is_text;
}

module _ (table : Table) (n : ℕ) (step : ℕ → ℕ → ℕ → ℕ) (targets : List ℕ) (is : IsTable table) (low : HasSymbols n table) where
  abbrev machine : Machine Place
  machine = pairs table n step targets

  -- where the letters of a symbol lead from a place
  abbrev led : Place → ℕ → Option Place
  led place symbol = both_placed (lookup (track_moves table n place.first) (first_letter n symbol))
      (lookup (track_moves table n place.second) (second_letter n symbol))
      (step place.difference (first_letter n symbol) (second_letter n symbol))

  followed : (place next : Place) (symbol : ℕ) → machine.follow place symbol ≡ Some next
      → IsPairSymbol n symbol × IsLed table n step place next (first_letter n symbol) (second_letter n symbol)
  followed place next symbol leads =
      elim (cases_Bool (is_symbol (Pair n) symbol)) [
        | inl holds ↦
            let parts = and_parts (nat_lt 0 symbol) (nat_le symbol (pair_symbols n)) holds in
            let here = are_placed (lookup (track_moves table n place.first) (first_letter n symbol))
            (lookup (track_moves table n place.second) (second_letter n symbol))
            (step place.difference (first_letter n symbol) (second_letter n symbol)) next
            (sym (ap (λ (b : Bool). if b then led place symbol else None) holds) ∙ leads) in (
              (ltb-true 0 symbol parts.0, leb-true symbol (pair_symbols n) parts.1),
              record { one = here.first; two = here.second; index = here.index; steps = here.steps; number = here.number },
            )
        | inr fails ↦ absurd (none-some next (sym (ap (λ (b : Bool). if b then led place symbol else None) fails) ∙ leads))
      ]

  pad : (0 < n + 1) × (n + 1 ≤ n + 1)
  pad = (omega arith, omega arith)

  wide : (x : ℕ) → IsLetter n x → (0 < x) × (x ≤ n + 1)
  wide x letter = let most = letter.1 in (letter.0, omega arith)

  -- the letters of the symbol lead there
  letters_lead : (place next : Place) (symbol a b : ℕ) → symbol ≡ pair_symbol n a b → (0 < a) × (a ≤ n + 1) → (0 < b) × (b ≤ n + 1)
      → IsLed table n step place next (first_letter n symbol) (second_letter n symbol) → IsLed table n step place next a b
  letters_lead place next symbol a b same one two leads =
      let first = ap (first_letter n) same ∙ first_letter-pair_symbol n a b one.0 two in
      let second = ap (second_letter n) same ∙ second_letter-pair_symbol n a b two in
      let P : ℕ → Type 0 = λ z. IsLed table n step place next z (second_letter n symbol) in
      let Q : ℕ → Type 0 = λ z. IsLed table n step place next a z in
      subst Q second (subst P first leads)

  run_more : (place next final : Place) (symbol : ℕ) (text : List ℕ) → IsPairSymbol n symbol
      → IsLed table n step place next (first_letter n symbol) (second_letter n symbol) → PairRun table n step next text final
      → PairRun table n step place (symbol ∷ text) final
  run_more place next final symbol text is_one leads run = by (symbol_case n symbol is_one)
    where
      steps_on : (k : ℕ) (u v : List ℕ) → next.difference ≡ suc k → StepRun step n next.difference u v final.difference
          → StepRun step n (suc k) u v final.difference
      steps_on k u v same steps = let P : ℕ → Type 0 = λ z. StepRun step n z u v final.difference in subst P same steps

      by : SymbolCase n symbol → PairRun table n step place (symbol ∷ text) final
      by (two_letters x y one two same) =
          let at = letters_lead place next symbol x y same (wide x one) (wide y two) leads in record {
            first = x ∷ run.first;
            second = y ∷ run.second;
            is_text = IsTextOfPair-letters one two same run.is_text;
            one = run_both at.one run.one;
            two = run_both at.two run.two;
            steps = steps_both at.steps (steps_on at.index run.first run.second at.number run.steps);
          }
      by (second_padded x one same) =
          let at = letters_lead place next symbol x (n + 1) same (wide x one) pad leads in
          let ended = padding_moved table n is low place.second next.second at.two in
          let P : ℕ → Type 0 = λ z. TrackRun table n z run.second run.first final.second in
          let none = ended_run table n is low run.second run.first final.second run.is_text.second_over (subst P ended.1 run.two) in
          let empty : run.second ≡ [] = none.0 in
          let T : List ℕ → Type 0 = λ v. IsTextOfPair n text run.first v in
          let A : List ℕ → Type 0 = λ v. TrackRun table n next.first run.first v final.first in
          let B : List ℕ → Type 0 = λ v. TrackRun table n next.second v run.first final.second in
          let S : List ℕ → Type 0 = λ v. StepRun step n next.difference run.first v final.difference in
          record {
            first = x ∷ run.first;
            second = [];
            is_text = IsTextOfPair-first one same (subst T empty run.is_text);
            one = run_longer at.one (subst A empty run.one);
            two = run_padding at.two (subst B empty run.two);
            steps = steps_first at.steps (steps_on at.index run.first [] at.number (subst S empty run.steps));
          }
      by (first_padded y two same) =
          let at = letters_lead place next symbol (n + 1) y same pad (wide y two) leads in
          let ended = padding_moved table n is low place.first next.first at.one in
          let P : ℕ → Type 0 = λ z. TrackRun table n z run.first run.second final.first in
          let none = ended_run table n is low run.first run.second final.first run.is_text.first_over (subst P ended.1 run.one) in
          let empty : run.first ≡ [] = none.0 in
          let T : List ℕ → Type 0 = λ u. IsTextOfPair n text u run.second in
          let A : List ℕ → Type 0 = λ u. TrackRun table n next.first u run.second final.first in
          let B : List ℕ → Type 0 = λ u. TrackRun table n next.second run.second u final.second in
          let S : List ℕ → Type 0 = λ u. StepRun step n next.difference u run.second final.difference in
          record {
            first = [];
            second = y ∷ run.second;
            is_text = IsTextOfPair-second two same (subst T empty run.is_text);
            one = run_padding at.one (subst A empty run.one);
            two = run_longer at.two (subst B empty run.two);
            steps = steps_second at.steps (steps_on at.index [] run.second at.number (subst S empty run.steps));
          }

  -- where the machine goes along a text, it is that of two words that lead there
  pub run_of_lead : (text : List ℕ) (place final : Place) → lead machine (Some place) text ≡ Some final → PairRun table n step place text final
  run_of_lead [] place final leads =
      let P : Place → Type 0 = λ last. PairRun table n step place [] last in
      subst P (same_Some _ _ leads)
      (record { first = []; second = []; is_text = IsTextOfPair-nil n; one = run_end; two = run_end; steps = steps_end })
  run_of_lead (symbol ∷ text) place final leads =
      on (λ next along. run_of_lead text next final along) (machine.follow place symbol) refl
    where
      on : ((next : Place) → lead machine (Some next) text ≡ Some final → PairRun table n step next text final)
          → (o : Option Place) → machine.follow place symbol ≡ o → PairRun table n step place (symbol ∷ text) final
      on rest None none =
          absurd (none-some final (sym (lead_none machine text) ∙ sym (ap (λ o. lead machine o text) none) ∙ leads))
      on rest (Some next) some =
          let here = followed place next symbol some in
          run_more place next final symbol text here.0 here.1 (rest next (sym (ap (λ o. lead machine o text) some) ∙ leads))

  -- ---- and back

  goes_on : (p q d next other k a b symbol : ℕ) → IsPairSymbol n symbol → first_letter n symbol ≡ a → second_letter n symbol ≡ b
      → lookup (track_moves table n p) a ≡ Some next → lookup (track_moves table n q) b ≡ Some other → step d a b ≡ suc k
      → machine.follow (record { first = p; second = q; difference = d }) symbol ≡ Some (record { first = next; second = other; difference = suc k })
  goes_on p q d next other k a b symbol is_one first second one two steps =
      let place : Place = record { first = p; second = q; difference = d } in
      let firsts = track_moves table n p in
      let seconds = track_moves table n q in
      ap (λ (test : Bool). if test then led place symbol else None) (symbol_true n symbol is_one.0 is_one.1)
      ∙ ap (λ o. both_placed o (lookup seconds (second_letter n symbol)) (step d (first_letter n symbol) (second_letter n symbol)))
      (ap (lookup firsts) first ∙ one)
      ∙ ap (λ o. both_placed (Some next) o (step d (first_letter n symbol) (second_letter n symbol))) (ap (lookup seconds) second ∙ two)
      ∙ ap (λ e. both_placed (Some next) (Some other) e)
      (ap (λ z. step d z (second_letter n symbol)) first ∙ ap (λ z. step d a z) second ∙ steps)

  letter : (x : ℕ) (u : List ℕ) → IsOver n (x ∷ u) → IsLetter n x
  letter x u over = All-head (λ (z : ℕ). (0 < z) × (z ≤ n)) x u over

  over_rest : (x : ℕ) (u : List ℕ) → IsOver n (x ∷ u) → IsOver n u
  over_rest x u over = All-tail (λ (z : ℕ). (0 < z) × (z ≤ n)) x u over

  pub lead_of_run : (u v : List ℕ) (p q d p' q' d' : ℕ) → IsOver n u → IsOver n v → TrackRun table n p u v p' → TrackRun table n q v u q'
      → StepRun step n d u v d'
      → lead machine (Some (record { first = p; second = q; difference = d })) (padded n u v)
      ≡ Some (record { first = p'; second = q'; difference = d' })
  lead_of_run [] [] p q d p' q' d' over also run_end run_end steps_end = refl
  lead_of_run (x ∷ u) (y ∷ v) p q d p' q' d' over also (run_both {next = next} one on) (run_both {next = other} two more) (steps_both {k = k} steps rest) =
      let here = letter x u over in
      let there = letter y v also in
      let symbol = pair_symbol n x y in
      ap (λ o. lead machine o (padded n u v))
      (goes_on p q d next other k x y symbol (IsPairSymbol-first n x y here (wide y there))
      (first_letter-pair_symbol n x y here.0 (wide y there)) (second_letter-pair_symbol n x y (wide y there)) one two steps)
      ∙ lead_of_run u v next other (suc k) p' q' d' (over_rest x u over) (over_rest y v also) on more rest
  lead_of_run (x ∷ u) [] p q d p' q' d' over also (run_longer {next = next} one on) (run_padding {next = other} two more) (steps_first {k = k} steps rest) =
      let here = letter x u over in
      let symbol = pair_symbol n x (n + 1) in
      ap (λ o. lead machine o (padded n u []))
      (goes_on p q d next other k x (n + 1) symbol (IsPairSymbol-first n x (n + 1) here pad)
      (first_letter-pair_symbol n x (n + 1) here.0 pad) (second_letter-pair_symbol n x (n + 1) pad) one two steps)
      ∙ lead_of_run u [] next other (suc k) p' q' d' (over_rest x u over) also on more rest
  lead_of_run [] (y ∷ v) p q d p' q' d' over also (run_padding {next = next} one on) (run_longer {next = other} two more) (steps_second {k = k} steps rest) =
      let there = letter y v also in
      let symbol = pair_symbol n (n + 1) y in
      ap (λ o. lead machine o (padded n [] v))
      (goes_on p q d next other k (n + 1) y symbol (IsPairSymbol-second n (n + 1) y pad there)
      (first_letter-pair_symbol n (n + 1) y pad.0 (wide y there)) (second_letter-pair_symbol n (n + 1) y (wide y there)) one two steps)
      ∙ lead_of_run [] v next other (suc k) p' q' d' over (over_rest y v also) on more rest
