-- Words and the padded texts that they are the first words of.
use Rattle.std.proofs.Common.{◌≡◌, ◌≢◌, ℕ, zero, suc, ◌+◌, ◌-◌, ◌*◌, ◌<◌, ◌≤◌, max, Bool, List, [], ◌∷◌, ◌++◌, length, get_or, take, drop, refl, sym, ap, ◌∙◌, subst, inl, inr, arith, append-nil}
use Rattle.std.specs.List.{All, Contains, filter_map}
use Rattle.std.proofs.Math.ListN.{get_or-map}
use Rattle.std.proofs.lemmas.Bool.{cases_lt}
use Rattle.std.proofs.lemmas.List.{get_or_past, get_or_append_left, get_or_at, length-append, take_at, drop_at}
use Rattle.std.proofs.lemmas.List.Elements.{All-nil, All-cons, All-head, All-tail, All-get_or}
use Rattle.kb_word.specs.Relations.{IsOver}
use Rattle.kb_fsa.specs.Table.{Moves, Table, IsTable, HasSymbols, moves_of, step, after}
use Rattle.kb_fsa.specs.PairSymbols.{pair_symbol}
use Rattle.kb_fsa.specs.Padding.{padded, IsPadded}
use Rattle.kb_fsa.proofs.Lookups.{IsRow-moves_of, after_none, entry_from_lookup, lookup_from_entry, lookup_from_target, target_some}
use Rattle.kb_fsa.proofs.PairSymbolLaws.{first_letter-pair_symbol, pair_symbol-injective, with_second, first_within}
use Rattle.kb_fsa.proofs.Paddings.{length-padded, get_or-padded, letter_or_padding, same_from_padding}
use Rattle.kb_fsadet.specs.Nondeterministic.{LeadsFrom, moves_from}
use Rattle.kb_fsadet.specs.FirstWords.{by_first, first_words}
use Rattle.kb_fsadet.proofs.FirstWordLemmas.{from_by_first, by_first_from}
use Rattle.kb_fsadet.proofs.Endings.{known}

-- ---- the text of a word beside the numbers of letters or padding

IsColumn : ℕ → ℕ → Type 0
IsColumn n j = (0 < j) × (j ≤ n + 1)

beside : ℕ → List ℕ → List ℕ → List ℕ
beside n [] columns = []
beside n (i ∷ word) [] = []
beside n (i ∷ word) (j ∷ columns) = pair_symbol n i j ∷ beside n word columns

length-beside : (n : ℕ) (word columns : List ℕ) → length columns ≡ length word → length (beside n word columns) ≡ length word
unfolding beside
length-beside n [] columns long = refl
length-beside n (i ∷ word) [] long = omega arith
length-beside n (i ∷ word) (j ∷ columns) long = let rest = length-beside n word columns (omega arith) in omega arith

get_or-beside : (n : ℕ) (word columns : List ℕ) (place d : ℕ) → length columns ≡ length word → place < length word
    → get_or (beside n word columns) place d ≡ pair_symbol n (get_or word place (n + 1)) (get_or columns place (n + 1))
unfolding beside
get_or-beside n [] columns place d long within = absurd (let no : ⊥ = omega arith in no)
get_or-beside n (i ∷ word) [] place d long within = absurd (let no : ⊥ = omega arith in no)
get_or-beside n (i ∷ word) (j ∷ columns) zero d long within = refl
get_or-beside n (i ∷ word) (j ∷ columns) (suc place) d long within = get_or-beside n word columns place d (omega arith) (omega arith)

column_at : (n : ℕ) (columns : List ℕ) (place : ℕ) → All (IsColumn n) columns
    → (0 < get_or columns place (n + 1)) × (get_or columns place (n + 1) ≤ n + 1)
unfolding IsColumn
column_at n columns place each =
    elim (cases_lt place (length columns)) [
      | inl within ↦ All-get_or (λ j. (0 < j) × (j ≤ n + 1)) columns place (n + 1) within each
      | inr past ↦ let is = get_or_past columns place (n + 1) past in (omega arith, omega arith)
    ]

-- a second word, no longer than the first
record SecondBeside (n : ℕ) (word text : List ℕ) : Type 0 where
  second : List ℕ
  over : IsOver n second
  no_longer : length second ≤ length word
  is_text : text ≡ padded n word second

-- where such a text is padded, the columns are those of a second word
second_beside : (n : ℕ) (word columns : List ℕ) → IsOver n word → All (IsColumn n) columns → length columns ≡ length word
    → IsPadded n (beside n word columns) → SecondBeside n word (beside n word columns)
second_beside n word columns over each long whole =
    let count : max (length whole.first) (length whole.second) ≡ length word =
    sym (length-padded n whole.first whole.second) ∙ sym (ap length whole.is_text) ∙ length-beside n word columns long in
    let first : whole.first ≡ word = same_from_padding n whole.first word whole.first_over over (λ place.
    elim (cases_lt place (length word)) [
      | inl within ↦
          let symbols : pair_symbol n (get_or whole.first place (n + 1)) (get_or whole.second place (n + 1))
          ≡ pair_symbol n (get_or word place (n + 1)) (get_or columns place (n + 1)) =
          sym (get_or-padded n whole.first whole.second place 0 (omega arith)) ∙ sym (ap (λ text. get_or text place 0) whole.is_text)
          ∙ get_or-beside n word columns place 0 long within in
          (pair_symbol-injective n (get_or whole.first place (n + 1)) (get_or whole.second place (n + 1)) (get_or word place (n + 1))
          (get_or columns place (n + 1)) (letter_or_padding n whole.first place whole.first_over).0 (letter_or_padding n word place over).0
          (letter_or_padding n whole.second place whole.second_over) (column_at n columns place each) symbols).0
      | inr past ↦ get_or_past whole.first place (n + 1) (omega arith) ∙ sym (get_or_past word place (n + 1) past)
    ]) in record {
      second = whole.second;
      over = whole.second_over;
      no_longer = omega arith;
      is_text = whole.is_text ∙ ap (λ w. padded n w whole.second) first;
    }

-- ---- a second word in two parts: what is beside the first, and what comes after it

pub padded_parts : (n : ℕ) (word second : List ℕ)
    → padded n word second ≡ padded n word (take (length word) second) ++ padded n [] (drop (length word) second)
padded_parts n [] second = refl
padded_parts n (i ∷ word) [] = sym (append-nil (padded n (i ∷ word) []))
padded_parts n (i ∷ word) (j ∷ second) = ap (λ rest. pair_symbol n i j ∷ rest) (padded_parts n word second)

-- two parts make one second word, where the first part is as long as the word
pub padded_joined : (n : ℕ) (word front back : List ℕ) → length front ≡ length word
    → padded n word (front ++ back) ≡ padded n word front ++ padded n [] back
padded_joined n word front back long =
    padded_parts n word (front ++ back)
    ∙ ap (λ f. padded n word f ++ padded n [] (drop (length word) (front ++ back))) (take_at front back (length word) long)
    ∙ ap (λ b. padded n word front ++ padded n [] b) (drop_at front back (length word) long)

-- after the end of a second word that is shorter, no letter of it follows
pub shorter_has_ended : (n : ℕ) (word second : List ℕ) (j : ℕ) (rest : List ℕ) → IsOver n word → IsOver n second → length second < length word
    → (0 < j) × (j ≤ n) → ¬ IsPadded n (padded n word second ++ pair_symbol n (n + 1) j ∷ rest)
shorter_has_ended n word second j rest over_word over_second shorter letter whole =
    let text = padded n word second ++ pair_symbol n (n + 1) j ∷ rest in
    let last = length word - 1 in
    let long = length-padded n word second in
    let count : max (length whole.first) (length whole.second) ≡ length text =
    sym (length-padded n whole.first whole.second) ∙ sym (ap length whole.is_text) in
    let more : length word < length text = omega (arith, length-append (padded n word second) (pair_symbol n (n + 1) j ∷ rest)) in
    let symbol_at : (place : ℕ) → place < length text
    → get_or text place 0 ≡ pair_symbol n (get_or whole.first place (n + 1)) (get_or whole.second place (n + 1)) =
    λ place within. ap (λ t. get_or t place 0) whole.is_text ∙ get_or-padded n whole.first whole.second place 0 (omega arith) in
    let at_last : pair_symbol n (get_or word last (n + 1)) (get_or second last (n + 1))
    ≡ pair_symbol n (get_or whole.first last (n + 1)) (get_or whole.second last (n + 1)) =
    sym (get_or-padded n word second last 0 (omega arith))
    ∙ sym (get_or_append_left (padded n word second) (pair_symbol n (n + 1) j ∷ rest) 0 last (omega arith)) ∙ symbol_at last (omega arith) in
    let ended : get_or second last (n + 1) ≡ n + 1 = get_or_past second last (n + 1) (omega arith) in
    let second_last = (pair_symbol-injective n (get_or word last (n + 1)) (get_or second last (n + 1)) (get_or whole.first last (n + 1))
    (get_or whole.second last (n + 1)) (letter_or_padding n word last over_word).0 (letter_or_padding n whole.first last whole.first_over).0
    (letter_or_padding n second last over_second) (letter_or_padding n whole.second last whole.second_over) at_last).1 in
    let short : length whole.second ≤ last = elim (cases_lt last (length whole.second)) [
      | inl within ↦
          let is_letter = All-get_or (λ x. (0 < x) × (x ≤ n)) whole.second last (n + 1) within whole.second_over in
          omega (arith, is_letter.1)
      | inr past ↦ past
    ] in
    let at_next : pair_symbol n (n + 1) j
    ≡ pair_symbol n (get_or whole.first (length word) (n + 1)) (get_or whole.second (length word) (n + 1)) =
    sym (get_or_at (padded n word second) (pair_symbol n (n + 1) j) rest 0 (length word) (omega arith)) ∙ symbol_at (length word) more in
    let second_next = (pair_symbol-injective n (n + 1) j (get_or whole.first (length word) (n + 1)) (get_or whole.second (length word) (n + 1))
    (omega arith) (letter_or_padding n whole.first (length word) whole.first_over).0 (letter.0, omega (arith, letter.1))
    (letter_or_padding n whole.second (length word) whole.second_over) at_next).1 in
    omega (arith, get_or_past whole.second (length word) (n + 1) (omega arith), letter.1)

-- ---- where a first word leads

-- the table leads from state to state by the word beside some columns
record LeadsBeside (n : ℕ) (table : Table) (word : List ℕ) (from to : ℕ) : Type 0 where
  columns : List ℕ
  each : All (IsColumn n) columns
  long : length columns ≡ length word
  over : IsOver n word
  leads : after table from (beside n word columns) ≡ to
  some : to ≢ 0

-- it leads there by the word and a second word, which is no longer
pub record LeadsWithSecond (n : ℕ) (table : Table) (word : List ℕ) (from to : ℕ) : Type 0 where
  pub second : List ℕ
  pub over_first : IsOver n word
  pub over : IsOver n second
  pub no_longer : length second ≤ length word
  pub leads : after table from (padded n word second) ≡ to
  pub some : to ≢ 0

module _ (n : ℕ) (table : Table) (is : IsTable table) (within : HasSymbols ((n + 1) * (n + 1) - 1) table) (marks : List Bool) where
  -- moves by a letter are those of the table by a pair that it begins
  branches_are : (state : ℕ) → moves_from (first_words n table marks) state ≡ filter_map (by_first n) (moves_of table state)
  branches_are zero = refl
  branches_are (suc place) = get_or-map (filter_map (by_first n)) table.rows place []

  leads_beside : (word : List ℕ) (from to : ℕ) → from ≢ 0 → LeadsFrom (first_words n table marks) from word to → LeadsBeside n table word from to
  unfolding beside IsColumn
  leads_beside [] from to some leads = record {
    columns = [];
    each = All-nil (λ j. (0 < j) × (j ≤ n + 1));
    long = refl;
    over = All-nil (λ x. (0 < x) × (x ≤ n));
    leads = leads;
    some = λ none. some (leads ∙ none);
  }
  leads_beside (i ∷ word) from to some leads =
      let next = leads.0 in
      let P : Moves → Type 0 = λ moves. Contains moves (i, next) in
      let move = from_by_first n (moves_of table from) i next (subst P (branches_are from) leads.1) in
      let facts = known n table is within from move.symbol next move.move in
      let column = with_second n move.symbol facts.0 in
      let symbol_is : move.symbol ≡ pair_symbol n i column.0 = column.1.0 ∙ ap (λ f. pair_symbol n f column.0) move.first_is in
      let leads_on : step table from (pair_symbol n i column.0) ≡ next =
      sym (ap (step table from) symbol_is)
      ∙ target_some (moves_of table from) move.symbol next
      (lookup_from_entry (moves_of table from) move.symbol next (IsRow-moves_of table from is).ascends move.move) in
      let rest = leads_beside word next to (λ none. omega (arith, facts.1.1.0)) leads.2 in
      let low = first_within n move.symbol (facts.0, facts.1.0) in
      let first = move.first_is in
      let letter = move.letter in record {
        columns = column.0 ∷ rest.columns;
        each = All-cons (λ j. (0 < j) × (j ≤ n + 1)) column.0 rest.columns column.1.1 rest.each;
        long = ap (λ k. suc k) rest.long;
        over = All-cons (λ x. (0 < x) × (x ≤ n)) i word (omega arith, omega arith) rest.over;
        leads = ap (λ s. after table s (beside n word rest.columns)) leads_on ∙ rest.leads;
        some = rest.some;
      }

  -- no text leads on from no state
  step_some : (from symbol : ℕ) (text : List ℕ) (to : ℕ) → after table from (symbol ∷ text) ≡ to → to ≢ 0 → 0 < step table from symbol
  step_some from symbol text to leads some =
      elim (cases_lt 0 (step table from symbol)) [
        | inl positive ↦ positive
        | inr none ↦
            let no : step table from symbol ≡ 0 = omega arith in
            absurd (some (sym leads ∙ ap (λ s. after table s text) no ∙ after_none table text))
      ]

  -- the automaton takes the first of a pair that leads somewhere
  takes : (from i j to : ℕ) (text : List ℕ) → (0 < i) × (i ≤ n) → (0 < j) × (j ≤ n + 1)
      → after table from (pair_symbol n i j ∷ text) ≡ to → to ≢ 0
      → Contains (moves_from (first_words n table marks) from) (i, step table from (pair_symbol n i j))
  takes from i j to text letter column leads some =
      let symbol = pair_symbol n i j in
      let next = step table from symbol in
      let entry = entry_from_lookup (moves_of table from) symbol next
      (lookup_from_target (moves_of table from) symbol next (step_some from symbol text to leads some) refl) in
      let P : Moves → Type 0 = λ moves. Contains moves (i, next) in
      subst P (sym (branches_are from)) (by_first_from n (moves_of table from) symbol i next entry (first_letter-pair_symbol n i j letter.0 column)
      (λ same. omega (arith, letter.1)))

  pub leads_by_first : (word second : List ℕ) (from to : ℕ) → IsOver n word → IsOver n second → length second ≤ length word
      → after table from (padded n word second) ≡ to → to ≢ 0 → LeadsFrom (first_words n table marks) from word to
  leads_by_first [] [] from to over_word over_second le leads some = leads
  leads_by_first [] (j ∷ second) from to over_word over_second le leads some = absurd (let no : ⊥ = omega arith in no)
  leads_by_first (i ∷ word) [] from to over_word over_second le leads some =
      let P = λ (x : ℕ). (0 < x) × (x ≤ n) in (
        step table from (pair_symbol n i (n + 1)),
        takes from i (n + 1) to (padded n word []) (All-head P i word over_word) (omega arith, omega arith) leads some,
        leads_by_first word [] (step table from (pair_symbol n i (n + 1))) to (All-tail P i word over_word) over_second (omega arith) leads some,
      )
  leads_by_first (i ∷ word) (j ∷ second) from to over_word over_second le leads some =
      let P = λ (x : ℕ). (0 < x) × (x ≤ n) in
      let letter = All-head P j second over_second in (
        step table from (pair_symbol n i j),
        takes from i j to (padded n word second) (All-head P i word over_word) (letter.0, omega (arith, letter.1)) leads some,
        leads_by_first word second (step table from (pair_symbol n i j)) to (All-tail P i word over_word) (All-tail P j second over_second) (omega arith) leads some,
      )

  -- so some second word, no longer than the word, leads there beside it
  pub second_from_leads : (word : List ℕ) (from to : ℕ) → ((text : List ℕ) → after table from text ≢ 0 → IsPadded n text) → from ≢ 0
      → LeadsFrom (first_words n table marks) from word to → LeadsWithSecond n table word from to
  second_from_leads word from to texts some leads =
      let by = leads_beside word from to some leads in
      let second = second_beside n word by.columns by.over by.each by.long (texts (beside n word by.columns) (λ none. by.some (sym by.leads ∙ none))) in
      record {
        second = second.second;
        over_first = by.over;
        over = second.over;
        no_longer = second.no_longer;
        leads = ap (after table from) (sym second.is_text) ∙ by.leads;
        some = by.some;
      }
