-- The automaton without the second words accepts the first words.
use Rattle.std.proofs.Common.{◌≡◌, ◌↔◌, ℕ, zero, suc, ◌+◌, ◌<◌, ◌≤◌, Bool, IsTrue, List, [], ◌∷◌, ◌++◌, length, get_or, if◌then◌else◌, refl, sym, ap, ◌∙◌, subst, arith, append_assoc, append-nil}
use Rattle.std.specs.List.{All, Contains, filter_map}
use Rattle.std.proofs.Math.ListN.{get_or-map}
use Rattle.std.proofs.lemmas.Bool.{false≢true, ne_eqb}
use Rattle.std.proofs.lemmas.List.{length-map}
use Rattle.std.proofs.lemmas.List.Elements.{All-nil, All-head, All-tail, All-map, All-from_get_or}
use Rattle.kb_word.specs.Relations.{IsOver}
use Rattle.kb_fsa.specs.declared.alphabet.Alphabet.{Alphabet}
use Rattle.kb_fsa.specs.declared.alphabet.Alphabet.TheVariants.{Pair}
use Rattle.kb_fsa.specs.Table.{Moves}
use Rattle.kb_fsa.specs.Language.{IsTextOf, generators}
use Rattle.kb_fsa.specs.PairSymbols.{pair_symbol, first_letter}
use Rattle.kb_fsa.specs.Padding.{padded, IsPadded, first_letters, letters_of}
use Rattle.kb_fsa.proofs.PairSymbolLaws.{first_letter-pair_symbol, first_within}
use Rattle.kb_fsa.proofs.Unpadding.{first_letters-padded}
use Rattle.kb_fsadet.specs.Nondeterministic.{Nondeterministic, IsNondeterministic, IsOneOf, AcceptsSomehow, LeadsFrom, accepts_at, moves_from}
use Rattle.kb_fsadet.specs.FirstWords.{by_first}
use Rattle.kb_fsadet.proofs.Sets.{All-from_contains, Contains-none}
use Rattle.kb_fsadet.proofs.FirstWordLemmas.{from_by_first, by_first_from}
use Rattle.kb_fsadet.proofs.PlainTexts.{words_lead}
use Rattle.kb_certificates.specs.FirstWords.{AcceptsFrom, AreEnds, EndsFrom, HasSecond, without_second}
use Rattle.kb_certificates.proofs.Tails.{known}

-- ---- texts in two parts

leads-append : (automaton : Nondeterministic) (text more : List ℕ) (from mid to : ℕ) → LeadsFrom automaton from text mid
    → LeadsFrom automaton mid more to → LeadsFrom automaton from (text ++ more) to
leads-append automaton [] more from mid to leads leads_on =
    let P : ℕ → Type 0 = λ s. LeadsFrom automaton s more to in subst P (sym leads) leads_on
leads-append automaton (symbol ∷ text) more from mid to leads leads_on =
    (leads.0, leads.1, leads-append automaton text more leads.0 mid to leads.2 leads_on)

first_letters-append : (n : ℕ) (text more : List ℕ) → first_letters n (text ++ more) ≡ first_letters n text ++ first_letters n more
first_letters-append n [] more = refl
first_letters-append n (symbol ∷ text) more =
    ap (λ rest. letters_of n (first_letter n symbol) ++ rest) (first_letters-append n text more)
    ∙ sym (append_assoc (letters_of n (first_letter n symbol)) (first_letters n text) (first_letters n more))

-- a text with these first letters leads from state to state
record LeadsByFirst (n : ℕ) (pairs : Nondeterministic) (word : List ℕ) (from to : ℕ) : Type 0 where
  text : List ℕ
  leads : LeadsFrom pairs from text to
  first : first_letters n text ≡ word

module _ (pairs : Nondeterministic) (is : IsNondeterministic pairs) (pair : pairs.alphabet ≡ Pair (generators pairs.alphabet))
    (marks : List Bool) (ends : AreEnds (generators pairs.alphabet) pairs marks) where
  abbrev n : ℕ
  n = generators pairs.alphabet

  abbrev words : Nondeterministic
  words = without_second n pairs marks

  branches_are : (state : ℕ) → moves_from words state ≡ filter_map (by_first n) (moves_from pairs state)
  branches_are zero = refl
  branches_are (suc place) = get_or-map (filter_map (by_first n)) pairs.rows place []

  -- ---- from words to pairs

  leads_by_first : (word : List ℕ) (from to : ℕ) → LeadsFrom words from word to → LeadsByFirst n pairs word from to
  leads_by_first [] from to leads = record { text = []; leads = leads; first = refl }
  leads_by_first (i ∷ word) from to leads =
      let P : Moves → Type 0 = λ moves. Contains moves (i, leads.0) in
      let by = from_by_first n (moves_from pairs from) i leads.0 (subst P (branches_are from) leads.1) in
      let rest = leads_by_first word leads.0 to leads.2 in record {
        text = by.symbol ∷ rest.text;
        leads = (leads.0, by.move, rest.leads);
        first = ap (λ x. letters_of n x ++ first_letters n rest.text) by.first_is
            ∙ ap (λ (t : Bool). (if t then [] else i ∷ []) ++ first_letters n rest.text) (ne_eqb i (n + 1) by.letter)
            ∙ ap (λ w. i ∷ w) rest.first;
      }

  padded_text : (text : List ℕ) (start state : ℕ) → Contains pairs.initial start → LeadsFrom pairs start text state → IsPadded n text
  padded_text text start state initial leads =
      let P : Alphabet → Type 0 = λ a. IsTextOf a text in
      subst P pair (is.texts text state (record { start = start; is_initial = initial; leads = leads }))

  ends_at : (state : ℕ) → IsTrue (accepts_at words state) → EndsFrom n pairs state
  ends_at zero accepts = absurd (false≢true accepts)
  ends_at (suc place) accepts = (ends.ends place).0 accepts

  second_of_word : (word : List ℕ) → AcceptsSomehow words word → HasSecond pairs word
  second_of_word word accepts =
      let start = accepts.1.start in
      let by = leads_by_first word start accepts.0 accepts.1.leads in
      let end = ends_at accepts.0 accepts.2 in
      let tail = padded n [] end.0 in
      let leads = leads-append pairs by.text tail start accepts.0 end.1.1.0 by.leads end.1.1.1 in
      let whole = padded_text (by.text ++ tail) start end.1.1.0 accepts.1.is_initial leads in
      let first : whole.first ≡ word =
      sym (first_letters-padded n whole.first whole.second whole.first_over whole.second_over) ∙ sym (ap (first_letters n) whole.is_text)
      ∙ first_letters-append n by.text tail
      ∙ ap (λ w. w ++ first_letters n tail) by.first
      ∙ ap (λ w. word ++ w) (first_letters-padded n [] end.0 (All-nil (λ x. (0 < x) × (x ≤ n))) end.1.0) ∙ append-nil word in
      let P : List ℕ → Type 0 = λ text. LeadsFrom pairs start text end.1.1.0 in
      record {
        second = whole.second;
        first_over = subst (IsOver n) first whole.first_over;
        second_over = whole.second_over;
        accepts = (
          end.1.1.0,
          record {
            start = start;
            is_initial = accepts.1.is_initial;
            leads = subst P (whole.is_text ∙ ap (λ w. padded n w whole.second) first) leads;
          },
          end.1.1.2,
        );
      }

  -- ---- from pairs to words

  nowhere : (second : List ℕ) → ¬ AcceptsFrom pairs 0 (padded n [] second)
  nowhere [] accepts =
      let P : ℕ → Type 0 = λ s. IsTrue (accepts_at pairs s) in false≢true (subst P (sym accepts.1) accepts.2)
  nowhere (j ∷ second) accepts = Contains-none (pair_symbol n (n + 1) j, accepts.1.0) accepts.1.1

  accepts_end : (state : ℕ) → EndsFrom n pairs state → IsTrue (accepts_at words state)
  accepts_end zero end = absurd (nowhere end.0 end.1.1)
  accepts_end (suc place) end = (ends.ends place).1 end

  -- the move by a letter, of one by a symbol that it begins
  move_by : (from i j next : ℕ) → (0 < i) × (i ≤ n) → (0 < j) × (j ≤ n + 1) → Contains (moves_from pairs from) (pair_symbol n i j, next)
      → Contains (moves_from words from) (i, next)
  move_by from i j next letter other move =
      let P : Moves → Type 0 = λ moves. Contains moves (i, next) in
      subst P (sym (branches_are from)) (by_first_from n (moves_from pairs from) (pair_symbol n i j) i next move
      (first_letter-pair_symbol n i j letter.0 other) (λ same. omega (arith, letter.1)))

  accepts_first : (word second : List ℕ) (from : ℕ) → IsOver n word → IsOver n second → AcceptsFrom pairs from (padded n word second)
      → AcceptsFrom words from word
  accepts_first [] second from over also accepts = (from, refl, accepts_end from (second, (also, accepts)))
  accepts_first (i ∷ word) [] from over also accepts =
      let P = λ (x : ℕ). (0 < x) × (x ≤ n) in
      let next = accepts.1.0 in
      let rest = accepts_first word [] next (All-tail P i word over) also (accepts.0, accepts.1.2, accepts.2) in
      (rest.0, (next, move_by from i (n + 1) next (All-head P i word over) (omega arith, omega arith) accepts.1.1, rest.1), rest.2)
  accepts_first (i ∷ word) (j ∷ second) from over also accepts =
      let P = λ (x : ℕ). (0 < x) × (x ≤ n) in
      let next = accepts.1.0 in
      let letter = All-head P j second also in
      let rest = accepts_first word second next (All-tail P i word over) (All-tail P j second also) (accepts.0, accepts.1.2, accepts.2) in
      (rest.0, (next, move_by from i j next (All-head P i word over) (letter.0, omega (arith, letter.1)) accepts.1.1, rest.1), rest.2)

  word_of_second : (word : List ℕ) → HasSecond pairs word → AcceptsSomehow words word
  word_of_second word has =
      let leads = has.accepts.1 in
      let accepts = accepts_first word has.second leads.start has.first_over has.second_over (has.accepts.0, leads.leads, has.accepts.2) in
      (accepts.0, record { start = leads.start; is_initial = leads.is_initial; leads = accepts.1 }, accepts.2)

  pub language : (word : List ℕ) → AcceptsSomehow words word ↔ HasSecond pairs word
  language word = (second_of_word word, word_of_second word)

  -- ---- it is an automaton

  abbrev P : ℕ × ℕ → Type 0
  P move = IsOneOf n move.0 × IsOneOf (length words.rows) move.1

  -- its moves are by letters, to states
  row_known : (place : ℕ) (move : ℕ × ℕ) → Contains (filter_map (by_first n) (get_or pairs.rows place [])) move → P move
  row_known place move at =
      let from = from_by_first n (get_or pairs.rows place []) move.0 move.1 at in
      let facts = known n pairs is pair (suc place) from.symbol move.1 from.move in
      let low = first_within n from.symbol facts.0 in
      let first = from.first_is in
      let letter = from.letter in (
        (omega arith, omega arith),
        (facts.1.0, omega (arith, facts.1.1, length-map pairs.rows (filter_map (by_first n)))),
      )

  all_known : All (All P) words.rows
  all_known =
      All-map (All P) (filter_map (by_first n)) pairs.rows (All-from_get_or (λ row. All P (filter_map (by_first n) row))
      pairs.rows [] (λ place low. All-from_contains P (filter_map (by_first n) (get_or pairs.rows place [])) (row_known place)))

  pub words_automaton : IsNondeterministic words
  words_automaton = record {
    generators = is.generators;
    one_answer_each = ends.one_each ∙ sym (length-map pairs.rows (filter_map (by_first n)));
    size = omega (arith, length-map pairs.rows (filter_map (by_first n)), is.size);
    initial =
        let Q : ℕ → Type 0 = λ k. All (IsOneOf k) pairs.initial in
        subst Q (sym (length-map pairs.rows (filter_map (by_first n)))) is.initial;
    moves = all_known;
    texts = λ text state among. words_lead n (length words.rows) words all_known text among.start state among.leads;
  }
