-- Where a multiplier relates only words that differ by its generator, label words agree.
use Rattle.std.proofs.Common.{◌≡◌, ◌≢◌, ℕ, zero, suc, IsTrue, List, [], ◌∷◌, ◌++◌, Some, refl, sym, ap, ◌∙◌, subst, arith, append_assoc}
use Rattle.std.proofs.lemmas.Bool.{true≢false}
use Rattle.kb_word.specs.Relations.{IsOver, inverse_word}
use Rattle.kb_word.proofs.PathLemmas.{congruent_reflexive, congruent_symmetric, congruent_transitive}
use Rattle.kb_fsa.specs.declared.alphabet.Alphabet.{Alphabet}
use Rattle.kb_fsa.specs.declared.alphabet.Alphabet.TheVariants.{Pair}
use Rattle.kb_fsa.specs.Table.{Table, state_after, is_accepting, AcceptsFrom}
use Rattle.kb_fsa.specs.Padding.{first_letters, second_letters, letters_of, IsPadded}
use Rattle.kb_fsa.specs.PairSymbols.{first_letter, second_letter}
use Rattle.kb_fsa.specs.Language.{AcceptsText, IsAutomaton, IsTextOf}
use Rattle.kb_fsa.proofs.Unpadding.{first_letters-padded, second_letters-padded}
use Rattle.kb_fsa.proofs.Lookups.{after-append}
use Rattle.kb_structure.specs.Labels.{Labelling, IsGroup, generators_of, RelatesProducts, LiesOnAcceptedText, IsLabelWord, LabelWordsAgree, LabelsAreDifferences, first_of, second_of}
use Rattle.kb_structure.specs.Labels.IsLabelWord.{own, at_start, at_end, along}
use Rattle.kb_structure.proofs.Letters.{over_empty, over_front, over_rest}
use Rattle.kb_structure.proofs.Words.{congruent_behind, congruent_before}
use Rattle.kb_structure.proofs.Cancelling.{AreSame, cancel_left, cancel_right, inverse_cancels}

first_letters-append : (n : ℕ) (text more : List ℕ) → first_letters n (text ++ more) ≡ first_letters n text ++ first_letters n more
first_letters-append n [] more = refl
first_letters-append n (symbol ∷ text) more =
    let front : List ℕ = letters_of n (first_letter n symbol) in
    ap (λ w. front ++ w) (first_letters-append n text more) ∙ sym (append_assoc front (first_letters n text) (first_letters n more))

second_letters-append : (n : ℕ) (text more : List ℕ)
    → second_letters n (text ++ more) ≡ second_letters n text ++ second_letters n more
second_letters-append n [] more = refl
second_letters-append n (symbol ∷ text) more =
    let front : List ℕ = letters_of n (second_letter n symbol) in
    ap (λ w. front ++ w) (second_letters-append n text more)
    ∙ sym (append_assoc front (second_letters n text) (second_letters n more))

some_where_accepting : (table : Table) (state : ℕ) → IsTrue (is_accepting table state) → state ≢ 0
some_where_accepting table zero accepts same = true≢false (sym accepts)
some_where_accepting table (suc place) accepts same = let no : ⊥ = omega arith in no

-- the words of the text are over the generators, and differ by x
record IsTrueText (labelling : Labelling) (text : List ℕ) : Type 0 where
  first_over : IsOver (generators_of labelling) (first_letters (generators_of labelling) text)
  second_over : IsOver (generators_of labelling) (second_letters (generators_of labelling) text)
  differ : AreSame labelling (first_letters (generators_of labelling) text ++ labelling.x ∷ [])
      (second_letters (generators_of labelling) text)

-- the words of the text differ by x, where z stands before the second
abbrev GoesOn : Labelling → List ℕ → List ℕ → Type 0
GoesOn labelling z text = AreSame labelling (first_letters (generators_of labelling) text ++ labelling.x ∷ [])
    (z ++ second_letters (generators_of labelling) text)

module _ (labelling : Labelling) (group : IsGroup labelling) where
  -- behind a text whose words differ by d, what follows differs by x but for d
  goes_on : (d text more : List ℕ)
      → AreSame labelling (first_letters (generators_of labelling) text ++ d) (second_letters (generators_of labelling) text)
      → IsTrueText labelling (text ++ more) → GoesOn labelling d more
  goes_on d text more differs whole =
      let n = generators_of labelling in
      let u : List ℕ = first_letters n text in
      let v : List ℕ = second_letters n text in
      let w : List ℕ = first_letters n more ++ labelling.x ∷ [] in
      let z : List ℕ = second_letters n more in
      let P : List ℕ → Type 0 = λ y. IsOver n y in
      let over = over_front n u (first_letters n more) (subst P (first_letters-append n text more) whole.first_over) in
      let first : first_letters n (text ++ more) ++ labelling.x ∷ [] ≡ u ++ w =
      ap (λ y. y ++ labelling.x ∷ []) (first_letters-append n text more) ∙ append_assoc u (first_letters n more) (labelling.x ∷ []) in
      let Q : List ℕ → Type 0 = λ y. AreSame labelling y (second_letters n (text ++ more)) in
      let R : List ℕ → Type 0 = AreSame labelling (u ++ w) in
      let both : AreSame labelling (u ++ w) (v ++ z) = subst R (second_letters-append n text more) (subst Q first whole.differ) in
      let S : List ℕ → Type 0 = AreSame labelling (v ++ z) in
      let regroup : AreSame labelling (v ++ z) (u ++ (d ++ z)) =
      subst S (append_assoc u d z) (congruent_before z (congruent_symmetric differs)) in
      cancel_left labelling group u w (d ++ z) over (congruent_transitive both regroup)

  -- one symbol earlier
  goes_on_before : (d inverse : List ℕ) (symbol : ℕ) (more : List ℕ) → inverse_word labelling.inverses (first_of labelling symbol) ≡ Some inverse
      → GoesOn labelling d (symbol ∷ more) → GoesOn labelling (inverse ++ d ++ second_of labelling symbol) more
  goes_on_before d inverse symbol more inverts further =
      let n = generators_of labelling in
      let f : List ℕ = first_of labelling symbol in
      let g : List ℕ = second_of labelling symbol in
      let w : List ℕ = first_letters n more ++ labelling.x ∷ [] in
      let z : List ℕ = second_letters n more in
      let front : inverse ++ ((f ++ first_letters n more) ++ labelling.x ∷ []) ≡ (inverse ++ f) ++ w = simp append_assoc in
      let back : inverse ++ (d ++ (g ++ z)) ≡ (inverse ++ d ++ g) ++ z = simp append_assoc in
      let behind : AreSame labelling (inverse ++ ((f ++ first_letters n more) ++ labelling.x ∷ [])) (inverse ++ (d ++ (g ++ z))) =
      congruent_behind inverse further in
      let P : List ℕ → Type 0 = λ y. AreSame labelling y (inverse ++ (d ++ (g ++ z))) in
      let Q : List ℕ → Type 0 = AreSame labelling ((inverse ++ f) ++ w) in
      let whole : AreSame labelling ((inverse ++ f) ++ w) ((inverse ++ d ++ g) ++ z) = subst Q back (subst P front behind) in
      let none : AreSame labelling ((inverse ++ f) ++ w) w = congruent_before w (inverse_cancels labelling group f inverse inverts) in
      congruent_transitive (congruent_symmetric none) whole

  -- what goes on as d does is d
  one_difference : (z d more : List ℕ) → IsOver (generators_of labelling) (second_letters (generators_of labelling) more)
      → GoesOn labelling z more → GoesOn labelling d more → AreSame labelling z d
  one_difference z d more over one other =
      cancel_right labelling group (second_letters (generators_of labelling) more) z d over
      (congruent_transitive (congruent_symmetric one) other)

module _ (labelling : Labelling) (group : IsGroup labelling) (automaton : IsAutomaton labelling.multiplier)
    (pairs : labelling.multiplier.alphabet ≡ Pair (generators_of labelling)) (differences : LabelsAreDifferences labelling)
    (products : RelatesProducts labelling) where
  true_text : (text : List ℕ) → AcceptsText labelling.multiplier text → IsTrueText labelling text
  true_text text accepts =
      let n = generators_of labelling in
      let table = labelling.multiplier.table in
      let some = some_where_accepting table (state_after table text) accepts in
      let P : Alphabet → Type 0 = λ alphabet. IsTextOf alphabet text in
      let is : IsPadded n text = subst P pairs (automaton.texts text some) in
      let Q : List ℕ → Type 0 = AcceptsText labelling.multiplier in
      let accepts_pair = subst Q is.is_text accepts in
      let first : first_letters n text ≡ is.first =
      ap (first_letters n) is.is_text ∙ first_letters-padded n is.first is.second is.first_over is.second_over in
      let second : second_letters n text ≡ is.second =
      ap (second_letters n) is.is_text ∙ second_letters-padded n is.first is.second is.first_over is.second_over in
      let Over : List ℕ → Type 0 = λ w. IsOver n w in
      let R : List ℕ → Type 0 = λ w. AreSame labelling (w ++ labelling.x ∷ []) is.second in
      let S : List ℕ → Type 0 = AreSame labelling (first_letters n text ++ labelling.x ∷ []) in
      record {
        first_over = subst Over (sym first) is.first_over;
        second_over = subst Over (sym second) is.second_over;
        differ = subst S (sym second) (subst R (sym first) (products is.first is.second is.first_over is.second_over accepts_pair));
      }

  true_whole : (text more : List ℕ) (state : ℕ) → state_after labelling.multiplier.table text ≡ state
      → AcceptsFrom labelling.multiplier.table state more → IsTrueText labelling (text ++ more)
  true_whole text more state leads accepts =
      let table = labelling.multiplier.table in
      let P : ℕ → Type 0 = λ s. AcceptsFrom table s more in
      let Q : ℕ → Type 0 = λ s. IsTrue (is_accepting table s) in
      true_text (text ++ more) (subst Q (sym (after-append table table.initial text more)) (subst P (sym leads) accepts))

  -- the label of a state goes on along each text that leads on to acceptance
  label_goes_on : (state : ℕ) (more : List ℕ) → LiesOnAcceptedText labelling.multiplier.table state
      → AcceptsFrom labelling.multiplier.table state more → GoesOn labelling (labelling.label state) more
  label_goes_on state more lies accepts =
      let difference = differences state lies in
      goes_on labelling group (labelling.label state) difference.text more difference.differs
      (true_whole difference.text more state difference.leads accepts)

  -- so does a label word, along one of them, so that it is the label
  word_is_label : (state : ℕ) (word : List ℕ) → LiesOnAcceptedText labelling.multiplier.table state
      → IsLabelWord labelling state word → AreSame labelling word (labelling.label state)
  word_is_label state word lies own = congruent_reflexive (labelling.label state)
  word_is_label state word lies (at_start start) =
      let n = generators_of labelling in
      let table = labelling.multiplier.table in
      let more = lies.live.0 in
      let whole = true_whole [] more state (sym start) lies.live.1 in
      one_difference labelling group [] (labelling.label state) more whole.second_over whole.differ
      (label_goes_on state more lies lies.live.1)
  word_is_label state word lies (at_end accepts) =
      let whole = label_goes_on state [] lies accepts in
      one_difference labelling group (labelling.x ∷ []) (labelling.label state) [] (over_empty (generators_of labelling))
      (congruent_reflexive (labelling.x ∷ [])) whole
  word_is_label state word lies (along {from} symbol {inverse} before leads inverts) =
      let n = generators_of labelling in
      let table = labelling.multiplier.table in
      let more = lies.live.0 in
      let P : ℕ → Type 0 = λ s. AcceptsFrom table s more in
      let accepts : AcceptsFrom table from (symbol ∷ more) = subst P (sym leads) lies.live.1 in
      let difference = differences from before in
      let whole = true_whole difference.text (symbol ∷ more) from difference.leads accepts in
      let Q : List ℕ → Type 0 = λ w. IsOver n w in
      let over = over_rest n (second_of labelling symbol) (second_letters n more)
      (over_rest n (second_letters n difference.text) (second_letters n (symbol ∷ more))
      (subst Q (second_letters-append n difference.text (symbol ∷ more)) whole.second_over)) in
      let further = goes_on_before labelling group (labelling.label from) inverse symbol more inverts
      (label_goes_on from (symbol ∷ more) before accepts) in
      one_difference labelling group (inverse ++ labelling.label from ++ second_of labelling symbol) (labelling.label state) more over
      further (label_goes_on state more lies lies.live.1)

  pub label_words_agree : LabelWordsAgree labelling
  label_words_agree state lies word other one two =
      congruent_transitive (word_is_label state word lies one) (congruent_symmetric (word_is_label state other lies two))
