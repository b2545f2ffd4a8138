-- Where the label words of each state agree, the label of a state is what the words read so far differ by.
use Rattle.std.proofs.Common.{◌≡◌, ℕ, ◌+◌, ◌<◌, ◌≤◌, List, [], ◌∷◌, ◌++◌, All, Some, refl, sym, ap, ◌∙◌, subst, inl, inr, arith, append_assoc}
use Rattle.std.specs.Option.{option_map, option_and_then}
use Rattle.std.proofs.lemmas.Bool.{cases_eq, eq-eqb, ne_eqb}
use Rattle.std.proofs.lemmas.List.{append-nil}
use Rattle.std.proofs.lemmas.List.Elements.{All-head, All-tail}
use Rattle.kb_word.specs.Relations.{inverse_letter, inverse_word}
use Rattle.kb_word.proofs.PathLemmas.{congruent_reflexive, congruent_symmetric, congruent_transitive}
use Rattle.kb_fsa.specs.Table.{step, state_after, AcceptsFrom}
use Rattle.kb_fsa.specs.PairSymbols.{first_letter, second_letter}
use Rattle.kb_fsa.specs.Padding.{padded, letters_of, first_letters, second_letters}
use Rattle.kb_fsa.proofs.PairSymbolLaws.{IsPairSymbol, first_within}
use Rattle.kb_fsa.proofs.Paddings.{symbols_of_padded}
use Rattle.kb_fsa.proofs.Unpadding.{first_letters-padded, second_letters-padded}
use Rattle.kb_fsa.proofs.Lookups.{after-append}
use Rattle.kb_structure.specs.Labels.{Labelling, RelatesProducts, generators_of, IsGroup, LiesOnAcceptedText, LabelWordsAgree}
use Rattle.kb_structure.specs.Labels.IsLabelWord.{own, at_start, at_end, along}
use Rattle.kb_structure.proofs.Words.{congruent_behind, congruent_before}
use Rattle.kb_structure.proofs.Cancelling.{AreSame}
use Rattle.kb_structure.proofs.InverseRelations.{letter_cancels}

-- the word has an inverse, with which it cancels
record Cancels (labelling : Labelling) (word : List ℕ) : Type 0 where
  inverse : List ℕ
  inverts : inverse_word labelling.inverses word ≡ Some inverse
  cancels : AreSame labelling (word ++ inverse) []

empty_cancels : (labelling : Labelling) → Cancels labelling []
empty_cancels labelling = record { inverse = []; inverts = refl; cancels = congruent_reflexive [] }

letter_alone_cancels : (labelling : Labelling) (a b : ℕ) → inverse_letter labelling.inverses a ≡ Some b → Cancels labelling (a ∷ [])
letter_alone_cancels labelling a b is = record {
  inverse = b ∷ [];
  inverts = ap (option_and_then (λ y. option_map (λ v. v ++ y ∷ []) (Some []))) is;
  cancels = letter_cancels labelling.inverses labelling.equations a b is;
}

-- so has a letter, and the padding, which counts as nothing
letters_cancel : (labelling : Labelling) (number : ℕ) → IsGroup labelling → 0 < number → number ≤ generators_of labelling + 1
    → Cancels labelling (letters_of (generators_of labelling) number)
letters_cancel labelling number group positive within =
    let n = generators_of labelling in
    let P : List ℕ → Type 0 = Cancels labelling in
    elim (cases_eq number (n + 1)) [
      | inl padding ↦
          let none : letters_of n number ≡ [] = rw (eq-eqb number (n + 1) padding) refl in
          subst P (sym none) (empty_cancels labelling)
      | inr differ ↦
          let one : letters_of n number ≡ number ∷ [] = rw (ne_eqb number (n + 1) differ) refl in
          let inverse = group.each number positive (omega arith) in
          subst P (sym one) (letter_alone_cancels labelling number inverse.0 inverse.1)
    ]

-- one more letter of either word, where the label d before them leads to the label next
one_more : (labelling : Labelling) (front inverse d back next u v : List ℕ) → AreSame labelling (front ++ inverse) []
    → AreSame labelling (inverse ++ d ++ back) next → AreSame labelling u (next ++ v)
    → AreSame labelling (front ++ u) (d ++ (back ++ v))
one_more labelling front inverse d back next u v cancels leads rest =
    let P : List ℕ → Type 0 = λ w. AreSame labelling (front ++ (next ++ v)) w in
    let regroup : front ++ ((inverse ++ d ++ back) ++ v) ≡ (front ++ inverse) ++ (d ++ (back ++ v)) = simp append_assoc in
    let before : AreSame labelling (front ++ (next ++ v)) (front ++ ((inverse ++ d ++ back) ++ v)) =
    congruent_behind front (congruent_before v (congruent_symmetric leads)) in
    let both : AreSame labelling (front ++ (next ++ v)) ((front ++ inverse) ++ (d ++ (back ++ v))) = subst P regroup before in
    congruent_transitive (congruent_behind front rest)
    (congruent_transitive both (congruent_before (d ++ (back ++ v)) cancels))

module _ (labelling : Labelling) (group : IsGroup labelling) (agree : LabelWordsAgree labelling) where
  -- From a state that is reached, the rest of an accepted text has words that differ by x, but for the state's label.
  rest_differs : (text before : List ℕ) (state : ℕ) → All (IsPairSymbol (generators_of labelling)) text
      → state_after labelling.multiplier.table before ≡ state → AcceptsFrom labelling.multiplier.table state text
      → AreSame labelling (first_letters (generators_of labelling) text ++ labelling.x ∷ [])
      (labelling.label state ++ second_letters (generators_of labelling) text)
  rest_differs [] before state symbols leads accepts =
      let lies : LiesOnAcceptedText labelling.multiplier.table state = record { text = before; leads = leads; live = ([], accepts) } in
      let same : AreSame labelling (labelling.x ∷ []) (labelling.label state) =
      agree state lies (labelling.x ∷ []) (labelling.label state) (at_end accepts) own in
      let P : List ℕ → Type 0 = AreSame labelling (labelling.x ∷ []) in
      subst P (sym (append-nil (labelling.label state))) same
  rest_differs (symbol ∷ text) before state symbols leads accepts =
      let n = generators_of labelling in
      let table = labelling.multiplier.table in
      let next : ℕ = step table state symbol in
      let here : LiesOnAcceptedText table state = record { text = before; leads = leads; live = (symbol ∷ text, accepts) } in
      let longer : state_after table (before ++ symbol ∷ []) ≡ next =
      after-append table table.initial before (symbol ∷ []) ∙ ap (λ s. step table s symbol) leads in
      let there : LiesOnAcceptedText table next = record { text = before ++ symbol ∷ []; leads = longer; live = (text, accepts) } in
      let is : IsPairSymbol n symbol = All-head (IsPairSymbol n) symbol text symbols in
      let low = first_within n symbol is in
      let first = letters_cancel labelling (first_letter n symbol) group (omega arith) (omega arith) in
      let front : List ℕ = letters_of n (first_letter n symbol) in
      let back : List ℕ = letters_of n (second_letter n symbol) in
      let step_leads : AreSame labelling (first.inverse ++ labelling.label state ++ back) (labelling.label next) =
      agree next there (first.inverse ++ labelling.label state ++ back) (labelling.label next) (along symbol here refl first.inverts) own in
      let rest = rest_differs text (before ++ symbol ∷ []) next (All-tail (IsPairSymbol n) symbol text symbols) longer accepts in
      let P : List ℕ → Type 0 = λ w. AreSame labelling w (labelling.label state ++ (back ++ second_letters n text)) in
      subst P (sym (append_assoc front (first_letters n text) (labelling.x ∷ [])))
      (one_more labelling front first.inverse (labelling.label state) back (labelling.label next)
      (first_letters n text ++ labelling.x ∷ []) (second_letters n text) first.cancels step_leads rest)

  -- the multiplier relates only words that differ by x
  pub pairs_differ : RelatesProducts labelling
  pairs_differ u v over also accepts =
      let n = generators_of labelling in
      let table = labelling.multiplier.table in
      let text : List ℕ = padded n u v in
      let start : List ℕ = labelling.label table.initial in
      let symbols = symbols_of_padded n text (record { first = u; second = v; first_over = over; second_over = also; is_text = refl }) in
      let whole = rest_differs text [] table.initial symbols refl accepts in
      let lies : LiesOnAcceptedText table table.initial = record { text = []; leads = refl; live = (text, accepts) } in
      let empty : AreSame labelling [] start = agree table.initial lies [] start (at_start refl) own in
      let P : List ℕ → Type 0 = λ w. AreSame labelling (w ++ labelling.x ∷ []) (start ++ second_letters n text) in
      let Q : List ℕ → Type 0 = λ w. AreSame labelling (u ++ labelling.x ∷ []) (start ++ w) in
      let words : AreSame labelling (u ++ labelling.x ∷ []) (start ++ v) =
      subst Q (second_letters-padded n u v over also) (subst P (first_letters-padded n u v over also) whole) in
      congruent_transitive words (congruent_before v (congruent_symmetric empty))
