-- What the answer says of the words that the multiplier relates.
use Rattle.std.proofs.Common.{◌≡◌, ℕ, ◌+◌, nat_eq, List, [], ◌∷◌, ◌++◌, length, Option, Some, None, option_map, arith, if◌then◌else◌, refl, sym, ap, ◌∙◌, subst, inl, inr, append_assoc}
use Rattle.std.proofs.lemmas.Bool.{cases_Bool}
use Rattle.std.proofs.lemmas.List.{append-nil}
use Rattle.std.specs.Option.{option_and_then}
use Rattle.std.proofs.lemmas.Option.{none-some, same_Some}
use Rattle.kb_word.specs.Words.{Pair}
use Rattle.kb_word.specs.Relations.{inverse_letter, inverse_word, relations_of}
use Rattle.kb_word.specs.WordOrders.{Below}
use Rattle.kb_word.specs.WordOrderLaws.{word_orders}
use Rattle.kb_word.specs.Rewriting.{AreDecreasing, NormalForm}
use Rattle.kb_word.specs.declared.word_order.WordOrder.{WordOrder}
use Rattle.kb_word.specs.declared.presentation.Presentation.{Presentation}
use Rattle.kb_word.proofs.PathLemmas.{congruent_reflexive, congruent_symmetric, congruent_transitive, congruent_covered}
use Rattle.kb_rules.specs.Steps.{Leads}
use Rattle.kb_rules.proofs.Reducts.{normal_form_congruent}
use Rattle.kb_rules.proofs.Unique.{irreducible_is_normal}
use Rattle.kb_rules.proofs.Exists.{normal_form_exists}
use Rattle.kb_fsa.specs.declared.alphabet.Alphabet.TheVariants.{Pair as Pairs}
use Rattle.kb_fsa.specs.Language.{Automaton, IsAutomaton, generators}
use Rattle.kb_fsa.specs.Padding.{letters_of, first_letters, second_letters}
use Rattle.kb_fsa.specs.PairSymbols.{first_letter, second_letter}
use Rattle.kb_diff.specs.Groups.{EachInverts, group_of}
use Rattle.kb_diff.proofs.GroupLemmas.{empty_is_irreducible}
use Rattle.kb_structure.specs.Labels.{Labelling, relations, IsGroup, RelatesProducts, LiesOnAcceptedText, IsLabelWord, LabelsAreDifferences}
use Rattle.kb_structure.specs.Labels.IsLabelWord.{own}
use Rattle.kb_structure.proofs.Words.{congruent_behind, congruent_before}
use Rattle.kb_structure.proofs.Cancelling.{AreSame}
use Rattle.kb_structure.proofs.InverseRelations.{letter_cancels}
use Rattle.kb_structure.proofs.LabelWords.{pairs_differ}
use Rattle.kb_structure.proofs.TrueLabels.{label_words_agree}
use Rattle.kb_labels.specs.declared.labels.Labels.{Labels}
use Rattle.kb_labels.specs.declared.labels.Labels.TheVariants.{Agree, Differ}
use Rattle.kb_labels.specs.Labels.{Turns, IsAnswered, AreLabels, LabelsAgree, AreEqualSides, HaveOneNormalForm, labelling_of}
use Rattle.kb_labels.proofs.LabelTexts.{turned_irreducible}

-- a letter of pairs cancels with its inverse behind it
pub front_cancels : (labelling : Labelling) (n number : ℕ) (inverse : List ℕ) → inverse_word labelling.inverses (letters_of n number) ≡ Some inverse
    → AreSame labelling (letters_of n number ++ inverse) []
front_cancels labelling n number inverse is = by (letters_of n number) refl is
  where
    one_letter : (number : ℕ) (o : Option ℕ) → inverse_letter labelling.inverses number ≡ o
        → option_and_then (λ y. option_map (λ v. v ++ y ∷ []) (Some [])) o ≡ Some inverse
        → AreSame labelling (number ∷ inverse) []
    one_letter number None letter is = absurd (none-some inverse is)
    one_letter number (Some other) letter is =
        let same : other ∷ [] ≡ inverse = same_Some (other ∷ []) inverse is in
        let P : List ℕ → Type 0 = λ w. AreSame labelling (number ∷ w) [] in
        subst P same (letter_cancels labelling.inverses labelling.equations number other letter)

    two_letters : {first second : ℕ} {rest : List ℕ} → letters_of n number ≡ first ∷ second ∷ rest → ⊥
    two_letters {first} {second} {rest} is = elim (cases_Bool (nat_eq number (n + 1))) [
      | inl padding ↦
          let empty : letters_of n number ≡ [] = ap (λ b. if b then [] else number ∷ []) padding in
          let count = ap length (sym empty ∙ is) in let no : ⊥ = omega arith in no
      | inr letter ↦
          let alone : letters_of n number ≡ number ∷ [] = ap (λ b. if b then [] else number ∷ []) letter in
          let count = ap length (sym alone ∙ is) in let no : ⊥ = omega arith in no
    ]

    by : (w : List ℕ) → letters_of n number ≡ w → inverse_word labelling.inverses w ≡ Some inverse → AreSame labelling (w ++ inverse) []
    by [] word is =
        let same : [] ≡ inverse = same_Some [] inverse is in
        let P : List ℕ → Type 0 = λ w. AreSame labelling w [] in
        subst P same (congruent_reflexive [])
    by (number ∷ []) word is = one_letter number (inverse_letter labelling.inverses number) refl is
    by (number ∷ other ∷ more) word is = absurd (two_letters word)

module _ (presentation : Presentation) (rules : List Pair) (x : ℕ) (multiplier : Automaton) (label : ℕ → List ℕ)
    (each : EachInverts presentation.n presentation.inv)
    (mutually : (a b : ℕ) → inverse_letter presentation.inv a ≡ Some b → inverse_letter presentation.inv b ≡ Some a)
    (alphabet : multiplier.alphabet ≡ Pairs presentation.n) (order : WordOrder) (decreasing : AreDecreasing (Below order) rules) where
  abbrev labelling : Labelling
  labelling = labelling_of presentation x multiplier label

  is_group : IsGroup labelling
  is_group =
      let number : generators multiplier.alphabet ≡ presentation.n = ap generators alphabet in
      record { each = λ a positive within. each a positive (omega arith); mutual_inverses = mutually }

  module _ (equal_sides : AreEqualSides (relations labelling) rules) where
    -- a normal form is the same element
    same_as_normal : (w m : List ℕ) → NormalForm rules w m → AreSame labelling w m
    same_as_normal w m normal = congruent_covered equal_sides (normal_form_congruent normal)

    -- where labels agree, the multiplier relates only words that differ by its generator
    relates_products : LabelsAgree (group_of presentation rules) labelling → RelatesProducts labelling
    relates_products agree = pairs_differ labelling is_group (λ state lies word other one two.
        congruent_transitive (same_as_label state lies word one) (congruent_symmetric (same_as_label state lies other two)))
      where
        same_as_label : (state : ℕ) → LiesOnAcceptedText multiplier.table state → (word : List ℕ) → IsLabelWord labelling state word
            → AreSame labelling word (label state)
        same_as_label state lies word is =
            let normal = normal_form_exists (word_orders order) rules decreasing word in
            let P : List ℕ → Type 0 = AreSame labelling word in
            subst P (agree state lies normal.0 (record { word = word; is_label_word = is; normal = normal.1 }))
            (same_as_normal word normal.0 normal.1)

    -- the label along a text is the difference of its words
    turned_differs : (d text e : List ℕ) → Leads (Turns (group_of presentation rules)) d text e
        → AreSame labelling (first_letters presentation.n text ++ e) (d ++ second_letters presentation.n text)
    turned_differs d [] e is =
        let P : List ℕ → Type 0 = λ w. AreSame labelling e w in
        let Q : List ℕ → Type 0 = λ w. AreSame labelling w d in
        subst P (sym (append-nil d)) (subst Q is (congruent_reflexive d))
    turned_differs d (symbol ∷ text) e leads =
        let n : ℕ = presentation.n in
        let next : List ℕ = leads.0 in
        let f : List ℕ = letters_of n (first_letter n symbol) in
        let g : List ℕ = letters_of n (second_letter n symbol) in
        let u : List ℕ = first_letters n text in
        let v : List ℕ = second_letters n text in
        let inverse : List ℕ = leads.1.inverse in
        let later = turned_differs next text e leads.2 in
        let here = same_as_normal (inverse ++ d ++ g) next leads.1.normal in
        let front : (f ++ u) ++ e ≡ f ++ (u ++ e) = append_assoc f u e in
        let regroup : f ++ ((inverse ++ d ++ g) ++ v) ≡ (f ++ inverse) ++ (d ++ (g ++ v)) = simp append_assoc in
        let P : List ℕ → Type 0 = λ w. AreSame labelling w (d ++ (g ++ v)) in
        let Q : List ℕ → Type 0 = λ w. AreSame labelling (f ++ (next ++ v)) w in
        let turned : AreSame labelling (f ++ (next ++ v)) ((f ++ inverse) ++ (d ++ (g ++ v))) =
        subst Q regroup (congruent_behind f (congruent_before v (congruent_symmetric here))) in
        let cancels = front_cancels labelling n (first_letter n symbol) inverse leads.1.inverts in
        subst P (sym front)
        (congruent_transitive (congruent_behind f later)
        (congruent_transitive turned (congruent_before (d ++ (g ++ v)) cancels)))

    differences : AreLabels (group_of presentation rules) labelling → LabelsAreDifferences labelling
    differences are state lies =
        let is = are state lies in
        let number : generators multiplier.alphabet ≡ presentation.n = ap generators alphabet in
        let P : ℕ → Type 0 = λ n. AreSame labelling (first_letters n is.text ++ label state) (second_letters n is.text) in
        record { text = is.text; leads = is.least.leads; differs = subst P (sym number) (turned_differs [] is.text (label state) is.turned) }

    -- where congruent words have one normal form, labels of true multipliers agree
    module _ (automaton : IsAutomaton multiplier) (one_normal : HaveOneNormalForm (relations labelling) rules) where
      labels_agree : AreLabels (group_of presentation rules) labelling → RelatesProducts labelling
          → LabelsAgree (group_of presentation rules) labelling
      labels_agree are products state lies reduced is =
          let alike = label_words_agree labelling is_group automaton (alphabet ∙ ap Pairs (sym (ap generators alphabet))) (differences are) products in
          let own_label = are state lies in
          let irreducible = turned_irreducible (group_of presentation rules) [] own_label.text (label state)
          (empty_is_irreducible order rules decreasing) own_label.turned in
          one_normal is.word (label state) reduced (label state) (alike state lies is.word (label state) is.is_label_word own)
          is.normal (irreducible_is_normal rules (label state) irreducible)

module _ (presentation : Presentation) (rules : List Pair) (x : ℕ) (multiplier : Automaton)
    (each : EachInverts presentation.n presentation.inv)
    (mutually : (a b : ℕ) → inverse_letter presentation.inv a ≡ Some b → inverse_letter presentation.inv b ≡ Some a)
    (alphabet : multiplier.alphabet ≡ Pairs presentation.n) (order : WordOrder) (decreasing : AreDecreasing (Below order) rules) where
  -- the answer `Agree` says that the multiplier relates only words that differ by its generator
  pub agree_is_sound : IsAnswered (group_of presentation rules) presentation x multiplier Agree
      → AreEqualSides (relations_of presentation.inv presentation.eqs) rules
      → (label : ℕ → List ℕ) → RelatesProducts (labelling_of presentation x multiplier label)
  agree_is_sound answered equal_sides label =
      relates_products presentation rules x multiplier answered.label each mutually alphabet order decreasing equal_sides answered.is_answer

  -- and comes where it does, by confluent rules of the group
  pub agree_is_complete : (labels : Labels) → IsAnswered (group_of presentation rules) presentation x multiplier labels → IsAutomaton multiplier
      → AreEqualSides (relations_of presentation.inv presentation.eqs) rules
      → HaveOneNormalForm (relations_of presentation.inv presentation.eqs) rules
      → (label : ℕ → List ℕ) → RelatesProducts (labelling_of presentation x multiplier label) → labels ≡ Agree
  agree_is_complete Agree answered automaton equal_sides one_normal label products = refl
  agree_is_complete (Differ state word other) answered automaton equal_sides one_normal label products =
      let agree = labels_agree presentation rules x multiplier answered.label each mutually alphabet order decreasing equal_sides automaton one_normal
      answered.are_labels products in
      let apart = answered.is_answer in
      absurd (apart.different (agree state apart.lies other apart.reduced ∙ sym apart.is_label))
