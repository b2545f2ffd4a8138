-- What the first word apart says of a multiplier's labels.
use Rattle.std.proofs.Common.{◌≡◌, ◌≢◌, ◌⊎◌, ℕ, zero, suc, ◌<◌, nat_eq, List, [], ◌∷◌, ◌++◌, length, get_or, slice_get, Option, Some, None, if◌then◌else◌, refl, sym, ap, ◌∙◌, subst, inl, inr, arith}
use Rattle.std.proofs.lemmas.Bool.{cases_order, eq-eqb, ne_eqb}
use Rattle.std.proofs.lemmas.List.{get_or_default}
use Rattle.std.proofs.lemmas.Option.{none-some, same_Some, slice_get_within}
use Rattle.kb_word.specs.Words.{Pair, OneOf, Less, shorter}
use Rattle.kb_word.specs.WordOrders.{Below}
use Rattle.kb_word.specs.ShortlexLaws.{shortlex_irreflexive, shortlex_transitive, shortlex_total}
use Rattle.kb_word.specs.Relations.{inverse_word}
use Rattle.kb_word.specs.Rewriting.{AreDecreasing, IsIrreducible, NormalForm}
use Rattle.kb_word.specs.declared.presentation.Presentation.{Presentation}
use Rattle.kb_word.specs.declared.word_order.WordOrder.{WordOrder}
use Rattle.kb_rules.specs.Steps.{Leads}
use Rattle.kb_rules.proofs.Unique.{normal_form_of_irreducible}
use Rattle.kb_fsa.specs.declared.alphabet.Alphabet.TheVariants.{Pair as Pairs}
use Rattle.kb_fsa.specs.Table.{Table, step, moves_of}
use Rattle.kb_fsa.specs.Canonical.{IsLeastText}
use Rattle.kb_fsa.specs.Language.{Automaton, generators}
use Rattle.kb_fsa.specs.Padding.{letters_of}
use Rattle.kb_fsa.specs.PairSymbols.{first_letter, second_letter}
use Rattle.kb_fsa.specs.Graphs.{source, end}
use Rattle.kb_fsa.specs.Moves.{AreBackward}
use Rattle.kb_fsa.proofs.Lookups.{entry_from_lookup, lookup_from_target, step_past}
use Rattle.kb_explore.proofs.ExplorationLemmas.{one_least_text}
use Rattle.kb_diff.specs.Groups.{Group, group_of}
use Rattle.kb_diff.proofs.GroupLemmas.{empty_is_irreducible}
use Rattle.kb_structure.specs.Labels.{Labelling, generators_of, LiesOnAcceptedText, IsLabelWord, first_of, second_of}
use Rattle.kb_structure.specs.Labels.IsLabelWord.{own, at_start, at_end, along}
use Rattle.kb_labels.specs.declared.labels.Labels.TheVariants.{Agree, Differ}
use Rattle.kb_labels.specs.declared.apart.Apart.{Apart}
use Rattle.kb_labels.specs.Labels.{Turns, IsLabel, AreLabels, IsReducedLabelWord, LabelsAgree, IsFirstDiffering, IsAnswered, labelling_of}
use Rattle.kb_labels.specs.Places.{AreInOrder, AreFromOrigins, label_at}
use Rattle.kb_labels.specs.Comparing.{ComesBefore, earlier, less, IsFirstApart, IsWordAt}
use Rattle.kb_labels.specs.Comparing.IsFirstApart.{none, some}
use Rattle.kb_labels.proofs.LiveStates.{none_live}
use Rattle.kb_labels.proofs.LabelTexts.{traced_label, turned_irreducible}

-- the label beside a state
label_of : List ℕ → List (List ℕ) → ℕ → List ℕ
label_of [] labels state = []
label_of (first ∷ states) [] state = []
label_of (first ∷ states) (label ∷ labels) state = if nat_eq first state then label else label_of states labels state

label_of-at : (states : List ℕ) (labels : List (List ℕ)) (place state : ℕ)
    → ((p q s : ℕ) → slice_get states p ≡ Some s → slice_get states q ≡ Some s → p ≡ q)
    → slice_get states place ≡ Some state → label_of states labels state ≡ label_at labels place
unfolding label_of
label_of-at [] labels place state distinct at = absurd (none-some state at)
label_of-at (first ∷ states) [] place state distinct at = refl
label_of-at (first ∷ states) (label ∷ labels) zero state distinct at =
    ap (λ b. if b then label else label_of states labels state) (eq-eqb first state (same_Some first state at))
label_of-at (first ∷ states) (label ∷ labels) (suc place) state distinct at =
    let differ : first ≢ state = λ same. let no = distinct 0 (suc place) state (ap (λ s. Some s) same) at in let not : ⊥ = omega arith in not in
    ap (λ b. if b then label else label_of states labels state) (ne_eqb first state differ)
    ∙ label_of-at states labels place state (λ p q s one two. let next = distinct (suc p) (suc q) s one two in omega arith) at

words_equal : (u v : List ℕ) → (u ≡ v) ⊎ (u ≢ v)
words_equal u v = elim (shortlex_total u v) [
  | inl same ↦ inl same
  | inr apart ↦ inr (λ same.
      let P : List ℕ → Type 0 = λ w. Less w v in
      let Q : List ℕ → Type 0 = λ w. Less v w in
      elim apart [ inl low ↦ shortlex_irreflexive v (subst P same low) | inr high ↦ shortlex_irreflexive v (subst Q same high) ])
]

-- the empty word is the only least text of the initial state
empty_least : (table : Table) (text : List ℕ) → IsLeastText table table.initial text → [] ≡ text
empty_least table [] least = refl
empty_least table (symbol ∷ text) least = absurd (least.least [] refl (shorter (omega arith)))

-- what is known of a multiplier's labels
record AreKnown (group : Group) (labelling : Labelling) (states : List ℕ) (origins : List (ℕ × ℕ)) (labels : List (List ℕ)) : Type 0 where
  pub inverses : labelling.inverses ≡ group.inverses
  pub number_is : generators_of labelling ≡ group.n
  pub label : (place state : ℕ) → slice_get states place ≡ Some state → labelling.label state ≡ label_at labels place
  pub in_order : AreInOrder group.n labelling.multiplier.table states origins
  pub count : length labels ≡ length states
  pub from_origins : AreFromOrigins group origins labels
  pub empty : IsIrreducible (OneOf group.rules) []

module _ {group : Group} {labelling : Labelling} {states : List ℕ} {origins : List (ℕ × ℕ)} {labels : List (List ℕ)}
    (known : AreKnown group labelling states origins labels) where
  label_at_place : (place state : ℕ) → slice_get states place ≡ Some state → IsLabel group labelling.multiplier.table state (label_at labels place)
  label_at_place place state at =
      let text = known.in_order.text_of place state at in
      let count = known.count in
      record {
        text = text.0;
        least = text.1.least;
        turned = traced_label group origins labels known.from_origins known.in_order.from_earlier (suc place) text.0 text.1.traced place refl
            (omega (arith, slice_get_within states place state at));
      }

  are_labels : AreLabels group labelling
  are_labels state lies =
      let there = known.in_order.each state lies in
      let P : List ℕ → Type 0 = λ w. IsLabel group labelling.multiplier.table state w in
      subst P (sym (known.label there.0 state there.1)) (label_at_place there.0 state there.1)

  label_irreducible : (place state : ℕ) → slice_get states place ≡ Some state → IsIrreducible (OneOf group.rules) (label_at labels place)
  label_irreducible place state at =
      let is = label_at_place place state at in
      turned_irreducible group [] is.text (label_at labels place) known.empty is.turned

  initial_label : (place : ℕ) → slice_get states place ≡ Some labelling.multiplier.table.initial → label_at labels place ≡ []
  initial_label place at =
      let is = label_at_place place labelling.multiplier.table.initial at in
      let P : List ℕ → Type 0 = λ text. Leads (Turns group) [] text (label_at labels place) in
      let turned : Leads (Turns group) [] [] (label_at labels place) =
      subst P (sym (empty_least labelling.multiplier.table is.text is.least)) is.turned in
      sym turned

  -- the words of a move, in the group and in the labelling
  front_same : (symbol : ℕ) (inverse : List ℕ) → inverse_word group.inverses (letters_of group.n (first_letter group.n symbol)) ≡ Some inverse
      → inverse_word labelling.inverses (first_of labelling symbol) ≡ Some inverse
  front_same symbol inverse is =
      let P : ℕ → Type 0 = λ n. inverse_word group.inverses (letters_of n (first_letter n symbol)) ≡ Some inverse in
      ap (λ inverses. inverse_word inverses (first_of labelling symbol)) known.inverses ∙ subst P (sym known.number_is) is

  front_back : (symbol : ℕ) (inverse : List ℕ) → inverse_word labelling.inverses (first_of labelling symbol) ≡ Some inverse
      → inverse_word group.inverses (letters_of group.n (first_letter group.n symbol)) ≡ Some inverse
  front_back symbol inverse is =
      let P : ℕ → Type 0 = λ n. inverse_word group.inverses (letters_of n (first_letter n symbol)) ≡ Some inverse in
      subst P known.number_is (sym (ap (λ inverses. inverse_word inverses (first_of labelling symbol)) known.inverses) ∙ is)

  -- the normal forms that are compared are those of label words
  move_reduced : (from symbol state : ℕ) (from_place : ℕ) (word : List ℕ) → slice_get states from_place ≡ Some from
      → step labelling.multiplier.table from symbol ≡ state → Turns group (label_at labels from_place) symbol word
      → IsReducedLabelWord group labelling state word
  move_reduced from symbol state from_place word at moves turned =
      let inverse : List ℕ = turned.inverse in
      let P : ℕ → Type 0 = λ n. NormalForm group.rules (inverse ++ label_at labels from_place ++ letters_of n (second_letter n symbol)) word in
      let Q : List ℕ → Type 0 = λ w. NormalForm group.rules (inverse ++ w ++ second_of labelling symbol) word in
      record {
        word = inverse ++ labelling.label from ++ second_of labelling symbol;
        is_label_word = along symbol (known.in_order.lies from_place from at) moves (front_same symbol inverse turned.inverts);
        normal = subst Q (sym (known.label from_place from at)) (subst P (sym known.number_is) turned.normal);
      }

  state_positive : (place state : ℕ) → slice_get states place ≡ Some state → 0 < state
  state_positive place zero at = absurd (none_live labelling.multiplier.table (known.in_order.lies place 0 at).live)
  state_positive place (suc state) at = omega arith

  -- each normal form of a label word is compared, but for those that are labels
  module _ (edges : List (ℕ × ℕ)) (symbols : List ℕ) (count : ℕ) (count_is : count ≡ suc (length labelling.multiplier.table.rows))
      (moves : AreBackward labelling.multiplier.table count 0 edges symbols) where
    abbrev Words : ℕ → List ℕ → Type 0
    Words = IsWordAt group labelling.multiplier.table labelling.x states labels edges symbols (length edges)

    word_reduced : (place state : ℕ) (word : List ℕ) → slice_get states place ≡ Some state → Words place word
        → IsReducedLabelWord group labelling state word
    word_reduced place state word at (inl ends) =
        let same : ends.state ≡ state = same_Some ends.state state (sym ends.at ∙ at) in
        let P : ℕ → Type 0 = λ s. IsReducedLabelWord group labelling s word in
        subst P same (record { word = labelling.x ∷ []; is_label_word = at_end ends.accepts; normal = ends.normal })
    word_reduced place state word at (inr early) =
        let backward = moves.sound early.number early.early in
        let same : source edges early.number ≡ state = same_Some (source edges early.number) state (sym early.is.to_there ∙ at) in
        let P : ℕ → Type 0 = λ s. IsReducedLabelWord group labelling s word in
        subst P same
        (move_reduced (end edges early.number) (get_or symbols early.number 0) (source edges early.number) early.is.from_place word
        early.is.from_there backward.step early.is.turned)

    -- a move of a state is one of those that are given backwards
    move_number : (from symbol state : ℕ) → 0 < state → step labelling.multiplier.table from symbol ≡ state
        → (number : ℕ) × ((number < length edges) × ((get_or symbols number 0 ≡ symbol) × ((source edges number ≡ state) × (end edges number ≡ from))))
    move_number from symbol state positive moves_there =
        let table = labelling.multiplier.table in
        let row = moves_of table from in
        let entry = entry_from_lookup row symbol state (lookup_from_target row symbol state positive moves_there) in
        let low : from < count = elim (cases_order from count) [
          | inl same ↦ absurd (past (omega (arith, same, count_is)))
          | inr differ ↦ elim differ [ inl below ↦ below | inr above ↦ absurd (past (omega (arith, above, count_is))) ]
        ] in
        let has = moves.complete from entry.0 low entry.1 in
        let there : get_or row entry.0 (0, 0) ≡ (symbol, state) = get_or_default row entry.0 (0, 0) (symbol, state) entry.1 ∙ entry.2 in
        (has.number, (has.within, (has.symbol ∙ ap (λ (m : ℕ × ℕ). m.0) there, (has.from_there ∙ ap (λ (m : ℕ × ℕ). m.1) there, has.to_state))))
      where
        past : length labelling.multiplier.table.rows < from → ⊥
        past more = omega (arith, step_past labelling.multiplier.table from symbol more, moves_there, positive)

    compared_reduced : (place state : ℕ) (word reduced : List ℕ) → slice_get states place ≡ Some state → IsLabelWord labelling state word
        → NormalForm group.rules word reduced → (reduced ≡ label_at labels place) ⊎ Words place reduced
    compared_reduced place state word reduced at own normal =
        let P : List ℕ → Type 0 = λ w. NormalForm group.rules w reduced in
        inl (normal_form_of_irreducible (label_irreducible place state at) (subst P (known.label place state at) normal))
    compared_reduced place state word reduced at (at_start is) normal =
        let P : ℕ → Type 0 = λ s. slice_get states place ≡ Some s in
        inl (normal_form_of_irreducible known.empty normal ∙ sym (initial_label place (subst P is at)))
    compared_reduced place state word reduced at (at_end accepts) normal =
        inr (inl (record { early = slice_get_within states place state at; state = state; at = at; accepts = accepts; normal = normal }))
    compared_reduced place state word reduced at (along {from} symbol {inverse} lies moves_there inverts) normal =
        let positive : 0 < state = state_positive place state at in
        let number = move_number from symbol state positive moves_there in
        let there = known.in_order.each from lies in
        let P : ℕ → Type 0 = λ n. NormalForm group.rules (inverse ++ label_at labels there.0 ++ letters_of n (second_letter n symbol)) reduced in
        let Q : List ℕ → Type 0 = λ w. NormalForm group.rules (inverse ++ w ++ second_of labelling symbol) reduced in
        let turned : Turns group (label_at labels there.0) symbol reduced = record {
          inverse = inverse;
          inverts = front_back symbol inverse inverts;
          normal = subst P known.number_is (subst Q (known.label there.0 from there.1) normal);
        } in
        let S : ℕ → Type 0 = λ s. Turns group (label_at labels there.0) s reduced in
        let F : ℕ → Type 0 = λ f. slice_get states there.0 ≡ Some f in
        let T : ℕ → Type 0 = λ t. slice_get states place ≡ Some t in
        inr (inr (record {
          number = number.0;
          early = number.1.0;
          is = record {
            from_place = there.0;
            from_there = subst F (sym number.1.1.1.1) there.1;
            to_there = subst T (sym number.1.1.1.0) at;
            turned = subst S (sym number.1.1.0) turned;
          };
        }))

    label_agrees : (place state : ℕ) (reduced : List ℕ) → slice_get states place ≡ Some state → IsReducedLabelWord group labelling state reduced
        → (reduced ≡ label_at labels place) ⊎ Words place reduced
    label_agrees place state reduced at is = compared_reduced place state is.word reduced at is.is_label_word is.normal

    -- where no word is apart, the labels agree
    none_apart : ((place : ℕ) (word : List ℕ) → Words place word → word ≡ label_at labels place) → LabelsAgree group labelling
    none_apart all state lies reduced is =
        let there = known.in_order.each state lies in
        let label = sym (known.label there.0 state there.1) in
        elim (label_agrees there.0 state reduced there.1 is) [
          | inl same ↦ same ∙ label
          | inr word ↦ all there.0 reduced word ∙ label
        ]

    -- the first word apart is that of the first state that differs
    module _ (place : ℕ) (word : List ℕ) (own_word : Words place word) (differs : word ≢ label_at labels place)
        (first : (other : ℕ) (more : List ℕ) → Words other more → more ≢ label_at labels other → ¬ ComesBefore group.order other more place word) where
      earlier_agrees : (state : ℕ) → slice_get states place ≡ Some state → (former : ℕ) (text more : List ℕ)
          → LiesOnAcceptedText labelling.multiplier.table former
          → IsLeastText labelling.multiplier.table former text → IsLeastText labelling.multiplier.table state more → Less text more
          → (reduced : List ℕ) → IsReducedLabelWord group labelling former reduced → reduced ≡ labelling.label former
      earlier_agrees state at former text more lies least next less_text reduced is =
          let there = known.in_order.each former lies in
          let label = sym (known.label there.0 former there.1) in
          let before : there.0 < place = elim (cases_order there.0 place) [
            | inl same ↦
                let P : ℕ → Type 0 = λ p. slice_get states p ≡ Some former in
                let state_is : former ≡ state = same_Some former state (sym (subst P same there.1) ∙ at) in
                let Q : ℕ → Type 0 = λ s. IsLeastText labelling.multiplier.table s text in
                let R : List ℕ → Type 0 = λ t. Less t more in
                absurd (shortlex_irreflexive more
                (subst R (one_least_text labelling.multiplier.table state text more (subst Q state_is least) next) less_text))
            | inr differ ↦ elim differ [
              | inl low ↦ low
              | inr high ↦
                  let greater = known.in_order.ascending place there.0 state former more text high at there.1 next least in
                  absurd (shortlex_irreflexive text (shortlex_transitive text more text less_text greater))
            ]
          ] in
          elim (label_agrees there.0 former reduced there.1 is) [
            | inl same ↦ same ∙ label
            | inr word_there ↦ elim (words_equal reduced (label_at labels there.0)) [
              | inl same ↦ same ∙ label
              | inr apart ↦ absurd (first there.0 reduced word_there apart (earlier before))
            ]
          ]

      some_apart : (state : ℕ) → slice_get states place ≡ Some state → IsFirstDiffering group labelling state (label_at labels place) word
      some_apart state at = record {
        lies = known.in_order.lies place state at;
        is_label = sym (known.label place state at);
        reduced = word_reduced place state word at own_word;
        different = differs;
        least = λ reduced is apart below. elim (label_agrees place state reduced at is) [
          | inl same ↦ apart same
          | inr word_there ↦ first place reduced word_there apart (less refl below)
        ];
        first = earlier_agrees state at;
      }

module _ (presentation : Presentation) (rules : List Pair) (x : ℕ) (multiplier : Automaton) (states : List ℕ) (origins : List (ℕ × ℕ))
    (labels : List (List ℕ)) (order : WordOrder) (decreasing : AreDecreasing (Below order) rules) (alphabet : multiplier.alphabet ≡ Pairs presentation.n)
    (ordered : AreInOrder presentation.n multiplier.table states origins) (count : length labels ≡ length states)
    (from_origins : AreFromOrigins (group_of presentation rules) origins labels) (edges : List (ℕ × ℕ)) (symbols : List ℕ)
    (moves : AreBackward multiplier.table (suc (length multiplier.table.rows)) 0 edges symbols) where
  known_labels : AreKnown (group_of presentation rules) (labelling_of presentation x multiplier (label_of states labels)) states origins labels
  known_labels =
      let number : generators multiplier.alphabet ≡ presentation.n = ap generators alphabet in
      record {
        inverses = refl;
        number_is = number;
        label = λ place state at. label_of-at states labels place state ordered.distinct at;
        in_order = ordered;
        count = count;
        from_origins = from_origins;
        empty = empty_is_irreducible order rules decreasing;
      }

  -- what is found is at a place
  pub found_within : (found : Option Apart) (apart : Apart) → found ≡ Some apart
      → IsFirstApart presentation.order labels
      (IsWordAt (group_of presentation rules) multiplier.table x states labels edges symbols (length edges)) found
      → apart.place < length states
  found_within found apart is (none all) = absurd (none-some apart is)
  found_within found apart is (some {apart = own_apart} own_word differ first) =
      let P : Apart → Type 0 = λ a. a.place < length states in
      subst P (same_Some own_apart apart is) (word_within own_apart.place own_apart.word own_word)
    where
      word_within : (place : ℕ) (word : List ℕ)
          → IsWordAt (group_of presentation rules) multiplier.table x states labels edges symbols (length edges) place word
          → place < length states
      word_within place word (inl ends) = ends.early
      word_within place word (inr early) = slice_get_within states place (source edges early.number) early.is.to_there

  -- the answer, by what is found
  pub agrees : (found : Option Apart) → found ≡ None
      → IsFirstApart presentation.order labels
      (IsWordAt (group_of presentation rules) multiplier.table x states labels edges symbols (length edges)) found
      → IsAnswered (group_of presentation rules) presentation x multiplier Agree
  agrees found is (none all) = record {
    label = label_of states labels;
    are_labels = are_labels known_labels;
    is_answer = none_apart known_labels edges symbols (suc (length multiplier.table.rows)) refl moves all;
  }
  agrees found is (some {apart} own_word differs first) = absurd (none-some apart (sym is))

  pub differs : (found : Option Apart) (apart : Apart) (state : ℕ) → found ≡ Some apart → slice_get states apart.place ≡ Some state
      → IsFirstApart presentation.order labels
      (IsWordAt (group_of presentation rules) multiplier.table x states labels edges symbols (length edges)) found
      → IsAnswered (group_of presentation rules) presentation x multiplier (Differ state (label_at labels apart.place) apart.word)
  differs found apart state is at (none all) = absurd (none-some apart is)
  differs found apart state is at (some {apart = own_apart} own_word differ first) =
      let same : own_apart ≡ apart = same_Some own_apart apart is in
      let P : Apart → Type 0 = λ a. IsWordAt (group_of presentation rules) multiplier.table x states labels edges symbols (length edges) a.place a.word in
      let Q : Apart → Type 0 = λ a. a.word ≢ label_at labels a.place in
      let R : Apart → Type 0 = λ a. (place : ℕ) (word : List ℕ)
      → IsWordAt (group_of presentation rules) multiplier.table x states labels edges symbols (length edges) place word
      → word ≢ label_at labels place → ¬ ComesBefore presentation.order place word a.place a.word in
      record {
        label = label_of states labels;
        are_labels = are_labels known_labels;
        is_answer = some_apart known_labels edges symbols (suc (length multiplier.table.rows)) refl moves apart.place apart.word
            (subst P same own_word) (subst Q same differ) (subst R same first) state at;
      }
