-- By rules a multiplier has one answer of its label words, and among multipliers there is one first state whose label
-- words have different normal forms.
use Rattle.std.proofs.Common.{◌≡◌, ◌∙◌, inl, inr, ℕ, ◌<◌, List, ◌++◌, length, refl, sym, ap, subst}
use Rattle.std.proofs.lemmas.Option.{same_Some}
use Rattle.kb_word.specs.Presentations.{PresentationParts, parts_of}
use Rattle.kb_word.specs.ShortlexLaws.{shortlex_total}
use Rattle.kb_word.specs.WordOrderLaws.{word_orders}
use Rattle.kb_word.specs.WordOrders.{Below}
use Rattle.kb_word.specs.Words.{Less, Pair as Sides}
use Rattle.kb_word.specs.declared.presentation.Presentation.{Presentation}
use Rattle.kb_fsa.specs.Canonical.{IsLeastText}
use Rattle.kb_fsa.specs.Language.{Automaton}
use Rattle.kb_fsa.specs.Table.{state_after}
use Rattle.kb_diff.specs.Groups.{Group, group_of}
use Rattle.kb_structure.specs.Labels.{IsLabelWord, Labelling, LiesOnAcceptedText, second_of}
use Rattle.kb_structure.specs.Labels.IsLabelWord.{own, at_start, at_end, along}
use Rattle.kb_structure.specs.StructureOf.{multiplier_of}
use Rattle.kb_certificates.proofs.Loops.{multiplier_within}
use Rattle.kb_labels.specs.Labels.{AreLabels, IsAnswer, IsAnswered, IsReducedLabelWord, labelling_of}
use Rattle.kb_labels.specs.declared.labels.Labels.{Labels}
use Rattle.kb_labels.specs.declared.labels.Labels.TheVariants.{Agree, Differ}
use Rattle.kb_labels.proofs.Unique.{one_label}
use Rattle.kb_axioms.specs.Truth.{AgreeUpTo, IsFirstUnresolved}
use Rattle.kb_cmd_structures.specs.FirstCertificates.{neither_lower}
use Rattle.kb_cmd_structures.specs.RefusalLaws.{moved}

-- ---- one multiplier

module _ (group : Group) (presentation : Presentation) (x : ℕ) (multiplier : Automaton) where
  abbrev Labelled : (ℕ → List ℕ) → Labelling
  Labelled label = labelling_of presentation x multiplier label

  abbrev IsAnsweredBy : Labels → Type 0
  IsAnsweredBy labels = IsAnswered group presentation x multiplier labels

  -- labels and other ones are the same at each state that lies on an accepted text
  module _ {label other : ℕ → List ℕ} (labels : AreLabels group (Labelled label))
      (others : AreLabels group (Labelled other)) {state : ℕ}
      (lies : LiesOnAcceptedText multiplier.table state) where
    same_label : label state ≡ other state
    same_label =
        one_label group multiplier.table state (label state) (other state) (labels state lies)
        (others state lies)

  -- so it has the same label words by both
  module _ {label other : ℕ → List ℕ} (labels : AreLabels group (Labelled label))
      (others : AreLabels group (Labelled other)) {state : ℕ}
      (lies : LiesOnAcceptedText multiplier.table state) where
    same_label_word : {word : List ℕ} → IsLabelWord (Labelled label) state word
        → IsLabelWord (Labelled other) state word
    same_label_word own =
        let Is : List ℕ → Type 0 = λ w. IsLabelWord (Labelled other) state w in
        subst Is (sym (same_label labels others lies)) own
    same_label_word (at_start is) = at_start is
    same_label_word (at_end accepts) = at_end accepts
    same_label_word (along {from} symbol {inverse} before moves inverts) =
        let Is : List ℕ → Type 0 = λ w. IsLabelWord (Labelled other) state
        (inverse ++ w ++ second_of (Labelled other) symbol) in
        subst Is (sym (same_label labels others before)) (along symbol before moves inverts)

    same_reduced : {reduced : List ℕ} → IsReducedLabelWord group (Labelled label) state reduced
        → IsReducedLabelWord group (Labelled other) state reduced
    same_reduced is =
        record {
          word = is.word;
          is_label_word = same_label_word is.is_label_word;
          normal =
              is.normal;
        }

  -- where the label words of each state agree, those of none differ
  pub agreeing : {state : ℕ} {label other : List ℕ} → IsAnsweredBy Agree
      → ¬ IsAnsweredBy (Differ state label other)
  agreeing {state} {label} {other} agree differ =
      let first = differ.is_answer in
      let reduced = same_reduced differ.are_labels agree.are_labels first.lies first.reduced in
      first.different
      (agree.is_answer state first.lies other reduced
      ∙ (same_label agree.are_labels differ.are_labels first.lies ∙ sym first.is_label))

  module _ {state second : ℕ} {label other again also : List ℕ}
      (one : IsAnsweredBy (Differ state label other))
      (two : IsAnsweredBy (Differ second again also)) where
    -- no state differs before the first that does
    not_before : (text more : List ℕ) → IsLeastText multiplier.table state text
        → IsLeastText multiplier.table second more → ¬ Less text more
    not_before text more least next less =
        let first = one.is_answer in
        let reduced = same_reduced one.are_labels two.are_labels first.lies first.reduced in
        first.different
        (two.is_answer.first state text more first.lies least next less other reduced
        ∙ (same_label two.are_labels one.are_labels first.lies ∙ sym first.is_label))

  module _ {state second : ℕ} {label other again also : List ℕ}
      (one : IsAnsweredBy (Differ state label other))
      (two : IsAnsweredBy (Differ second again also)) where
    one_state : state ≡ second
    one_state =
        let here = one.are_labels state one.is_answer.lies in
        let there = two.are_labels second two.is_answer.lies in
        elim (shortlex_total here.text there.text) [
          | inl same ↦
              sym here.least.leads
              ∙ (ap (λ (t : List ℕ). state_after multiplier.table t) same ∙ there.least.leads)
          | inr (inl less) ↦
              absurd (not_before one two here.text there.text here.least there.least less)
          | inr (inr greater) ↦
              absurd (not_before two one there.text here.text there.least here.least greater)
        ]

    one_own_label : label ≡ again
    one_own_label =
        one.is_answer.is_label
        ∙ (same_label one.are_labels two.are_labels one.is_answer.lies
        ∙ (ap two.label one_state ∙ sym two.is_answer.is_label))

    -- the other normal form is not below the least one
    not_below : ¬ Below group.order other also
    not_below =
        let first = one.is_answer in
        let Is : ℕ → Type 0 = λ s. IsReducedLabelWord group (Labelled two.label) s other in
        let reduced = same_reduced one.are_labels two.are_labels first.lies first.reduced in
        two.is_answer.least other (subst Is one_state reduced)
        (λ same. first.different (same ∙ sym one_own_label))

  module _ {state second : ℕ} {label other again also : List ℕ}
      (one : IsAnsweredBy (Differ state label other))
      (two : IsAnsweredBy (Differ second again also)) where
    one_other : other ≡ also
    one_other = elim ((word_orders group.order).total other also) [
      | inl same ↦ same
      | inr (inl below) ↦ absurd (not_below one two below)
      | inr (inr above) ↦ absurd (not_below two one above)
    ]

    one_difference : Differ state label other ≡ Differ second again also
    one_difference =
        ap (λ s. Differ s label other) (one_state one two)
        ∙ (ap (λ w. Differ second w other) (one_own_label one two)
        ∙ ap (λ w. Differ second again w) one_other)

  -- of a multiplier's label words there is one answer
  pub one_answer : (labels others : Labels) → IsAnsweredBy labels → IsAnsweredBy others
      → labels ≡ others
  one_answer Agree Agree one two = refl
  one_answer Agree (Differ state label other) one two = absurd (agreeing one two)
  one_answer (Differ state label other) Agree one two = absurd (agreeing two one)
  one_answer (Differ state label other) (Differ second again also) one two = one_difference one two

-- ---- all multipliers

module _ (presentation : Presentation) (rules : List Sides) (multipliers : List Automaton) where
  abbrev IsFirst : ℕ → ℕ → List ℕ → List ℕ → Type 0
  IsFirst = IsFirstUnresolved presentation rules multipliers

  -- where the label words of all multipliers agree, none is unresolved
  pub none_unresolved : {x state : ℕ} {label other : List ℕ}
      → AgreeUpTo presentation rules multipliers (length multipliers)
      → ¬ IsFirst x state label other
  none_unresolved {x} agree first =
      agreeing (group_of presentation rules) presentation x first.multiplier
      (agree x first.multiplier
      (multiplier_within multipliers x first.multiplier first.is_multiplier) first.is_multiplier)
      first.answered

  module _ {x y state second : ℕ} {label other again also : List ℕ}
      (one : IsFirst x state label other) (two : IsFirst y second again also) where
    not_lower : ¬ (x < y)
    not_lower lower =
        agreeing (group_of presentation rules) presentation x one.multiplier
        (two.earlier x one.multiplier lower one.is_multiplier) one.answered

  module _ {x y state second : ℕ} {label other again also : List ℕ}
      (one : IsFirst x state label other) (two : IsFirst y second again also) where
    pub one_generator : x ≡ y
    one_generator = neither_lower x y (not_lower one two) (not_lower two one)

    one_multiplier : one.multiplier ≡ two.multiplier
    one_multiplier =
        same_Some one.multiplier two.multiplier
        (sym one.is_multiplier
        ∙ (ap (λ (z : ℕ). multiplier_of multipliers z) one_generator ∙ two.is_multiplier))

    answered_there : IsAnswered (group_of presentation rules) presentation y two.multiplier
        (Differ state label other)
    answered_there =
        let At : ℕ → Type 0 = λ z. IsAnswered (group_of presentation rules) presentation z
        one.multiplier (Differ state label other) in
        let Of : Automaton → Type 0 = λ m. IsAnswered (group_of presentation rules) presentation y
        m (Differ state label other) in
        subst Of one_multiplier (subst At one_generator one.answered)

    pub one_unresolved_label : label ≡ again
    one_unresolved_label =
        one_own_label (group_of presentation rules) presentation y two.multiplier answered_there
        two.answered

    pub one_unresolved_other : other ≡ also
    one_unresolved_other =
        one_other (group_of presentation rules) presentation y two.multiplier answered_there
        two.answered

-- ---- one presentation

module _ (one other : Presentation) (same : parts_of one ≡ parts_of other) (rules : List Sides) where
  abbrev group_by : ℕ → PresentationParts → Group
  group_by n parts =
      record {
        n = n;
        order = parts.order;
        inverses = parts.inverses;
        rules =
            rules;
      }

  one_group : group_of one rules ≡ group_of other rules
  one_group =
      let n : one.n ≡ other.n = moved one other same (λ names k. one.n ≡ k) refl in
      ap (λ (k : ℕ). group_by k (parts_of one)) n
      ∙ ap (λ (p : PresentationParts). group_by other.n p) same

  one_labelling : (x : ℕ) (multiplier : Automaton) (label : ℕ → List ℕ)
      → labelling_of one x multiplier label ≡ labelling_of other x multiplier label
  one_labelling x multiplier label =
      let Of : PresentationParts → Labelling = λ parts. record {
        inverses = parts.inverses;
        equations = parts.equations;
        x = x;
        multiplier = multiplier;
        label = label;
      } in
      ap Of same

  -- what is answered of label words by one presentation is answered by the same one
  answered_moved : {x : ℕ} {multiplier : Automaton} {labels : Labels}
      → IsAnswered (group_of one rules) one x multiplier labels
      → IsAnswered (group_of other rules) other x multiplier labels
  answered_moved {x} {multiplier} {labels} is =
      let labelling = one_labelling x multiplier is.label in
      let here = labelling_of one x multiplier is.label in
      let AreBy : Group → Type 0 = λ g. AreLabels g here in
      let AreOf : Labelling → Type 0 = λ l. AreLabels (group_of other rules) l in
      let IsBy : Group → Type 0 = λ g. IsAnswer g here labels in
      let IsOf : Labelling → Type 0 = λ l. IsAnswer (group_of other rules) l labels in
      record {
        label = is.label;
        are_labels = subst AreOf labelling (subst AreBy one_group is.are_labels);
        is_answer = subst IsOf labelling (subst IsBy one_group is.is_answer);
      }

  pub first_moved : {multipliers : List Automaton} {x state : ℕ} {label second : List ℕ}
      → IsFirstUnresolved one rules multipliers x state label second
      → IsFirstUnresolved other rules multipliers x state label second
  first_moved first = record {
    multiplier = first.multiplier;
    is_multiplier = first.is_multiplier;
    answered = answered_moved first.answered;
    earlier = λ y before lower at. answered_moved (first.earlier y before lower at);
  }
