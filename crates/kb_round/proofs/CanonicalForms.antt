-- Canonical automata of texts with labels, one for each label, and what stays so of multipliers.
use Rattle.std.proofs.Common.{◌≡◌, ◌↔◌, ℕ, suc, All, List, [], ◌∷◌, length, get_or, slice_get, Some, sym, ap, ◌∙◌, subst, arith}
use Rattle.std.proofs.lemmas.List.Elements.{All-nil, All-from_get_or}
use Rattle.std.proofs.lemmas.Option.{slice_get_within, slice_get-get_or}
use Rattle.kb_fsa.specs.Canonical.{IsCanonical}
use Rattle.kb_fsa.specs.Language.{AcceptsText, Automaton, generators}
use Rattle.kb_fsa.specs.Padding.{padded}
use Rattle.kb_fsa.specs.declared.alphabet.Alphabet.TheVariants.{Pair}
use Rattle.kb_labelled.specs.Labels.{LabelledAutomaton, SameLabels, label_after}
use Rattle.kb_diff.specs.Groups.{Group}
use Rattle.kb_diffwa.specs.Multipliers.{AreMultipliers, HasMultipliers, IsMultiplied}
use Rattle.kb_round.specs.Reduced.{AreCanonicalForms}

-- the same by another automaton with the same labels
pub forms_kept : {labelled reduced : LabelledAutomaton} {labels : List ℕ} {done : ℕ} {forms : List Automaton} → SameLabels labelled reduced
    → reduced.automaton.alphabet ≡ labelled.automaton.alphabet → AreCanonicalForms reduced labels done forms
    → AreCanonicalForms labelled labels done forms
forms_kept same alphabet are = record {
  count = are.count;
  each = λ index form at.
      let is = are.each index form at in
      record {
        alphabet = is.alphabet ∙ alphabet;
        language = λ text. (
          λ accepts. same text ∙ (is.language text).0 accepts,
          λ has. (is.language text).1 (sym (same text) ∙ has),
        );
        canonical = is.canonical;
      };
}

-- ---- what they are

all_items : (P : Automaton → Type 0) (automata : List Automaton)
    → ((index : ℕ) (fsa : Automaton) → slice_get automata index ≡ Some fsa → P fsa) → All P automata
all_items P [] each = All-nil P
all_items P (first ∷ rest) each =
    All-from_get_or P (first ∷ rest) first
    (λ place within. each place (get_or (first ∷ rest) place first) (slice_get-get_or (first ∷ rest) place first within))

pub canonical_forms : {labelled : LabelledAutomaton} {labels : List ℕ} {done : ℕ} {forms : List Automaton} → AreCanonicalForms labelled labels done forms
    → All (λ (form : Automaton). IsCanonical form.table) forms
canonical_forms {forms = forms} are = all_items (λ form. IsCanonical form.table) forms (λ index form at. (are.each index form at).canonical)

pub multiplier_forms : (group : Group) (words : List (List ℕ)) (acceptor : Automaton) (labelled : LabelledAutomaton) (targets : List ℕ)
    (forms : List Automaton) → HasMultipliers group words acceptor labelled targets → AreCanonicalForms labelled targets (length targets) forms
    → AreMultipliers group words acceptor group.n forms
multiplier_forms group words acceptor labelled targets forms has are = record {
  one_each = are.count ∙ has.one_each;
  alphabets = all_items (λ form. form.alphabet ≡ Pair group.n) forms (λ index form at. (are.each index form at).alphabet ∙ has.alphabet);
  languages = λ index form at u v over also.
      let is = are.each index form at in
      let within = slice_get_within forms index form at in
      let target = get_or targets index 0 in
      let there = slice_get-get_or targets index 0 (omega (arith, within, are.count)) in
      let means = has.languages index target there u v over also in
      let language = is.language (padded group.n u v) in
      let same : generators form.alphabet ≡ group.n = ap generators (is.alphabet ∙ has.alphabet) in
      let P : ℕ → Type 0 = λ m. AcceptsText form (padded m u v) ↔ IsMultiplied group words acceptor (suc index) u v in
      subst P (sym same) (λ accepts. means.0 (language.0 accepts), λ pair. language.1 (means.1 pair));
}
