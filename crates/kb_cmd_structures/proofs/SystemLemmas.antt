-- What is made of the canonical forms of a group's own structure is its reduced complete system.
use Rattle.std.proofs.Common.{◌≡◌, ◌∙◌, ℕ, zero, suc, ◌<◌, List, Some, length, get_or, refl, sym, ap, subst, arith}
use Rattle.std.proofs.lemmas.Option.{get_or_from_slice_get, slice_get-get_or, slice_get_within}
use Rattle.kb_word.specs.Words.{Pair as Sides}
use Rattle.kb_word.specs.Relations.{IsOver, relations_of}
use Rattle.kb_word.specs.declared.presentation.Presentation.{Presentation}
use Rattle.kb_word.specs.declared.word_order.WordOrder.TheVariants.{ShortLex}
use Rattle.kb_rules.proofs.Lists.{from_end}
use Rattle.kb_fsa.specs.declared.alphabet.Alphabet.TheVariants.{Plain, Pair}
use Rattle.kb_fsa.specs.Language.{Automaton, IsAutomaton, generators}
use Rattle.kb_structure.specs.StructureOf.{FitTogether, multiplier_of}
use Rattle.kb_axioms.specs.Truth.{AreMultipliers}
use Rattle.kb_axioms.proofs.Presented.{fit, over}
use Rattle.kb_minkb.specs.OwnSystem.{IsOwn}
use Rattle.kb_minkb.proofs.OwnRules.{each_state_accepts, left_side_of_rule, reduced_is_rule, reduced_no_longer, rule_is_reduced, rule_of_left_side}
use Rattle.kb_task.specs.Stores.{Text, texts_of}
use Rattle.kb_task.specs.declared.status.Construction.TheVariants.{Minred, Minkb}
use Rattle.kb_task.specs.declared.status.Status.{Status}
use Rattle.kb_cmd_structures.specs.CanonicalForms.{AreCanonicalForms, IsCanonicalForm}
use Rattle.kb_cmd_structures.specs.Findings.{HasParts}
use Rattle.kb_cmd_structures.specs.Given.{CheckGiven}
use Rattle.kb_cmd_structures.specs.Gpminkb.{AreOwnForms, FindsSystem, system, many_left_sides, many_rules}
use Rattle.kb_cmd_structures.specs.Loaded.{AreAutomataOver}
use Rattle.kb_cmd_structures.specs.ReducedSystem.{IsSystemOf}
use Rattle.kb_cmd_structures.specs.Systems.{AreSystemOf, IsReducedFinding, IsSystemFound, ReducedSays}
use Rattle.kb_cmd_structures.specs.declared.finding.Finding.{Finding}
use Rattle.kb_cmd_structures.specs.declared.system.Reduced.{Reduced}
use Rattle.kb_cmd_structures.specs.declared.system.Reduced.TheVariants.{System, TooManyStates}
use Rattle.kb_cmd_structures.proofs.CanonicalForms.{as_many_forms, form_at, images_of_forms, own_forms}

-- ---- the forms are over the group's generators

module _ (forms : List Automaton) {presentation : Presentation} {acceptor form : Automaton} {multipliers : List Automaton}
    (are_over : AreAutomataOver presentation acceptor multipliers) (is : IsCanonicalForm acceptor form)
    (are : AreCanonicalForms multipliers forms) where
  form_words : form.alphabet ≡ Plain presentation.n
  form_words = is.alphabet ∙ are_over.words

  form_pair : (x : ℕ) (multiplier : Automaton) → multiplier_of forms x ≡ Some multiplier → multiplier.alphabet ≡ Pair presentation.n
  form_pair zero multiplier at = cc
  form_pair (suc place) multiplier at =
      let low = slice_get_within forms place multiplier at in
      let many = as_many_forms multipliers forms are in
      let within : place < length multipliers = omega (arith, low, many) in
      let same : get_or forms place acceptor ≡ multiplier = get_or_from_slice_get forms place multiplier acceptor at in
      let one = form_at multipliers forms place acceptor are within in
      let pairs = are_over.pairs in
      ap (λ (a : Automaton). a.alphabet) (sym same)
      ∙ (one.alphabet ∙ pairs.pairs (suc place) (get_or multipliers place acceptor) (slice_get-get_or multipliers place acceptor within))

  form_pairs : AreMultipliers presentation.n forms
  form_pairs = record {
    one_each = let pairs = are_over.pairs in sym (as_many_forms multipliers forms are) ∙ pairs.one_each;
    pairs = form_pair;
  }

  pub forms_fit : FitTogether form forms
  forms_fit = fit presentation form forms form_words form_pairs

-- ---- and the system is the group's

module _ {given : CheckGiven} {presentation : Presentation} {acceptor form : Automaton} {multipliers forms : List Automaton}
    (are_over : AreAutomataOver presentation acceptor multipliers)
    (own : AreOwnForms given presentation acceptor multipliers form forms) (automaton : IsAutomaton form) where
  abbrev relations : List Sides
  relations = relations_of presentation.inv presentation.eqs

  given_fit : FitTogether acceptor multipliers
  given_fit = fit presentation acceptor multipliers are_over.words are_over.pairs

  own_system : IsOwn ShortLex relations form forms
  own_system = record {
    words = automaton;
    fit = forms_fit forms are_over own.acceptor_form own.multiplier_forms;
    over = over presentation form forms (form_words forms are_over own.acceptor_form own.multiplier_forms);
    structure = own_forms ShortLex relations forms given_fit own.acceptor_form own.multiplier_forms own.own;
  }

  over_form : (w : List ℕ) → IsOver presentation.n w → IsOver (generators form.alphabet) w
  over_form w letters =
      let Over : ℕ → Type 0 = λ k. IsOver k w in
      subst Over (sym (ap generators (form_words forms are_over own.acceptor_form own.multiplier_forms))) letters

  pub system_is : (left_sides rules : Automaton) → AreSystemOf form forms left_sides rules → IsSystemOf presentation left_sides rules
  system_is left_sides rules made =
      let form_is = own.acceptor_form in
      let passes = own.passes in
      let words = form_words forms are_over form_is own.multiplier_forms in
      let states = each_state_accepts own_system form_is.canonical in
      let images = images_of_forms ShortLex relations forms given_fit form_is own.multiplier_forms
      (passes.earlier.earlier.earlier.earlier.images ShortLex relations) in
      record {
        left_sides = λ w. (
          (λ accepts. rule_of_left_side own_system images w (from_end w) ((made.are_left_sides states w).0 accepts)),
          (λ rule. (made.are_left_sides states w).1 (left_side_of_rule own_system (w, rule.0) rule.1)),
        );
        rules = λ left right first second.
            let both = made.are_rules states left right (over_form left first) (over_form right second) in (
              (λ accepts. rule_is_reduced own_system left right (both.0 accepts)),
              (λ reduced. both.1 (reduced_is_rule own_system left right reduced (reduced_no_longer relations left right reduced))),
            );
        minred_is_canonical = made.left_sides_canonical;
        minkb_is_canonical = made.rules_canonical;
        words = made.words ∙ words;
        pairs = made.pairs ∙ ap (λ k. Pair k) (ap generators words);
        minred_is = made.left_sides_is;
        minkb_is = made.rules_is;
      }

  -- ---- it is found

  found_as : (finding : Finding) {status : Status} {texts : List Text} {line : List ℕ} → HasParts status texts line finding
      → FindsSystem given presentation acceptor multipliers status texts line
      → IsSystemFound given presentation acceptor multipliers finding
  found_as finding {status} {texts} {line} parts finds =
      let S : Status → Type 0 = λ s. FindsSystem given presentation acceptor multipliers s texts line in
      let T : List Text → Type 0 = λ t. FindsSystem given presentation acceptor multipliers finding.status t line in
      let W : List ℕ → Type 0 =
      λ l. FindsSystem given presentation acceptor multipliers finding.status (texts_of finding.files.items) l in
      subst W (sym parts.writes) (subst T (sym parts.stores) (subst S (sym parts.ends) finds))

  pub system_found : (finding : Finding) (reduced : Reduced) → ReducedSays form forms given.limits.states reduced
      → IsReducedFinding given.file presentation.names reduced finding
      → IsSystemFound given presentation acceptor multipliers finding
  system_found finding (System left_sides rules) says parts =
      found_as finding parts (system own says.1 says.2 (system_is left_sides rules says.0))
  system_found finding (TooManyStates Minred) says parts = found_as finding parts (many_left_sides own says)
  system_found finding (TooManyStates Minkb) says parts = found_as finding parts (many_rules own says.0 says.1)
  system_found finding (TooManyStates _) says parts = absurd says
