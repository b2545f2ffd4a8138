use Rattle.std.proofs.Common.{◌≡◌, ℕ, List, sym, ap, subst}
use Rattle.kb_fsa.specs.Language.{Automaton}
use Rattle.kb_structure.specs.StructureOf.{FitTogether}
use Rattle.kb_task.proofs.RunLemmas.{if_ok}
use Rattle.kb_cmd_structures.specs.CanonicalForms.{AreCanonicalForms, IsCanonicalForm}
use Rattle.kb_cmd_structures.specs.Given.{CheckGiven}
use Rattle.kb_cmd_structures.specs.Gpminkb.{AreOwnForms}
use Rattle.kb_cmd_structures.specs.Systems.{IsReducedFinding, ReducedSays}
use Rattle.kb_cmd_structures.specs.declared.system.Reduced.{Reduced}
use Rattle.kb_cmd_structures.proofs.SystemLemmas.{forms_fit, system_found}
use Rattle.kb_cmd_structures.proofs.system.system_finding.Goals as goal

pub reduced_system-requires : goal.reduced_system-requires
reduced_system-requires c =
    let form : Automaton = c.in_ok-form.form in
    let forms : List Automaton = c.in_ok-forms.forms.items in
    let is : IsCanonicalForm c.args.loaded.now.acceptor form = record {
      form_is = c.table.ensures.automaton;
      canonical = c.in_ok-form.ensures.canonical;
      language = c.in_ok-form.ensures.language;
      alphabet = c.in_ok-form.ensures.alphabet;
    } in
    let From : List Automaton → Type 0 = λ l. AreCanonicalForms l forms in
    let Fit : List Automaton → Type 0 = λ l. FitTogether form l in
    record {
      fit = subst Fit (sym c.deref-2.ensures.value) (forms_fit forms c.requires.over is (subst From c.deref.ensures.value c.in_ok-forms.ensures));
    }

pub returns : goal.returns
returns c =
    let given : CheckGiven = c.args.task.now in
    let loaded = c.args.loaded.now in
    let form : Automaton = c.in_ok-form.form in
    let forms : List Automaton = c.in_ok-forms.forms.items in
    let reduced : Reduced = c.in_ok-reduced.reduced in
    let From : List Automaton → Type 0 = λ l. AreCanonicalForms l forms in
    let own : AreOwnForms given loaded.presentation loaded.acceptor loaded.multipliers.items form forms = record {
      passes = c.requires.passes;
      own = c.requires.own;
      acceptor_form = record {
        form_is = c.table.ensures.automaton;
        canonical = c.in_ok-form.ensures.canonical;
        language = c.in_ok-form.ensures.language;
        alphabet = c.in_ok-form.ensures.alphabet;
      };
      multiplier_forms = subst From c.deref.ensures.value c.in_ok-forms.ensures;
    } in
    let file : c.task.inside.file ≡ given.file = ap (λ (it : CheckGiven). it.file) c.task.view_is in
    let states : c.task.inside.limits.states ≡ given.limits.states = ap (λ (it : CheckGiven). it.limits.states) c.task.view_is in
    let Of : List Automaton → Type 0 = λ l. ReducedSays form l c.task.inside.limits.states reduced in
    let Within : ℕ → Type 0 = λ most. ReducedSays form forms most reduced in
    let says : ReducedSays form forms given.limits.states reduced =
    subst Within states (subst Of c.deref-2.ensures.value c.in_ok-reduced.ensures) in
    if_ok c.reduced_finding.result c.reduced_finding.ensures
    (λ finding parts.
    let Named : List ℕ → Type 0 = λ name. IsReducedFinding name loaded.presentation.names reduced finding in
    system_found c.requires.over own c.table.ensures.automaton finding reduced says (subst Named file parts))
