use Rattle.std.proofs.Common.{◌+◌, List, [], sym, subst, take}
use Rattle.kb_fsa.specs.Language.{Automaton}
use Rattle.kb_cmd_structures.specs.CanonicalForms.{AreCanonicalForms, IsCanonicalForm}
use Rattle.kb_cmd_structures.proofs.CanonicalForms.{all_forms, forms_more}
use Rattle.kb_cmd_structures.proofs.system.canonical_forms.Goals as goal

pub loop-automaton-init : goal.loop-automaton-init
loop-automaton-init c =
    let Forms : List Automaton → Type 0 = λ l. AreCanonicalForms [] l in subst Forms (sym c.in_ok-forms.ensures.items) tt

pub loop-automaton-preserved : goal.loop-automaton-preserved
loop-automaton-preserved c =
    let automata : List Automaton = c.args.automata.now in
    let many = c.loop-automaton.automaton-index in
    let automaton : Automaton = c.automaton-item.result in
    let form : Automaton = c.in_ok-form.form in
    let is : IsCanonicalForm automaton form = record {
      form_is = c.table.ensures.automaton;
      canonical = c.in_ok-form.ensures.canonical;
      language = c.in_ok-form.ensures.language;
      alphabet = c.in_ok-form.ensures.alphabet;
    } in
    let Forms : List Automaton → Type 0 = λ l. AreCanonicalForms (take (many + 1) automata) l in
    subst Forms (sym c.in_ok-push.ensures.items)
    (forms_more automata c.loop-automaton.forms.items many automaton form c.loop-automaton.invariant c.loop-automaton-test.true
    c.automaton-item.is is)

pub returns : goal.returns
returns c =
    all_forms c.args.automata.now c.loop-automaton.forms.items c.loop-automaton.automaton-index c.loop-automaton.invariant
    c.loop-automaton-test.false
