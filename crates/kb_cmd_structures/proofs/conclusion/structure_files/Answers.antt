use Rattle.std.proofs.Common.{◌≡◌, ◌∙◌, ℕ, ◌+◌, ◌<◌, List, ◌∷◌, [], ◌++◌, Some, length, get_or, slice_get, below_more, sym, ap, subst, arith}
use Rattle.std.proofs.lemmas.Option.{get_or_from_slice_get, slice_get-get_or}
use Rattle.kb_fsa.specs.Language.{Automaton, IsAutomaton}
use Rattle.kb_fsaprint.specs.Printed.{text_of_automaton}
use Rattle.kb_task.specs.Stores.{Text, text_of}
use Rattle.kb_task.specs.declared.storing.TextFile.{TextFile}
use Rattle.kb_evidence.specs.Files.{multiplier_file}
use Rattle.kb_cmd_structures.specs.Made.{structure_texts}
use Rattle.kb_cmd_structures.proofs.MadeStructures.{IsPart, all_there, names_of_multiplier, one_more, starts}
use Rattle.kb_cmd_structures.proofs.conclusion.structure_files.Goals as goal

pub loop-place-init : goal.loop-place-init
loop-place-init c = record {
  part = starts c.args.file.now c.args.presentation.now.names c.args.structure.now.acceptor c.args.structure.now.multipliers.items
      c.in_ok-files.files.items c.push.new.self.items c.in_ok-automaton_file.field-0 c.in_ok-acceptor_file.field-0 c.in_ok-files.ensures.items
      c.in_ok-push.ensures.items c.in_ok-acceptor_file.ensures c.in_ok-automaton_file.ensures.text;
  automata = λ k multiplier below. absurd (omega (arith, below));
}

pub automaton_file-requires-in-loop-place-clause-names : goal.automaton_file-requires-in-loop-place-clause-names
automaton_file-requires-in-loop-place-clause-names c =
    let multipliers : List Automaton = c.args.structure.now.multipliers.items in
    let place : ℕ = c.loop-place.place in
    let multiplier : Automaton = c.multiplier-item.result in
    let same = ap length c.deref-multiplier-items.ensures.value in
    let within : place < length multipliers = omega (arith, c.loop-place-test.true, same) in
    let is : multiplier ≡ get_or multipliers place multiplier = cc (c.multiplier-item.is, c.deref-multiplier-items.ensures.value) in
    names_of_multiplier c.requires.1 place multiplier within is

pub loop-place-preserved : goal.loop-place-preserved
loop-place-preserved c =
    let file : List ℕ = c.args.file.now in
    let names : List (List ℕ) = c.args.presentation.now.names in
    let multipliers : List Automaton = c.args.structure.now.multipliers.items in
    let whole : List Text = structure_texts file names c.args.structure.now.acceptor multipliers in
    let place : ℕ = c.loop-place.place in
    let multiplier : Automaton = c.multiplier-item.result in
    let next : TextFile = c.in_ok-automaton_file-2.field-0 in
    let same = ap length c.deref-multiplier-items.ensures.value in
    let within : place < length multipliers = omega (arith, c.loop-place-test.true, same) in
    let is : multiplier ≡ get_or multipliers place multiplier = cc (c.multiplier-item.is, c.deref-multiplier-items.ensures.value) in
    let number : c.new-generator.result ≡ place + 1 = c.new-generator.ensures in
    let named : c.in_ok-name.name ≡ multiplier_file file (place + 1) = c.in_ok-name.ensures ∙ ap (multiplier_file file) number in
    let Named : List ℕ → Type 0 = λ name. text_of next ≡ record { name = name; bytes = text_of_automaton names multiplier } in
    let Part : List TextFile → Type 0 = λ files. IsPart file names multipliers whole files (place + 1) in
    let Is : ℕ → Type 0 = λ k. (m : Automaton) → slice_get multipliers k ≡ Some m → IsAutomaton m in
    let here : Is place = λ m at.
    subst IsAutomaton (is ∙ get_or_from_slice_get multipliers place m multiplier at) c.automaton_file-in-loop-place.ensures.automaton in
    record {
      part = subst Part (sym c.in_ok-push-2.ensures.items)
          (one_more file names multipliers whole c.loop-place.files.items next place multiplier within is
          (subst Named named c.in_ok-automaton_file-2.ensures.text) c.loop-place.invariant.part);
      automata = λ k m low.
          below_more Is place (λ j less n. c.loop-place.invariant.automata j n less) here k low m;
    }

pub returns-clause-files : goal.returns-clause-files
returns-clause-files c =
    let file : List ℕ = c.args.file.now in
    let names : List (List ℕ) = c.args.presentation.now.names in
    let multipliers : List Automaton = c.args.structure.now.multipliers.items in
    let same = ap length c.deref-multiplier-items.ensures.value in
    all_there file names multipliers (structure_texts file names c.args.structure.now.acceptor multipliers) c.loop-place.files.items
    c.loop-place.place (omega (arith, c.loop-place-test.false, same)) c.loop-place.invariant.part

pub returns-clause-multipliers : goal.returns-clause-multipliers
returns-clause-multipliers c = λ k none within.
    let multipliers : List Automaton = c.args.structure.now.multipliers.items in
    let same = ap length c.deref-multiplier-items.ensures.value in
    c.loop-place.invariant.automata k (get_or multipliers k none) (omega (arith, within, c.loop-place-test.false, same))
    (slice_get-get_or multipliers k none within)
