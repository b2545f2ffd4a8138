use Rattle.std.proofs.Common.{ℕ, Err, length, map, refl, sym, ap, ◌∙◌, subst, arith}
use Rattle.kb_fsa.specs.Language.{Automaton}
use Rattle.kb_labelled.specs.Labels.{LabelledAutomaton, listed_for}
use Rattle.kb_explore.specs.Machine.{HasMoreStates}
use Rattle.kb_fsamin.specs.Quotient.{quotient_of}
use Rattle.kb_fsamin.proofs.Represented.{no_more_classes}
use Rattle.kb_fsamin.proofs.Reduced.{is_automaton, reduction_from, represented_from}
use Rattle.kb_fsamin.proofs.KeptLabels.{no_more_rows, same_labels}
use Rattle.kb_fsamin.proofs.reduction.reduced_by_labels.Goals as goal

pub new-made-requires : goal.new-made-requires
new-made-requires c =
    let r = reduction_from c.table.ensures.automaton.table c.table.ensures.table refl c.as_slice.ensures.value c.in_ok-listed.ensures
    c.in-Ok.ensures.explored in
    is_automaton r c.automaton-fsa.result.now.alphabet c.alphabet.result c.alphabet.ensures.alphabet c.table.ensures.automaton
    c.in-Ok.ensures.symbols

pub returns-in-Ok-clause-labels : goal.returns-in-Ok-clause-labels
returns-in-Ok-clause-labels c =
    let r = reduction_from c.table.ensures.automaton.table c.table.ensures.table refl c.as_slice.ensures.value c.in_ok-listed.ensures
    c.in-Ok.ensures.explored in
    same_labels r c.args.labelled.now c.new.result (sym (ap (λ (fsa : Automaton). fsa.table) c.automaton-fsa.ensures))
    (sym (c.listed-labels.ensures ∙ c.labels-given.ensures.labels))
    (ap (λ (made : LabelledAutomaton). made.automaton.table) c.new.ensures ∙ ap (λ (fsa : Automaton). fsa.table) c.new-made.ensures)
    (ap (λ (made : LabelledAutomaton). made.labels) c.new.ensures ∙ c.in_ok-own-in-Ok.ensures
    ∙ ap (map (listed_for c.labels-given.result.now)) c.as_slice-states.ensures.keys
    ∙ ap (λ labels. map (listed_for labels) c.in-Ok.exploration.states.keys) (sym c.listed-labels.ensures))

pub returns-in-Ok-clause-few : goal.returns-in-Ok-clause-few
returns-in-Ok-clause-few c =
    let r = reduction_from c.table.ensures.automaton.table c.table.ensures.table refl c.as_slice.ensures.value c.in_ok-listed.ensures
    c.in-Ok.ensures.explored in
    let fewer = no_more_rows r in
    let one = ap (λ (made : LabelledAutomaton). length made.automaton.table.rows) c.new.ensures in
    let two = ap (λ (fsa : Automaton). length fsa.table.rows) c.new-made.ensures in
    let three = ap (λ (fsa : Automaton). length fsa.table.rows) c.automaton-fsa.ensures in
    omega (arith, fewer, one, two, three)

pub unreachable-requires : goal.unreachable-requires
unreachable-requires c =
    let given = c.automaton-fsa.result.now.table in
    let listed = c.as_slice.result.now in
    let more = c.in-Err-TooManyStates.ensures.many c.in-Err-TooManyStates.field-0-0 (ap Err c.in-Err-TooManyStates.field-0-is) in
    let P : ℕ → Type 0 = λ m. HasMoreStates (quotient_of given listed) m in
    no_more_classes given c.listed-labels.result listed c.table.ensures.automaton.table
    (represented_from c.table.ensures.table refl c.as_slice.ensures.value c.in_ok-listed.ensures) (subst P c.len.ensures more.1)
