use Rattle.std.proofs.Common.{ℕ, Err, length, ap, ◌∙◌, subst}
use Rattle.kb_fsa.specs.Table.{HasSymbols}
use Rattle.kb_fsa.specs.Language.{symbols}
use Rattle.kb_explore.specs.Machine.{HasMoreStates}
use Rattle.kb_labels.specs.LivePart.{marked_part}
use Rattle.kb_labels.proofs.LiveStates.{in_order, no_more_than_table}
use Rattle.kb_labels.proofs.live_part.live_states.Goals as goal

pub returns-in-Ok : goal.returns-in-Ok
returns-in-Ok c = λ n alphabet.
    let automaton = c.args.fsa.now in
    let e = c.in-Ok.exploration in
    let P : ℕ → Type 0 = λ k. HasSymbols k e.table in
    in_order automaton.table c.args.marks.now c.requires c.in-Ok.ensures.explored n
    (subst P (ap symbols alphabet) c.in-Ok.ensures.symbols)

pub unreachable-requires : goal.unreachable-requires
unreachable-requires c =
    let table = c.args.fsa.now.table in
    let more = c.in-Err-TooManyStates.ensures.many c.in-Err-TooManyStates.field-0-0 (ap Err c.in-Err-TooManyStates.field-0-is) in
    let P : ℕ → Type 0 = λ m. HasMoreStates (marked_part table c.args.marks.now) m in
    no_more_than_table table c.args.marks.now c.requires c.table.ensures.automaton.table
    (subst P (c.len.ensures.count ∙ ap (λ t. length t.rows) c.table.ensures.table) more.1)
