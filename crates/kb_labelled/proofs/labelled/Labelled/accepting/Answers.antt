use Rattle.std.proofs.Common.{◌∙◌, sym, ap, subst}
use Rattle.kb_fsa.specs.Table.{IsTable, Table}
use Rattle.kb_fsa.specs.Language.{Automaton}
use Rattle.kb_labelled.proofs.OneLabel.{answers_from, automaton_from, made_table, same_table, texts_from}
use Rattle.kb_labelled.proofs.labelled.Labelled.accepting.Goals as goal

pub new-own-requires : goal.new-own-requires
new-own-requires c =
    let fsa = c.self.inside.fsa in
    let are = answers_from fsa c.self.inside.labels.items c.as_slice.result.now c.args.label c.in_ok-answers.answers.items c.accepting.result.now
    c.table-table.ensures.automaton c.self.invariant
    (c.accepting.ensures.accepting ∙ ap (λ (table : Table). table.accepting) c.table-table.ensures.table) c.as_slice.ensures.value
    c.in_ok-answers.ensures.one_each c.in_ok-answers.ensures.each in
    let same = same_table fsa.table c.in_ok-answers.answers.items c.initial.result c.in_ok-rows.rows
    (c.initial.ensures.initial ∙ ap (λ (table : Table). table.initial) c.table-table.ensures.table)
    (c.in_ok-rows.ensures ∙ c.rows.ensures.rows ∙ ap (λ (table : Table). table.rows) c.table-table.ensures.table) in
    subst IsTable (sym same) (made_table are)

pub new-requires : goal.new-requires
new-requires c =
    let fsa = c.self.inside.fsa in
    let are = answers_from fsa c.self.inside.labels.items c.as_slice.result.now c.args.label c.in_ok-answers.answers.items c.accepting.result.now
    c.table-table.ensures.automaton c.self.invariant
    (c.accepting.ensures.accepting ∙ ap (λ (table : Table). table.accepting) c.table-table.ensures.table) c.as_slice.ensures.value
    c.in_ok-answers.ensures.one_each c.in_ok-answers.ensures.each in
    let same = same_table fsa.table c.in_ok-answers.answers.items c.initial.result c.in_ok-rows.rows
    (c.initial.ensures.initial ∙ ap (λ (table : Table). table.initial) c.table-table.ensures.table)
    (c.in_ok-rows.ensures ∙ c.rows.ensures.rows ∙ ap (λ (table : Table). table.rows) c.table-table.ensures.table) in
    automaton_from are c.alphabet.result c.new-own.result c.alphabet.ensures.alphabet (c.new-own.ensures ∙ same)

pub returns-clause-language : goal.returns-clause-language
returns-clause-language c =
    let fsa = c.self.inside.fsa in
    let are = answers_from fsa c.self.inside.labels.items c.as_slice.result.now c.args.label c.in_ok-answers.answers.items c.accepting.result.now
    c.table-table.ensures.automaton c.self.invariant
    (c.accepting.ensures.accepting ∙ ap (λ (table : Table). table.accepting) c.table-table.ensures.table) c.as_slice.ensures.value
    c.in_ok-answers.ensures.one_each c.in_ok-answers.ensures.each in
    let same = same_table fsa.table c.in_ok-answers.answers.items c.initial.result c.in_ok-rows.rows
    (c.initial.ensures.initial ∙ ap (λ (table : Table). table.initial) c.table-table.ensures.table)
    (c.in_ok-rows.ensures ∙ c.rows.ensures.rows ∙ ap (λ (table : Table). table.rows) c.table-table.ensures.table) in
    texts_from are c.args.self.now c.new-own.result c.new.result (sym c.self.view_is) (c.new-own.ensures ∙ same)
    (ap (λ (made : Automaton). made.table) c.new.ensures)
