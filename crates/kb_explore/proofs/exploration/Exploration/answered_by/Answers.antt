use Rattle.std.proofs.Common.{map, sym, ap, ◌∙◌, subst}
use Rattle.kb_fsa.specs.Table.{Table, IsTable}
use Rattle.kb_explore.specs.Exploration.{IsExploration}
use Rattle.kb_explore.proofs.OtherAnswers.{answering_same, answered, answered_table}
use Rattle.kb_explore.proofs.exploration.Exploration.answered_by.Goals as goal

pub new-requires : goal.new-requires
new-requires g c =
    let made = c.args.self.now in
    let accepts = (g.M.Machine.machine c.args.machine.now).accepts in
    let same = answering_same made.table (map accepts made.states.keys) c.in_ok-accepting.accepting.items c.initial.result c.in_ok-rows.rows
    c.initial.ensures.initial (c.in_ok-rows.ensures ∙ c.rows.ensures.rows) c.in_ok-accepting.ensures in
    subst IsTable (sym same) (answered_table c.requires.explored.1 c.requires.explored.2)

pub returns-clause-explored : goal.returns-clause-explored
returns-clause-explored g c =
    let made = c.args.self.now in
    let machine = g.M.Machine.machine c.args.machine.now in
    let same = answering_same made.table (map machine.accepts made.states.keys) c.in_ok-accepting.accepting.items c.initial.result
    c.in_ok-rows.rows c.initial.ensures.initial (c.in_ok-rows.ensures ∙ c.rows.ensures.rows) c.in_ok-accepting.ensures in
    let P : Table → Type 0 = λ table. IsExploration machine table made.states.keys made.origins.items in
    subst P (sym (c.new.ensures ∙ same)) (answered c.requires.explored.1 c.requires.explored.2)

pub returns-clause-initial : goal.returns-clause-initial
returns-clause-initial g c = ap (λ (table : Table). table.initial) c.new.ensures ∙ c.initial.ensures.initial

pub returns-clause-rows : goal.returns-clause-rows
returns-clause-rows g c = ap (λ (table : Table). table.rows) c.new.ensures ∙ c.in_ok-rows.ensures ∙ c.rows.ensures.rows
