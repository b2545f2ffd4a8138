use Rattle.std.proofs.Common.{◌≡◌, List, All, subst, rules}
use Rattle.kb_fsa.specs.Table.{Moves, IsRow}
use Rattle.kb_fsa.proofs.Lookups.{row_read, none_read}
use Rattle.kb_fsa.proofs.rows.Rows.get.Goals as goal

pub returns-in-Some-clause-row : goal.returns-in-Some-clause-row
returns-in-Some-clause-row c = row_read c.self.inside.lists c.args.place c.in-Some.row.now c.self.invariant c.in-Some.ensures

pub returns-in-Some-clause-rows : goal.returns-in-Some-clause-rows
returns-in-Some-clause-rows c = let own : c.self.inside.lists ≡ c.args.self.now = search rules in subst (All IsRow) own c.self.invariant

pub returns-in-None-clause-moves : goal.returns-in-None-clause-moves
returns-in-None-clause-moves c = search (rules, none_read)

pub returns-in-None-clause-rows : goal.returns-in-None-clause-rows
returns-in-None-clause-rows c = let own : c.self.inside.lists ≡ c.args.self.now = search rules in subst (All IsRow) own c.self.invariant
