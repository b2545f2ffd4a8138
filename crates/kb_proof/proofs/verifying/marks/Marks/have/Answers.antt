use Rattle.std.proofs.Common.{◌≡◌, true, false, get_or, ap}
use Rattle.kb_machine.specs.Lines.{replaced}
use Rattle.kb_proof.proofs.Marking.{relation_again, replaced_twice}
use Rattle.kb_proof.proofs.verifying.marks.Marks.have.Goals as goal

pub returns-in-Relation-clause-yes : goal.returns-in-Relation-clause-yes
returns-in-Relation-clause-yes c = λ relations lines marks marked.
    let bit : get_or c.args.self.now.relations.items c.in-Relation.number false ≡ true = cc in
    relation_again relations c.in-Relation.number c.in-Relation.is marks bit

pub returns-in-Killed-clause-yes : goal.returns-in-Killed-clause-yes
returns-in-Killed-clause-yes c = λ relations lines marks marked.
    let bit : get_or c.args.self.now.lines.items c.in-Killed.number false ≡ true = cc in
    replaced_twice relations c.in-Killed.number (ap replaced c.in-Killed.is) marks bit

pub returns-in-Shortened-clause-yes : goal.returns-in-Shortened-clause-yes
returns-in-Shortened-clause-yes c = λ relations lines marks marked.
    let bit : get_or c.args.self.now.lines.items c.in-Shortened.number false ≡ true = cc in
    replaced_twice relations c.in-Shortened.number (ap replaced c.in-Shortened.is) marks bit
