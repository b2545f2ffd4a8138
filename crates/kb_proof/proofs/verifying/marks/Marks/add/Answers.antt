use Rattle.std.proofs.Common.{ap, ◌∙◌, refl}
use Rattle.kb_machine.specs.Lines.{replaced}
use Rattle.kb_proof.specs.Verifying.{relation_used}
use Rattle.kb_proof.proofs.Marking.{add_neither, marked_relation, marked_line}
use Rattle.kb_proof.proofs.verifying.marks.Marks.add.Goals as goal

pub returns-in-Relation : goal.returns-in-Relation
returns-in-Relation c =
    marked_relation c.args.self.now (record { relations = c.mark.new.marks; lines = c.args.self.now.lines }) c.mark.result
    c.args.origin c.in-Relation.number c.in-Relation.is c.mark.ensures.here c.mark.ensures.others refl

pub returns-in-Overlap : goal.returns-in-Overlap
returns-in-Overlap c = λ lines line same marks.
    add_neither line (ap relation_used (same ∙ c.in-Overlap.is)) (ap replaced (same ∙ c.in-Overlap.is)) marks

pub returns-in-Killed : goal.returns-in-Killed
returns-in-Killed c =
    let mark = c.mark-in-Killed in
    marked_line c.args.self.now (record { relations = c.args.self.now.relations; lines = mark.new.marks }) mark.result
    c.args.origin c.in-Killed.number (ap relation_used c.in-Killed.is) (ap replaced c.in-Killed.is)
    mark.ensures.here mark.ensures.others refl

pub returns-in-Shortened : goal.returns-in-Shortened
returns-in-Shortened c =
    let mark = c.mark-in-Shortened in
    marked_line c.args.self.now (record { relations = c.args.self.now.relations; lines = mark.new.marks }) mark.result
    c.args.origin c.in-Shortened.number (ap relation_used c.in-Shortened.is) (ap replaced c.in-Shortened.is)
    mark.ensures.here mark.ensures.others refl
