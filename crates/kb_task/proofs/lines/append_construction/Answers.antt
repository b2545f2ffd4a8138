use Rattle.kb_task.proofs.lines.append_construction.Goals as goal

pub returns-in-Relation : goal.returns-in-Relation
returns-in-Relation c = rw c.in-Relation.is (c.append_relation.ensures c.args.names.now)
