use Rattle.kb_cmd_structures.proofs.by_log.find.Goals as goal

pub find_by_lines-requires-clause-ready : goal.find_by_lines-requires-clause-ready
find_by_lines-requires-clause-ready g c = λ lifetimes outlive. rw c.in-Justified.is at c.requires
