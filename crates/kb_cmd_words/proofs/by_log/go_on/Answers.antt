use Rattle.kb_cmd_words.proofs.by_log.go_on.Goals as goal

pub check_relations-requires-clause-justified : goal.check_relations-requires-clause-justified
check_relations-requires-clause-justified g c κs within = rw c.in-Yes.is at c.requires.says

pub returns-in-No : goal.returns-in-No
returns-in-No g c = λ shelf.
    c.print_objection.ensures c.args.log.now shelf (g.I.Source.state c.args.input.now) (rw c.in-No.is at c.requires.says)
