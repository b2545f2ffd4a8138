use Rattle.kb_presprint.specs.Printed.{tree_of, text_of_presentation}
use Rattle.kb_presprint.proofs.WrittenTrees.{tree_formed, tree_shallow, tree_spelled, tree_once, title_spelled}
use Rattle.kb_presprint.proofs.laws.a_written_presentation_is_a_text_of_its_tree.Goals as goal

pub returns-clause-formed : goal.returns-clause-formed
unfolding text_of_presentation
returns-clause-formed c parts rules confluent is =
    c.a_printed_text_is_read_again.ensures (tree_of parts rules confluent) (title_spelled parts rules confluent) (tree_formed parts rules confluent)
    (tree_spelled parts rules confluent is)

pub returns-clause-shallow : goal.returns-clause-shallow
returns-clause-shallow c parts rules confluent = tree_shallow parts rules confluent

pub returns-clause-once : goal.returns-clause-once
returns-clause-once c parts rules confluent name = tree_once parts rules confluent name
