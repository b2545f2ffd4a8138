use Rattle.kb_fsaprint.specs.Printed.{tree_of, text_of_automaton}
use Rattle.kb_fsaprint.proofs.WrittenTrees.{tree_formed, tree_shallow, tree_spelled, tree_once, title_spelled}
use Rattle.kb_fsaprint.proofs.laws.a_written_automaton_is_a_text_of_its_tree.Goals as goal

pub returns-clause-formed : goal.returns-clause-formed
unfolding text_of_automaton
returns-clause-formed c names automaton is each few counted =
    c.a_printed_text_is_read_again.ensures (tree_of names automaton) (title_spelled names automaton) (tree_formed names automaton)
    (tree_spelled names automaton is each few counted)

pub returns-clause-shallow : goal.returns-clause-shallow
returns-clause-shallow c names automaton = tree_shallow names automaton

pub returns-clause-once : goal.returns-clause-once
returns-clause-once c names automaton name = tree_once names automaton name
