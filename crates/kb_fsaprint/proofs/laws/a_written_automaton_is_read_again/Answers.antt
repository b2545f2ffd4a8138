use Rattle.kb_fsaprint.specs.Printed.{tree_of}
use Rattle.kb_fsaprint.proofs.WrittenAutomata.{automaton_written}
use Rattle.kb_fsaprint.proofs.laws.a_written_automaton_is_read_again.Goals as goal

pub returns : goal.returns
returns c names automaton is canonical free each counted = record {
  text = tree_of names automaton;
  formed = c.a_written_automaton_is_a_text_of_its_tree.ensures.formed names automaton is each free.few counted;
  shallow = c.a_written_automaton_is_a_text_of_its_tree.ensures.shallow names automaton;
  holds = automaton_written names automaton (c.a_written_automaton_is_a_text_of_its_tree.ensures.once names automaton) is canonical.initial free counted;
}
