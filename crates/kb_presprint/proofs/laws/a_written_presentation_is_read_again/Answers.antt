use Rattle.kb_presprint.specs.Printed.{tree_of}
use Rattle.kb_presprint.proofs.WrittenPresentations.{presentation_written}
use Rattle.kb_presprint.proofs.laws.a_written_presentation_is_read_again.Goals as goal

pub returns : goal.returns
returns c parts rules confluent free is room = record {
  text = tree_of parts rules confluent;
  formed = c.a_written_presentation_is_a_text_of_its_tree.ensures.formed parts rules confluent is;
  shallow = c.a_written_presentation_is_a_text_of_its_tree.ensures.shallow parts rules confluent;
  holds = presentation_written parts rules confluent free is room (c.a_written_presentation_is_a_text_of_its_tree.ensures.once parts rules confluent);
}
