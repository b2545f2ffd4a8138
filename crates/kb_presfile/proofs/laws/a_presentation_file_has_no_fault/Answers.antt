use Rattle.kb_presfile.proofs.OneFault.{no_file_fault}
use Rattle.kb_presfile.proofs.laws.a_presentation_file_has_no_fault.Goals as goal

pub returns : goal.returns
returns c bytes parts error h fault =
    no_file_fault bytes (c.a_text_has_one_tree.ensures bytes) (c.a_text_that_is_read_has_no_fault.ensures bytes) parts error h fault
