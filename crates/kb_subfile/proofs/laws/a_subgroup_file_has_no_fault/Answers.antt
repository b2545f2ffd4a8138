use Rattle.kb_subfile.proofs.OneFault.{no_file_fault}
use Rattle.kb_subfile.proofs.laws.a_subgroup_file_has_no_fault.Goals as goal

pub returns : goal.returns
returns c bytes parts generators error h fault =
    no_file_fault parts bytes (c.a_text_has_one_tree.ensures bytes) (c.a_text_that_is_read_has_no_fault.ensures bytes) generators error h fault
