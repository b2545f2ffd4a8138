use Rattle.kb_subfile.proofs.OneFault.{one_file_fault}
use Rattle.kb_subfile.proofs.laws.a_subgroup_file_has_one_fault.Goals as goal

pub returns : goal.returns
returns c bytes parts one other a b given_one given_other =
    one_file_fault parts bytes (c.a_text_has_one_tree.ensures bytes) (c.a_text_that_is_read_has_no_fault.ensures bytes) (c.a_text_has_one_fault.ensures bytes)
    one other a b given_one given_other
