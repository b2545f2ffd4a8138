use Rattle.kb_commands.proofs.StructuresLemmas.{all_added, one_added}
use Rattle.kb_commands.proofs.structures.add_commands.Goals as goal

pub loop-name-preserved : goal.loop-name-preserved
loop-name-preserved c =
    one_added c.loop-name.name-index c.loop-name.program c.in_ok-definition.field-0 c.in_ok-program.program _ c.loop-name-test.true
    c.in_ok-program.ensures c.in_ok-definition.ensures.local c.in_ok-definition.ensures.app c.loop-name.invariant

pub returns : goal.returns
returns c = all_added c.loop-name.name-index c.loop-name.program _ c.loop-name-test.false c.loop-name.invariant
