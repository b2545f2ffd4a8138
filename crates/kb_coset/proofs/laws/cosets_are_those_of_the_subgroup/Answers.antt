use Rattle.kb_coset.proofs.SubgroupCosets.{subgroup_cosets}
use Rattle.kb_coset.proofs.laws.cosets_are_those_of_the_subgroup.Goals as goal

pub returns : goal.returns
returns c n generators parts u v inverse is each over inverts =
    subgroup_cosets n generators parts is each over u v inverse inverts
