use Rattle.kb_relations.proofs.Composites.{read_pairs}
use Rattle.kb_relations.proofs.sides.composite.Goals as goal

pub along-requires-clause-pairs : goal.along-requires-clause-pairs
along-requires-clause-pairs c = read_pairs c.args.acceptor.now c.args.multipliers.now c.requires.fit
