use Rattle.kb_rules.proofs.Superposed.{replaced-by-first, replaced-by-second}
use Rattle.kb_overlap.proofs.laws.overlaps_are_superpositions.Goals as goal

pub returns-clause-by_the_first : goal.returns-clause-by_the_first
returns-clause-by_the_first c = replaced-by-first

pub returns-clause-by_the_second : goal.returns-clause-by_the_second
returns-clause-by_the_second c = replaced-by-second
