use Rattle.kb_fsamin.proofs.Uniqueness.{one_canonical}
use Rattle.kb_fsamin.proofs.laws.one_language_has_one_canonical_automaton.Goals as goal

pub returns : goal.returns
returns c = one_canonical
