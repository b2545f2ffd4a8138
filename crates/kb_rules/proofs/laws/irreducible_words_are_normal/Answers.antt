use Rattle.kb_rules.proofs.Unique.{irreducible_is_normal, normal_form_of_irreducible}
use Rattle.kb_rules.proofs.laws.irreducible_words_are_normal.Goals as goal

pub returns-clause-own : goal.returns-clause-own
returns-clause-own c = irreducible_is_normal

pub returns-clause-only : goal.returns-clause-only
returns-clause-only c rules w m irreducible normal = normal_form_of_irreducible irreducible normal
