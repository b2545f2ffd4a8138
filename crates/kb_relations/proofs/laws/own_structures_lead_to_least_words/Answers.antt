use Rattle.kb_relations.proofs.OwnLeast.{leads_to_least}
use Rattle.kb_relations.proofs.laws.own_structures_lead_to_least_words.Goals as goal

pub returns : goal.returns
returns c structure own word end over follows = leads_to_least structure own word end over follows
