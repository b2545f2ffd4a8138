use Rattle.kb_labels.proofs.Placing.{found_place, none_found}
use Rattle.kb_labels.proofs.placed.Placed.place_of.Goals as goal

pub returns-clause-some : goal.returns-clause-some
returns-clause-some c = found_place c.args.self.now.states.keys c.args.state c.get_index_of.result c.get_index_of.ensures.index

pub returns-clause-none : goal.returns-clause-none
returns-clause-none c = none_found c.args.self.now.states.keys c.args.state c.get_index_of.result c.get_index_of.ensures.found
