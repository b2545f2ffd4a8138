use Rattle.std.proofs.Common.{◌∙◌}
use Rattle.kb_index.proofs.Places.{found_place}
use Rattle.kb_index.proofs.automaton.place_of.Goals as goal

pub returns : goal.returns
returns c place within is =
    c.ok.ensures.value ∙ found_place c.args.numbers.now c.args.number c.binary_search.result c.requires.rise c.binary_search.ensures.position place within is
