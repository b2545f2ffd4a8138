use Rattle.std.proofs.Common.{refl}
use Rattle.kb_cmd_structures.proofs.system.reduced_system.Goals as goal

pub returns : goal.returns
returns c = (
  record {
    are_left_sides = c.in-Ok.ensures.language;
    are_rules = c.in-Ok-minkb.ensures.language;
    left_sides_canonical = c.in-Ok.ensures.canonical;
    rules_canonical = c.in-Ok-minkb.ensures.canonical;
    words = c.in-Ok.ensures.alphabet;
    pairs = c.in-Ok-minkb.ensures.alphabet;
    left_sides_is = c.table.ensures.automaton;
    rules_is = c.table-2.ensures.automaton;
  },
  c.in-Ok.ensures.few refl,
  c.in-Ok-minkb.ensures.few refl,
)
