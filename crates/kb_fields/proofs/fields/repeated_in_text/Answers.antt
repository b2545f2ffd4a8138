use Rattle.std.proofs.Common.{rules}
use Rattle.kb_fields.proofs.RepeatLemmas.{none_of_place}
use Rattle.kb_fields.proofs.fields.repeated_in_text.Goals as goal

pub returns-in-Some-clause-none : goal.returns-in-Some-clause-none
returns-in-Some-clause-none c = search (rules, none_of_place)
