use Rattle.std.proofs.Common.{◌≡◌, ◌+◌, ◌++◌, drop}
use Rattle.kb_word.specs.Relations.{inverse_relations, relations_of}
use Rattle.kb_word.proofs.presentation.Presentation.relations.Given as goal

abbrev pub invariant-loop-place : goal.invariant-loop-place
invariant-loop-place l =
    l.relations.items ++ inverse_relations (l.place + 1) (drop l.place l.self.inv) ≡ relations_of l.self.inv l.self.eqs
