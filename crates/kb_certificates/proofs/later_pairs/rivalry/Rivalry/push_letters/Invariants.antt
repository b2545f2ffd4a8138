use Rattle.std.proofs.Common.{◌≡◌, ◌++◌, take}
use Rattle.std.specs.List.{filter_map}
use Rattle.kb_certificates.specs.Rivalry.{rival_by}
use Rattle.kb_certificates.proofs.later_pairs.rivalry.Rivalry.push_letters.Given as goal

abbrev pub invariant-loop-entry : goal.invariant-loop-entry
invariant-loop-entry l = l.after.items ≡ l.initial.after.items
    ++ filter_map (rival_by l.self.symbols.n l.rivals.relation l.first l.second) (take l.entry-index l.entry-items)
