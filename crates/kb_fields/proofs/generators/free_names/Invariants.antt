use Rattle.std.proofs.Common.{◌≡◌, ℕ, List, map, take}
use Rattle.std.specs.Borrow.{Bor}
use Rattle.kb_fields.specs.Generators.{AreGeneratorNames}
use Rattle.kb_fields.proofs.generators.free_names.Given as goal

abbrev pub invariant-loop-name : goal.invariant-loop-name
invariant-loop-name l = (l.names ≡ map (λ (name : Bor (List ℕ)). name.now) (take l.name-index l.listed)) × AreGeneratorNames l.names
