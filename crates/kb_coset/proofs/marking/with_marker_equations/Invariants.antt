use Rattle.std.proofs.Common.{◌≡◌, ◌++◌, map, take}
use Rattle.kb_coset.specs.Marked.{marker_equation}
use Rattle.kb_coset.proofs.marking.with_marker_equations.Given as goal

-- the generators so far have their equations behind those that were there
abbrev pub invariant-loop-generator : goal.invariant-loop-generator
invariant-loop-generator l =
    l.longer.items ≡ l.equations ++ map (marker_equation l.n) (take l.generator-index l.generators)
