use Rattle.std.proofs.Common.{◌≡◌, ◌+◌, length}
use Rattle.kb_relations.specs.Trails.{IsTrail}
use Rattle.kb_relations.proofs.trail.Trail.extend.Given as goal

-- the states up to the place are known
abbrev pub invariant-loop-place : goal.invariant-loop-place
invariant-loop-place l =
    IsTrail l.multiplier l.word l.self-inside.states.items × (length l.self-inside.states.items ≡ l.place + 1)
