use Rattle.std.proofs.Common.{◌≡◌, ℕ, ◌<◌, ◌≤◌, [], get_or, take}
use Rattle.kb_relations.proofs.trail.cut.Given as goal

-- the trails before the index are cut, and the others are as they were
abbrev pub invariant-loop-trail : goal.invariant-loop-trail
invariant-loop-trail l =
    ((index : ℕ) → index < l.trail-index → get_or l.trails index [] ≡ take l.len (get_or l.fn.trails index []))
    × ((index : ℕ) → l.trail-index ≤ index → get_or l.trails index [] ≡ get_or l.fn.trails index [])
