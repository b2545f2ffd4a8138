use Rattle.std.proofs.Common.{◌≡◌, map, take}
use Rattle.kb_branching.proofs.exploration.answers.Given as goal

-- the answers are those of the states that are passed
abbrev pub invariant-loop-state : goal.invariant-loop-state
invariant-loop-state g l = l.answers.items ≡ map (g.M.Branching.machine l.machine).accepts (take l.state-index l.state-items)
