use Rattle.kb_fsa.specs.Graphs.{IsListing}
use Rattle.kb_fsa.proofs.reach.marked.Given as goal

abbrev pub invariant-loop-x : goal.invariant-loop-x
invariant-loop-x l = IsListing l.marks l.x l.listed.items
