use Rattle.std.proofs.Common.{◌≡◌, ℕ, ◌&&◌, nat_eq, false, take}
use Rattle.std.specs.List.{list_any}
use Rattle.kb_diffwa.specs.RivalSets.{all_compared, any_less}
use Rattle.kb_diffwa.proofs.rival_sets.leads_less.Given as goal

abbrev pub invariant-loop-b : goal.invariant-loop-b
invariant-loop-b l =
    list_any (λ (pair : ℕ × ℕ). nat_eq pair.1 1 && any_less (all_compared l.n l.fn.rivals.comparisons l.a pair.0))
    (take l.b-index l.b-items)
    ≡ false
