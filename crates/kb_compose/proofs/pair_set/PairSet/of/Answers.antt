use Rattle.std.proofs.Common.{◌≡◌, eqb, sym, ◌∙◌, subst}
use Rattle.std.proofs.lemmas.List.Filters.{dedup_is}
use Rattle.kb_fsadet.specs.SubsetConstruction.{IsAscending, set_of}
use Rattle.kb_fsadet.proofs.Sets.{IsAscending-set_of, set_from_sort}
use Rattle.kb_compose.proofs.pair_set.PairSet.of.Goals as goal

-- what is left is the set
left_is_set : (c : goal.After-shrink_to_fit) → c.shrink_to_fit.new.self.items ≡ set_of c.args.pairs.items
left_is_set c =
    c.shrink_to_fit.ensures.items
    ∙ dedup_is eqb c.sort_unstable.new.self.items c.dedup.new.self.items c.dedup.ensures.filtered
    ∙ set_from_sort c.args.pairs.items c.sort_unstable.new.self.items c.sort_unstable.ensures.permutation c.sort_unstable.ensures.sorted

pub invariant_of-result : goal.invariant_of-result
invariant_of-result c = subst IsAscending (sym (left_is_set c)) (IsAscending-set_of c.args.pairs.items)

pub returns : goal.returns
returns c = left_is_set c
