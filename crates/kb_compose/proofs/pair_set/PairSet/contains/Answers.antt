use Rattle.std.proofs.Common.{◌≡◌, List, ℕ, nat_cmp, ◌∙◌, subst}
use Rattle.std.specs.List.Sorted.{IsBinarySearchResult}
use Rattle.kb_fsadet.specs.SubsetConstruction.{IsAscending}
use Rattle.kb_fsadet.proofs.Members.{search_answers}
use Rattle.kb_compose.proofs.pair_set.PairSet.contains.Goals as goal

pub returns : goal.returns
returns c =
    let own : c.as_slice.result.now ≡ c.args.self.now = c.as_slice.ensures.value ∙ c.self.view_is in
    let Searched : List ℕ → Type 0 = λ members. IsBinarySearchResult (λ member. nat_cmp member c.args.pair) members c.binary_search.result in
    c.is_ok.ensures.value
    ∙ search_answers c.args.self.now c.args.pair c.binary_search.result (subst IsAscending c.self.view_is c.self.invariant)
    (subst Searched own c.binary_search.ensures.position)
