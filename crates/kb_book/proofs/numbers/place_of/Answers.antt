use Rattle.std.proofs.Common.{◌≡◌, ℕ, Some, IfSome, IfNone, List, Option, slice_get, sym, subst}
use Rattle.std.specs.List.{Contains}
use Rattle.std.proofs.lemmas.List.Sorted.{searched}
use Rattle.kb_book.proofs.Searching.{rises, some_place, no_place}
use Rattle.kb_book.proofs.numbers.place_of.Goals as goal

pub returns-clause-some : goal.returns-clause-some
returns-clause-some c =
    let numbers : List ℕ = c.args.live.now in
    let k : ℕ = c.args.k in
    let P : Option ℕ → Type 0 = λ o. IfSome o (λ place. slice_get numbers place ≡ Some k) in
    subst P (sym c.ok.ensures.value) (some_place numbers k c.binary_search.result
    (searched numbers k c.binary_search.result c.binary_search.ensures.position (rises numbers c.requires)))

pub returns-clause-none : goal.returns-clause-none
returns-clause-none c =
    let numbers : List ℕ = c.args.live.now in
    let k : ℕ = c.args.k in
    let P : Option ℕ → Type 0 = λ o. IfNone o (¬ Contains numbers k) in
    subst P (sym c.ok.ensures.value) (no_place numbers k c.binary_search.result
    (searched numbers k c.binary_search.result c.binary_search.ensures.position (rises numbers c.requires)))
