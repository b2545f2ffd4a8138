use Rattle.std.proofs.Common.{◌≡◌, ◌↔◌, ℕ, ◌<◌, ◌≤◌, List, length, get_or, Bool, IsTrue, Result, Ok, Err, refl, sym, ◌∙◌, subst}
use Rattle.std.specs.Prelude.{is_ok}
use Rattle.std.specs.List.{Contains}
use Rattle.std.specs.Result.{MatchResult}
use Rattle.std.proofs.lemmas.List.{get_or_default}
use Rattle.std.proofs.lemmas.List.Sorted.{searched}
use Rattle.kb_book.proofs.Searching.{rises, no_place}
use Rattle.kb_share.proofs.finding.is_live.Goals as goal

found_live : (numbers : List ℕ) (x : ℕ) (r : Result ℕ ℕ)
    → MatchResult r (λ i. (i < length numbers) × (get_or numbers i 0 ≡ x)) (λ i. (i ≤ length numbers)
    × ((k : ℕ) → k < i → get_or numbers k 0 < x) × ((k : ℕ) → i ≤ k → k < length numbers → x < get_or numbers k 0))
    → IsTrue (is_ok r) ↔ Contains numbers x
found_live numbers x (Ok i) found =
    (λ yes. (i, found.0, sym (get_or_default numbers i 0 x found.0) ∙ found.1), λ has. refl)
found_live numbers x (Err i) apart = (λ yes. absurd (cc yes), λ has. absurd (no_place numbers x (Err i) apart has))

pub returns : goal.returns
returns c =
    let numbers : List ℕ = c.args.live.now in
    let k : ℕ = c.args.k in
    let P : Bool → Type 0 = λ b. IsTrue b ↔ Contains numbers k in
    subst P (sym c.is_ok.ensures.value) (found_live numbers k c.binary_search.result
    (searched numbers k c.binary_search.result c.binary_search.ensures.position (rises numbers c.requires)))
