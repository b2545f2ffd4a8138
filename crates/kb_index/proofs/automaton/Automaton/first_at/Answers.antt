use Rattle.std.proofs.Common.{rules, ◌≡◌, None, Some, ℕ, ◌<◌, List, length, get_or, sym, subst}
use Rattle.kb_trie.specs.States.{word}
use Rattle.kb_trie.specs.LeftSides.{HasAt, IsLeastOf}
use Rattle.kb_index.specs.Automata.{Sides, listed}
use Rattle.kb_index.specs.Lefts.{StandsAt}
use Rattle.kb_index.proofs.Places.{least_there, none_there, places_standing}
use Rattle.kb_index.proofs.automaton.Automaton.first_at.Goals as goal

pub returns-in_err-first_at : goal.returns-in_err-first_at
returns-in_err-first_at c =
    let inside = c.self.inside in
    let w : List ℕ = word inside.lookup.words c.args.state in
    let P : Sides → Type 0 = λ v. IsLeastOf (StandsAt v.lefts (word v.words c.args.state)) 0 c.from_residual.result in
    let none : c.first_at.result ≡ None = search rules in
    let out : c.from_residual.result ≡ None = search rules in
    subst P c.self.view_is
    (subst (IsLeastOf (StandsAt (listed inside.lookup.lefts inside.numbers.items) w) 0) (sym out)
    (none_there inside.numbers.items (HasAt inside.lookup.lefts w) (StandsAt (listed inside.lookup.lefts inside.numbers.items) w) 0 0
    (places_standing inside.lookup.lefts inside.numbers.items c.self.invariant w)
    (subst (IsLeastOf (HasAt inside.lookup.lefts w) 0) none c.first_at.ensures)))

pub returns : goal.returns
returns c =
    let inside = c.self.inside in
    let w : List ℕ = word inside.lookup.words c.args.state in
    let P : Sides → Type 0 = λ v. IsLeastOf (StandsAt v.lefts (word v.words c.args.state)) 0 c.place_of.result in
    let some : c.first_at.result ≡ Some c.in_ok-first_at.field-0 = search rules in
    let F : List ℕ → Type 0 = λ ns. (place : ℕ) → place < length ns → get_or ns place 0 ≡ c.in_ok-first_at.field-0
    → c.place_of.result ≡ Some place in
    subst P c.self.view_is
    (least_there inside.numbers.items (HasAt inside.lookup.lefts w) (StandsAt (listed inside.lookup.lefts inside.numbers.items) w) 0 0
    c.in_ok-first_at.field-0 c.place_of.result (places_standing inside.lookup.lefts inside.numbers.items c.self.invariant w)
    (subst (IsLeastOf (HasAt inside.lookup.lefts w) 0) some c.first_at.ensures) (subst F c.deref.ensures.value c.place_of.ensures))
