use Rattle.std.proofs.Common.{rules, ◌≡◌, None, Some, ℕ, ◌<◌, List, length, get_or, sym, subst}
use Rattle.kb_trie.specs.States.{word}
use Rattle.kb_trie.specs.LeftSides.{HasEnding, IsLeastOf}
use Rattle.kb_index.specs.Automata.{Sides, listed}
use Rattle.kb_index.specs.Lefts.{EndsAt}
use Rattle.kb_index.proofs.Places.{least_there, none_there, places_ending}
use Rattle.kb_index.proofs.automaton.Automaton.first_ending.Goals as goal

pub returns-in_err-first_ending : goal.returns-in_err-first_ending
returns-in_err-first_ending c =
    let inside = c.self.inside in
    let w : List ℕ = word inside.lookup.words c.args.state in
    let P : Sides → Type 0 = λ v. IsLeastOf (EndsAt v.lefts (word v.words c.args.state)) 0 c.from_residual.result in
    let none : c.first_ending.result ≡ None = search rules in
    let out : c.from_residual.result ≡ None = search rules in
    subst P c.self.view_is
    (subst (IsLeastOf (EndsAt (listed inside.lookup.lefts inside.numbers.items) w) 0) (sym out)
    (none_there inside.numbers.items (HasEnding inside.lookup.lefts w) (EndsAt (listed inside.lookup.lefts inside.numbers.items) w) 0 0
    (places_ending inside.lookup.lefts inside.numbers.items c.self.invariant w)
    (subst (IsLeastOf (HasEnding inside.lookup.lefts w) 0) none c.first_ending.ensures)))

pub returns : goal.returns
returns c =
    let inside = c.self.inside in
    let w : List ℕ = word inside.lookup.words c.args.state in
    let P : Sides → Type 0 = λ v. IsLeastOf (EndsAt v.lefts (word v.words c.args.state)) 0 c.place_of.result in
    let some : c.first_ending.result ≡ Some c.in_ok-first_ending.field-0 = search rules in
    let F : List ℕ → Type 0 = λ ns. (place : ℕ) → place < length ns → get_or ns place 0 ≡ c.in_ok-first_ending.field-0
    → c.place_of.result ≡ Some place in
    subst P c.self.view_is
    (least_there inside.numbers.items (HasEnding inside.lookup.lefts w) (EndsAt (listed inside.lookup.lefts inside.numbers.items) w) 0 0
    c.in_ok-first_ending.field-0 c.place_of.result (places_ending inside.lookup.lefts inside.numbers.items c.self.invariant w)
    (subst (IsLeastOf (HasEnding inside.lookup.lefts w) 0) some c.first_ending.ensures) (subst F c.deref.ensures.value c.place_of.ensures))
