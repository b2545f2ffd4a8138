use Rattle.std.proofs.Common.{rules, ◌≡◌, Option, None, Some, ℕ, ◌+◌, ◌<◌, List, length, get_or, sym, ap, subst, arith}
use Rattle.std.proofs.lemmas.List.{get_or_read}
use Rattle.kb_trie.specs.LeftSides.{HasAt, IsLeastOf}
use Rattle.kb_index.specs.Automata.{Sides, listed}
use Rattle.kb_index.specs.Lefts.{StandsAt}
use Rattle.kb_index.proofs.Listing.{listed_length}
use Rattle.kb_index.proofs.Places.{least_there, none_there, number_at, places_behind}
use Rattle.kb_index.proofs.automaton.Automaton.next_at.Goals as goal

pub next_at-requires : goal.next_at-requires
next_at-requires c =
    let lefts : List (Option (List ℕ)) = c.self.inside.lookup.lefts in
    let numbers : List ℕ = c.self.inside.numbers.items in
    let within : c.args.place < length numbers =
    omega (arith, c.requires, ap (λ (v : Sides). length v.lefts) c.self.view_is, listed_length lefts numbers) in
    let has = c.self.invariant.has c.args.place within in
    let read : c.index.result.now ≡ get_or numbers c.args.place 0 = get_or_read numbers c.args.place c.index.result.now within c.index.ensures 0 in
    (has.0, subst (HasAt lefts has.0) (sym read) has.1)

pub returns-in_err-next_at : goal.returns-in_err-next_at
returns-in_err-next_at c left stands =
    let lefts : List (Option (List ℕ)) = c.self.inside.lookup.lefts in
    let numbers : List ℕ = c.self.inside.numbers.items in
    let P : Sides → Type 0 = λ v. StandsAt v.lefts left c.args.place in
    let Q : Sides → Type 0 = λ v. IsLeastOf (StandsAt v.lefts left) (c.args.place + 1) c.from_residual.result in
    let R : ℕ → Type 0 = λ n. IsLeastOf (HasAt c.self.inside.lookup.lefts left) (n + 1) None in
    let at = number_at lefts numbers c.self.invariant left c.args.place (subst P (sym c.self.view_is) stands) in
    let read : c.index.result.now ≡ get_or numbers c.args.place 0 = get_or_read numbers c.args.place c.index.result.now at.0 c.index.ensures 0 in
    let none : c.next_at.result ≡ None = search rules in
    let out : c.from_residual.result ≡ None = search rules in
    subst Q c.self.view_is
    (subst (IsLeastOf (StandsAt (listed lefts numbers) left) (c.args.place + 1)) (sym out)
    (none_there numbers (HasAt lefts left) (StandsAt (listed lefts numbers) left) (get_or numbers c.args.place 0 + 1) (c.args.place + 1)
    (places_behind lefts numbers c.self.invariant left c.args.place at.0)
    (subst R read
    (subst (IsLeastOf (HasAt lefts left) (c.index.result.now + 1)) none
    (c.next_at.ensures left (subst (HasAt lefts left) (sym read) at.1))))))

pub returns : goal.returns
returns c left stands =
    let lefts : List (Option (List ℕ)) = c.self.inside.lookup.lefts in
    let numbers : List ℕ = c.self.inside.numbers.items in
    let P : Sides → Type 0 = λ v. StandsAt v.lefts left c.args.place in
    let Q : Sides → Type 0 = λ v. IsLeastOf (StandsAt v.lefts left) (c.args.place + 1) c.place_of.result in
    let R : ℕ → Type 0 = λ n. IsLeastOf (HasAt c.self.inside.lookup.lefts left) (n + 1) (Some c.in_ok-next_at.field-0) in
    let at = number_at lefts numbers c.self.invariant left c.args.place (subst P (sym c.self.view_is) stands) in
    let read : c.index.result.now ≡ get_or numbers c.args.place 0 = get_or_read numbers c.args.place c.index.result.now at.0 c.index.ensures 0 in
    let some : c.next_at.result ≡ Some c.in_ok-next_at.field-0 = search rules in
    let F : List ℕ → Type 0 = λ ns. (place : ℕ) → place < length ns → get_or ns place 0 ≡ c.in_ok-next_at.field-0
    → c.place_of.result ≡ Some place in
    subst Q c.self.view_is
    (least_there numbers (HasAt lefts left) (StandsAt (listed lefts numbers) left) (get_or numbers c.args.place 0 + 1) (c.args.place + 1)
    c.in_ok-next_at.field-0 c.place_of.result (places_behind lefts numbers c.self.invariant left c.args.place at.0)
    (subst R read
    (subst (IsLeastOf (HasAt lefts left) (c.index.result.now + 1)) some
    (c.next_at.ensures left (subst (HasAt lefts left) (sym read) at.1))))
    (subst F c.deref.ensures.value c.place_of.ensures))
