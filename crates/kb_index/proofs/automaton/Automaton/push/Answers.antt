use Rattle.std.proofs.Common.{◌≡◌, ℕ, List, [], ◌∷◌, ◌++◌, Option, Some, length, sym, ap, ◌∙◌, subst}
use Rattle.kb_index.specs.Automata.{AreNumbers, Sides, listed}
use Rattle.kb_index.proofs.Listing.{listed_pushed, numbers_pushed}
use Rattle.kb_index.proofs.automaton.Automaton.push.Goals as goal

pub invariant_of-self-2 : goal.invariant_of-self-2
invariant_of-self-2 c =
    let lefts : List (Option (List ℕ)) = c.self.inside.lookup.lefts in
    let numbers : List ℕ = c.self.inside.numbers.items in
    let items : c.push-2.new.self.items ≡ numbers ++ length lefts ∷ [] =
    c.in_ok-push.ensures.items ∙ ap (λ (ns : List ℕ). ns ++ c.in_ok-number.number ∷ []) c.in_ok-reserve.ensures.items
    ∙ ap (λ (n : ℕ). c.self.inside.numbers.items ++ n ∷ []) c.in_ok-number.ensures.number in
    let P : List (Option (List ℕ)) → Type 0 = λ ls. AreNumbers ls c.push-2.new.self.items in
    let Q : List ℕ → Type 0 = λ ns. AreNumbers (c.self.inside.lookup.lefts ++ Some c.args.left.now ∷ []) ns in
    subst P (sym c.in_ok-number.ensures.ok) (subst Q (sym items) (numbers_pushed lefts numbers c.args.left.now c.self.invariant))

pub returns-clause-ok : goal.returns-clause-ok
returns-clause-ok c =
    let lefts : List (Option (List ℕ)) = c.self.inside.lookup.lefts in
    let numbers : List ℕ = c.self.inside.numbers.items in
    let items : c.push-2.new.self.items ≡ numbers ++ length lefts ∷ [] =
    c.in_ok-push.ensures.items ∙ ap (λ (ns : List ℕ). ns ++ c.in_ok-number.number ∷ []) c.in_ok-reserve.ensures.items
    ∙ ap (λ (n : ℕ). c.self.inside.numbers.items ++ n ∷ []) c.in_ok-number.ensures.number in
    ap (λ (ls : List (Option (List ℕ))). listed ls c.push-2.new.self.items) c.in_ok-number.ensures.ok
    ∙ ap (λ (ns : List ℕ). listed (c.self.inside.lookup.lefts ++ Some c.args.left.now ∷ []) ns) items
    ∙ listed_pushed lefts numbers c.args.left.now c.self.invariant
    ∙ ap (λ (v : Sides). v.lefts ++ c.args.left.now ∷ []) c.self.view_is
