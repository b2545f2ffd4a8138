use Rattle.std.proofs.Common.{◌≡◌, ◌<◌, ℕ, List, Option, None, length, get_or, set, sym, ap, ◌∙◌, subst, arith}
use Rattle.std.proofs.lemmas.List.{get_or_read}
use Rattle.std.specs.List.{remove}
use Rattle.kb_trie.specs.LeftSides.{HasAt}
use Rattle.kb_index.specs.Automata.{AreNumbers, Sides, listed}
use Rattle.kb_index.proofs.Listing.{listed_length, listed_removed, numbers_removed}
use Rattle.kb_index.proofs.automaton.Automaton.remove.Goals as goal

pub remove-requires : goal.remove-requires
remove-requires c =
    let lefts : List (Option (List ℕ)) = c.self.inside.lookup.lefts in
    let numbers : List ℕ = c.self.inside.numbers.items in
    let within : c.args.place < length numbers =
    omega (arith, c.requires, ap (λ (v : Sides). length v.lefts) c.self.view_is, listed_length lefts numbers) in
    let has = c.self.invariant.has c.args.place within in
    let read : c.index.result.now ≡ get_or numbers c.args.place 0 = get_or_read numbers c.args.place c.index.result.now within c.index.ensures 0 in
    (has.0, subst (HasAt lefts has.0) (sym read) has.1)

pub invariant_of-self-2 : goal.invariant_of-self-2
invariant_of-self-2 c =
    let lefts : List (Option (List ℕ)) = c.self.inside.lookup.lefts in
    let numbers : List ℕ = c.self.inside.numbers.items in
    let within : c.args.place < length numbers =
    omega (arith, c.requires, ap (λ (v : Sides). length v.lefts) c.self.view_is, listed_length lefts numbers) in
    let read : c.index.result.now ≡ get_or numbers c.args.place 0 = get_or_read numbers c.args.place c.index.result.now within c.index.ensures 0 in
    let changed : c.remove.new.self.lefts ≡ set lefts (get_or numbers c.args.place 0) None =
    c.in_ok-remove.ensures.ok ∙ ap (λ (n : ℕ). set c.self.inside.lookup.lefts n None) read in
    let P : List (Option (List ℕ)) → Type 0 = λ ls. AreNumbers ls c.remove-number.new.self.items in
    let Q : List ℕ → Type 0 = λ ns. AreNumbers (set c.self.inside.lookup.lefts (get_or c.self.inside.numbers.items c.args.place 0) None) ns in
    subst P (sym changed)
    (subst Q (sym c.remove-number.ensures.items) (numbers_removed lefts numbers c.args.place c.self.invariant within))

pub returns-clause-ok : goal.returns-clause-ok
returns-clause-ok c =
    let lefts : List (Option (List ℕ)) = c.self.inside.lookup.lefts in
    let numbers : List ℕ = c.self.inside.numbers.items in
    let within : c.args.place < length numbers =
    omega (arith, c.requires, ap (λ (v : Sides). length v.lefts) c.self.view_is, listed_length lefts numbers) in
    let read : c.index.result.now ≡ get_or numbers c.args.place 0 = get_or_read numbers c.args.place c.index.result.now within c.index.ensures 0 in
    let changed : c.remove.new.self.lefts ≡ set lefts (get_or numbers c.args.place 0) None =
    c.in_ok-remove.ensures.ok ∙ ap (λ (n : ℕ). set c.self.inside.lookup.lefts n None) read in
    ap (λ (ls : List (Option (List ℕ))). listed ls c.remove-number.new.self.items) changed
    ∙ ap (λ (ns : List ℕ). listed (set c.self.inside.lookup.lefts (get_or c.self.inside.numbers.items c.args.place 0) None) ns)
    c.remove-number.ensures.items
    ∙ listed_removed lefts numbers c.args.place c.self.invariant within
    ∙ ap (λ (v : Sides). remove v.lefts c.args.place) c.self.view_is
