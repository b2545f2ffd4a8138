use Rattle.std.proofs.Common.{◌≡◌, ◌≢◌, ◌<◌, ℕ, List, Some, rules, sym, subst, arith}
use Rattle.std.specs.List.{Contains}
use Rattle.std.specs.String.{string_bytes}
use Rattle.kb_word.specs.Names.{name_of}
use Rattle.kb_word.proofs.NameLemmas.{letter_named, none_named, none_named_before}
use Rattle.kb_word.proofs.names.Names.number_of.Goals as goal

pub returns-in_err-place-clause-none : goal.returns-in_err-place-clause-none
returns-in_err-place-clause-none c =
    let keys = c.self.inside.names.keys in
    let missed = sym c.in_err-place.ensures.found in
    let P : List (List ℕ) → Type 0 = λ names. ¬ Contains names c.args.name.now in
    let none = subst P c.self.view_is (none_named string_bytes keys c.args.name.now missed) in
    search (rules, none)

pub returns-clause-found : goal.returns-clause-found
returns-clause-found c =
    let P : List (List ℕ) → Type 0 = λ names. name_of names c.new.result ≡ Some c.args.name.now in
    subst P c.self.view_is
    (letter_named string_bytes c.self.inside.names.keys c.args.name.now c.in_ok-place.place c.new.result (sym c.in_ok-place.ensures.index) (omega arith))

pub returns-clause-first : goal.returns-clause-first
returns-clause-first c =
    let P : List (List ℕ) → Type 0 = λ names. (earlier : ℕ) → earlier < c.new.result → name_of names earlier ≢ Some c.args.name.now in
    subst P c.self.view_is
    (none_named_before string_bytes c.self.inside.names.keys c.args.name.now c.in_ok-place.place c.new.result (sym c.in_ok-place.ensures.index) (omega arith)
    c.self.invariant.1)
