use Rattle.std.proofs.Common.{◌≡◌, ◌++◌, ◌∷◌, [], ℕ, List, length, map, sym, ap, ◌∙◌, subst, arith}
use Rattle.std.specs.List.{Contains}
use Rattle.std.specs.String.{string_bytes}
use Rattle.std.proofs.lemmas.List.{length-map}
use Rattle.kb_word.proofs.NameLemmas.{apart_named, count_after, name_added, name_known}
use Rattle.kb_word.proofs.names.Names.push.Goals as goal

pub invariant_of-self-2 : goal.invariant_of-self-2
invariant_of-self-2 c =
    let new = c.insert.new.self.keys in
    let old = c.self.inside.names.keys in
    let few = count_after string_bytes old new c.args.name _ c.in_ok-insert.ensures.added c.in_ok-insert.ensures.keys in
    let count = sym (ap length c.self.view_is) ∙ length-map old string_bytes in
    (omega (arith, few, count, c.requires), apart_named string_bytes new c.insert.ensures.unique)

pub returns-clause-new : goal.returns-clause-new
returns-clause-new c = λ new.
    let old = c.self.inside.names.keys in
    let pushed = name_added string_bytes old c.insert.new.self.keys c.args.name _ c.in_ok-insert.ensures.added c.in_ok-insert.ensures.keys new in
    let P : List (List ℕ) → Type 0 = λ names. (¬ Contains names (string_bytes c.args.name)) × (map string_bytes c.insert.new.self.keys ≡ names ++ string_bytes c.args.name ∷ []) in
    subst P c.self.view_is pushed

pub returns-clause-known : goal.returns-clause-known
returns-clause-known c = λ known.
    let old = c.self.inside.names.keys in
    let kept = name_known string_bytes old c.insert.new.self.keys c.args.name _ c.in_ok-insert.ensures.added c.in_ok-insert.ensures.keys known in
    let P : List (List ℕ) → Type 0 = λ names. Contains names (string_bytes c.args.name) × (map string_bytes c.insert.new.self.keys ≡ names) in
    subst P c.self.view_is kept
