use Rattle.std.proofs.Common.{ℕ, List, length, sym, ap, ◌∙◌, subst, arith}
use Rattle.std.specs.String.{string_bytes}
use Rattle.std.proofs.lemmas.List.{length-map}
use Rattle.kb_word.specs.Names.{AreApart}
use Rattle.kb_word.proofs.NameLemmas.{names_copied}
use Rattle.kb_word.proofs.names.Names.copy.Goals as goal

pub invariant_of-result : goal.invariant_of-result
invariant_of-result c =
    let old = c.self.inside.names.keys in
    let new = c.in_ok-clone.field-0.keys in
    let same = names_copied string_bytes old new c.in_ok-clone.ensures.cases in
    let count = sym (length-map new string_bytes) ∙ ap length same ∙ length-map old string_bytes in
    let P : List (List ℕ) → Type 0 = λ names. AreApart names in
    (omega (arith, count, c.self.invariant.0), subst P (sym same) c.self.invariant.1)

pub returns : goal.returns
returns c =
    names_copied string_bytes c.self.inside.names.keys c.in_ok-clone.field-0.keys c.in_ok-clone.ensures.cases ∙ c.self.view_is
