use Rattle.std.proofs.Common.{ℕ, max, sym, ap, ◌∙◌, subst}
use Rattle.kb_lexing.specs.Lexemes.{IsLongestFront}
use Rattle.kb_lexing.specs.Possible.{BeginsExpected}
use Rattle.kb_lexing.specs.declared.place.Expected.TheVariants as variant
use Rattle.kb_lexing.proofs.ExpectedValues.{value_longest}
use Rattle.kb_lexing.proofs.place.value_front.Goals as goal

pub returns : goal.returns
returns c =
    let strings = c.string_front.result in
    let same = c.max-2.ensures ∙ ap (λ (n : ℕ). max n strings) c.max.ensures in
    subst (λ n. IsLongestFront (BeginsExpected variant.Value) c.args.bytes.now n) (sym same)
    (value_longest c.args.bytes.now c.name_front.result c.number_front.result strings c.name_front.ensures c.number_front.ensures c.string_front.ensures)
