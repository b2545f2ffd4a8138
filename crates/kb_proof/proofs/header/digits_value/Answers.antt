use Rattle.std.proofs.Common.{◌≡◌, ◌∙◌, ◌^◌, ◌<◌, ℕ, List, Ok, sym, ap, subst, arith}
use Rattle.std.proofs.lemmas.Str.Parse.{digits_value_short, parse_gives}
use Rattle.kb_lexing.specs.Spelling.{value_after}
use Rattle.kb_proof.specs.Faults.{AreFewDigits}
use Rattle.kb_proof.proofs.TextLemmas.{digits_utf8, numerals}
use Rattle.kb_proof.proofs.header.digits_value.Goals as goal

few_small : (digits : List ℕ) → AreFewDigits digits → value_after 0 digits < 2 ^ 64
few_small digits h =
    let short : value_after 0 digits < 10 ^ 18 = digits_value_short numerals digits 18 h.each h.few in
    omega arith

pub returns-in_default : goal.returns-in_default
returns-in_default c = absurd (c.in_default.ensures.cases.0 (digits_utf8 c.args.digits.now c.requires.each))

pub returns-in_default-parse : goal.returns-in_default-parse
returns-in_default-parse c =
    let P : List ℕ → Type 0 = λ l. AreFewDigits l in
    let few = subst P (sym c.in-Ok.ensures.cases.0) c.requires in
    let is : c.parse.result ≡ Ok (value_after 0 c.in-Ok.text.now) =
    parse_gives numerals 64 c.in-Ok.text.now c.parse.result c.parse.ensures.value.0 few.each few.some (few_small c.in-Ok.text.now few) in
    absurd cc

pub returns : goal.returns
returns c =
    let P : List ℕ → Type 0 = λ l. AreFewDigits l in
    let few = subst P (sym c.in-Ok.ensures.cases.0) c.requires in
    let is : c.parse.result ≡ Ok (value_after 0 c.in-Ok.text.now) =
    parse_gives numerals 64 c.in-Ok.text.now c.parse.result c.parse.ensures.value.0 few.each few.some (few_small c.in-Ok.text.now few) in
    let same : c.in-Ok-parse.value ≡ value_after 0 c.in-Ok.text.now = cc in
    same ∙ ap (value_after 0) c.in-Ok.ensures.cases.0
