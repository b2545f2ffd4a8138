use Rattle.std.proofs.Common.{◌≡◌, ◌∙◌, ◌<◌, ◌^◌, sym, arith}
use Rattle.std.proofs.lemmas.Fmt.{decimal_injective}
use Rattle.kb_proof.proofs.numbers.read_u32.Goals as goal

pub returns-in_default : goal.returns-in_default
returns-in_default c = λ n small e.
    let number = c.in-Some.number in
    let fits : n < 2 ^ 64 = omega arith in
    let same : number ≡ n = decimal_injective number n c.in-Some.ensures.1 fits (sym c.in-Some.ensures.0 ∙ e) in
    omega (arith, same)
