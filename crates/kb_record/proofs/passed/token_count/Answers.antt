use Rattle.std.proofs.Common.{◌≡◌, ◌≤◌, length, Some, None, List, [], ◌∷◌, ℕ, ap, arith, refl, sym}
use Rattle.kb_lexing.proofs.FrontTokens.{tokens_of, tokens_next, tokens_are}
use Rattle.kb_record.proofs.passed.token_count.Goals as goal

pub loop-count-init : goal.loop-count-init
loop-count-init c = (omega arith, omega arith)

pub loop-count-preserved : goal.loop-count-preserved
loop-count-preserved c =
    let l = c.loop-count in
    let next = tokens_next l.rest.now (Some c.in-Some.lexeme) c.in-Some.ensures.first in
    let shorter = c.in-Some.ensures.shorter in
    (omega (arith, l.invariant.0, ap length next), omega (arith, l.invariant.1))

pub returns-in_default : goal.returns-in_default
returns-in_default c =
    let l = c.loop-count in
    omega (arith, l.invariant.0, ap length (tokens_next l.rest.now None c.in_default.ensures.first))

no_tokens : (rest : List ℕ) → length rest ≤ 0 → length (tokens_of rest) ≡ 0
no_tokens [] few = ap length (sym (tokens_are [] [] refl))
no_tokens (b ∷ rest) few = let never : ⊥ = omega arith in absurd never

pub returns : goal.returns
returns c =
    let l = c.loop-count in
    let none = no_tokens l.rest.now (omega (arith, l.invariant.1, c.loop-count-test.false)) in
    omega (arith, l.invariant.0)
