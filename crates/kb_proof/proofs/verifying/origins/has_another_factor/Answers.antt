use Rattle.std.proofs.Common.{◌≡◌, ℕ, subst, arith}
use Rattle.kb_machine.specs.Lines.{rule_of, rules_of}
use Rattle.kb_proof.proofs.Factors.{NoneFrom, none_another}
use Rattle.kb_proof.proofs.verifying.origins.has_another_factor.Goals as goal

pub returns : goal.returns
returns c =
    let rules = rules_of c.args.lines.now in
    let own = c.in-Some.own.now in
    let zero : c.loop-index.index ≡ 0 = omega arith in
    let P : ℕ → Type 0 = λ start. NoneFrom rules c.args.number own.left start in
    let none : P 0 = subst P zero c.loop-index.invariant in
    (λ found. absurd (cc found), λ has. absurd (none_another rules c.args.number (rule_of own) c.in-Some.ensures.some none has))
