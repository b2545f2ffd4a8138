use Rattle.std.proofs.Common.{◌∙◌, sym, true≢false}
use Rattle.kb_cmd_words.proofs.LogLemmas.{sides_apart, sides_joined}
use Rattle.kb_cmd_words.proofs.joining.sides_apart.Goals as goal

pub returns-then-eq : goal.returns-then-eq
returns-then-eq c =
    sides_joined c.args.reducer.now.rules c.args.number c.args.relation.now c.in_ok-u.u c.in_ok-v.v c.in_ok-u.ensures c.in_ok-v.ensures
    (c.eq.ensures.same.0 c.if-eq.true)

pub returns : goal.returns
returns c =
    sides_apart c.args.reducer.now.rules c.args.number c.args.relation.now c.in_ok-u.u c.in_ok-v.v c.in_ok-u.ensures c.in_ok-v.ensures
    (λ same. true≢false (sym (c.eq.ensures.same.1 same) ∙ c.if-eq.false))
