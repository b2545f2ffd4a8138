use Rattle.std.proofs.Common.{rules, arith}
use Rattle.kb_lexing.proofs.NameFronts.{short_first}
use Rattle.kb_lexing.proofs.fronts.short_name.Goals as goal

pub returns-then-ends_name-clause-some : goal.returns-then-ends_name-clause-some
returns-then-ends_name-clause-some c =
    short_first c.args.text.now (omega (arith, c.in-len1-up.len_at_least)) (search rules) (search rules)
