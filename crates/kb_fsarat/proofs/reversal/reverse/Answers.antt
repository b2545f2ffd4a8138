use Rattle.std.specs.Prelude.{reverse}
use Rattle.kb_fsa.specs.Language.{Accepts}
use Rattle.kb_fsarat.proofs.Determinising.{language_of}
use Rattle.kb_fsarat.proofs.Reversing.{counted_backwards}
use Rattle.kb_fsarat.proofs.reversal.reverse.Goals as goal

pub returns-clause-language : goal.returns-clause-language
returns-clause-language c =
    language_of c.determinise.result c.in_ok-backwards.backwards (λ word. Accepts c.args.one.now (reverse word))
    c.determinise.ensures.language c.in_ok-backwards.ensures.language

pub returns-clause-few : goal.returns-clause-few
returns-clause-few c ok more =
    c.determinise.ensures.few ok
    ((counted_backwards c.args.one.now c.in_ok-backwards.backwards c.in_ok-backwards.ensures.sets c.args.limit).1 more)

pub returns-clause-many : goal.returns-clause-many
returns-clause-many c most is =
    let many = c.determinise.ensures.many most is in
    (many.0, (counted_backwards c.args.one.now c.in_ok-backwards.backwards c.in_ok-backwards.ensures.sets c.args.limit).0 many.1)
