use Rattle.kb_fsarat.specs.Products.{IsSplit}
use Rattle.kb_fsarat.proofs.Determinising.{language_of}
use Rattle.kb_fsarat.proofs.Chaining.{counted_chained}
use Rattle.kb_fsarat.proofs.concatenation.concat.Goals as goal

pub returns-clause-language : goal.returns-clause-language
returns-clause-language c =
    language_of c.determinise.result c.in_ok-both.both (IsSplit c.args.one.now c.args.two.now) c.determinise.ensures.language
    c.in_ok-both.ensures.language

pub returns-clause-few : goal.returns-clause-few
returns-clause-few c ok more =
    c.determinise.ensures.few ok
    ((counted_chained c.args.one.now c.args.two.now c.in_ok-both.both c.in_ok-both.ensures.table c.in_ok-both.ensures.sets c.args.limit).1 more)

pub returns-clause-many : goal.returns-clause-many
returns-clause-many c most is =
    let many = c.determinise.ensures.many most is in (
      many.0,
      (counted_chained c.args.one.now c.args.two.now c.in_ok-both.both c.in_ok-both.ensures.table c.in_ok-both.ensures.sets c.args.limit).0 many.1,
    )
