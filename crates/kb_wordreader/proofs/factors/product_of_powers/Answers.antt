use Rattle.std.proofs.Common.{[], subst}
use Rattle.kb_record.specs.Nesting.{deepest}
use Rattle.kb_wordreader.specs.Factors.{Adds, FactorsFront}
use Rattle.kb_wordreader.proofs.FactorLemmas.{meaning}
use Rattle.kb_wordreader.proofs.factors.product_of_powers.Goals as goal

pub returns : goal.returns
returns c =
    let names = c.args.presentation.now.names in
    let inverses = c.args.presentation.now.inv in
    let rest = c.in_ok-rest.rest.now in
    let w = c.take_factors.new.word in
    let read : Adds (FactorsFront names inverses deepest c.args.bytes.now rest) [] w =
    subst (λ old. Adds (FactorsFront names inverses deepest c.args.bytes.now rest) old w) c.clear.ensures c.in_ok-rest.ensures.takes in
    meaning names inverses c.args.bytes.now rest w read (c.is_blank.ensures.0 c.if-not-is_blank.false)
