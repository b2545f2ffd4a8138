use Rattle.std.proofs.lemmas.Result.{IfOk-weaker}
use Rattle.kb_fsabool.specs.declared.connective.Connective.TheVariants.{Xor}
use Rattle.kb_fsabool.specs.Products.{IsCombination}
use Rattle.kb_fsabool.specs.Answers.{IsSymmetricDifference}
use Rattle.kb_fsabool.proofs.Differences.{is_symmetric_difference}
use Rattle.kb_fsabool.proofs.difference.symmetric_difference.Goals as goal

pub returns-clause-language : goal.returns-clause-language
returns-clause-language c =
    let one = c.args.one.now in let two = c.args.two.now in
    IfOk-weaker c.combine.result (IsCombination Xor one two) (IsSymmetricDifference one two)
    (is_symmetric_difference one two) c.combine.ensures.language
