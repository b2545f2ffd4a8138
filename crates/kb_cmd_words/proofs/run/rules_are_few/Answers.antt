use Rattle.std.proofs.Common.{length, ◌<◌, arith}
use Rattle.kb_word.specs.WordOrders.{Below}
use Rattle.kb_cmd_words.proofs.RunLemmas.{rules-few}
use Rattle.kb_cmd_words.proofs.run.rules_are_few.Goals as goal

pub returns : goal.returns
returns g =
    let presentation = g.args.presentation.now in
    let generators : length presentation.inv < 65536 = omega (arith, presentation.is_presentation.one_inverse_each) in
    rules-few (Below presentation.order) presentation.inv presentation.eqs g.args.rules.now.rules g.requires.oriented g.requires.few generators
