use Rattle.kb_lexing.specs.Token.{name}
use Rattle.kb_wordreader.proofs.FactorLemmas.{token_shorter}
use Rattle.kb_wordreader.proofs.factors.take_letter.Goals as goal

pub returns-clause-shorter : goal.returns-clause-shorter
returns-clause-shorter c =
    let taken = c.in_ok-rest.ensures.takes in
    token_shorter (name taken.spelling) c.args.text.now c.in_ok-rest.rest.now taken.first
