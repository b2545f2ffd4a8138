use Rattle.std.proofs.Common.{◌∷◌, None, refl, arith}
use Rattle.kb_lexing.specs.Token.{name}
use Rattle.kb_wordreader.proofs.PassLemmas.{passed_more}
use Rattle.kb_wordreader.proofs.FactorLemmas.{token_shorter}
use Rattle.kb_wordreader.proofs.first.take_starred_names.Goals as goal

pub loop-rest-smaller : goal.loop-rest-smaller
loop-rest-smaller c =
    let taken = c.in-Some.ensures.takes in
    omega (arith, token_shorter (name taken.spelling) c.loop-rest.text.now (42 ∷ c.in-Some.rest.now) taken.first)

pub loop-rest-preserved : goal.loop-rest-preserved
loop-rest-preserved c =
    let l = c.loop-rest in
    let rest = c.in-Some.rest.now in
    let taken = c.in-Some.ensures.takes in
    record {
      passed = λ bytes passed.
          passed_more c.args.names.now bytes l.text.now (42 ∷ rest) l.word taken.spelling c.take_starred.new.word None None (l.invariant.passed bytes passed) taken.first taken.takes rest refl;
      few = c.in-Some.ensures.few;
      shorter = omega (arith, token_shorter (name taken.spelling) l.text.now (42 ∷ rest) taken.first, l.invariant.shorter);
    }
