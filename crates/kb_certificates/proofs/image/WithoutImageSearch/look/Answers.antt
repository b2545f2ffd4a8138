use Rattle.std.proofs.Common.{◌+◌, arith, rules}
use Rattle.kb_fsa.specs.Language.{generators}
use Rattle.kb_certificates.proofs.WithoutImages.{few_here, first_counted, first_lacking, given_image, least_without}
use Rattle.kb_certificates.proofs.image.WithoutImageSearch.look.Goals as goal

pub exists-requires : goal.exists-requires
exists-requires c =
    let automata = c.args.self.now.automata in
    (generators automata.acceptor.now.alphabet, automata.fit.pairs (c.args.place + 1) c.at-x.result.1.now c.at-x.ensures.multiplier)

pub returns-in-Err-TooManyStates-clause-found : goal.returns-in-Err-TooManyStates-clause-found
returns-in-Err-TooManyStates-clause-found c before =
    let automata = c.args.self.now.automata in
    let many = c.in-Err-TooManyStates.ensures.many c.in-Err-TooManyStates.field-0-0 (search rules) in
    first_counted automata.acceptor.now automata.multipliers.now c.args.self.now.limit c.args.place c.at-x.result.1.now c.at-x.ensures.multiplier
    before many.1 c.at-x.result.0 c.at-x.ensures.number

pub returns-in-Some-clause-found : goal.returns-in-Some-clause-found
returns-in-Some-clause-found c before =
    let automata = c.args.self.now.automata in
    let acceptor = automata.acceptor.now in let multipliers = automata.multipliers.now in
    let multiplier = c.at-x.result.1.now in let at = c.at-x.ensures.multiplier in
    let all = automata.fit.one_each in let low = c.requires in
    first_lacking acceptor multipliers c.args.self.now.limit c.args.place multiplier at before (c.in-Ok.ensures.few (search rules))
    c.at-x.result.0 c.at-x.ensures.number c.in-Some.word
    (λ order relations.
    least_without order relations acceptor multipliers automata.fit c.in_ok-word.ensures.automaton (c.args.place + 1) multiplier at
    c.in-Ok.first_words c.in-Ok.ensures.language (omega arith, omega (arith, all, low)) c.in-Some.word
    (rw c.in-Some.is at c.in_ok-word.ensures.found))

pub returns-clause-none : goal.returns-clause-none
returns-clause-none c =
    let automata = c.args.self.now.automata in
    let acceptor = automata.acceptor.now in let multipliers = automata.multipliers.now in
    let multiplier = c.at-x.result.1.now in let at = c.at-x.ensures.multiplier in record {
      images = λ order relations.
          given_image order relations acceptor multipliers automata.fit c.in_ok-word.ensures.automaton (c.args.place + 1) multiplier at
          c.in-Ok.first_words c.in-Ok.ensures.language (rw c.in-None.is at c.in_ok-word.ensures.none);
      few = few_here acceptor multipliers c.args.self.now.limit c.args.place multiplier at (c.in-Ok.ensures.few (search rules));
    }
