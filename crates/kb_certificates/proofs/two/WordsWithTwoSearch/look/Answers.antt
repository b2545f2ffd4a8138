use Rattle.std.proofs.Common.{◌+◌, arith}
use Rattle.kb_certificates.proofs.Loops.{own_pairs}
use Rattle.kb_certificates.proofs.TwoImages.{least_images, none_images}
use Rattle.kb_certificates.proofs.two.WordsWithTwoSearch.look.Goals as goal

pub least_two-requires : goal.least_two-requires
least_two-requires c =
    let automata = c.args.self.now.automata in
    own_pairs automata.acceptor.now automata.multipliers.now automata.fit (c.args.place + 1) c.at-x.result.1.now c.at-x.ensures.multiplier

pub returns-in-Some-clause-found : goal.returns-in-Some-clause-found
returns-in-Some-clause-found c order relations =
    let automata = c.args.self.now.automata in
    let all = automata.fit.one_each in let low = c.requires in record {
      number = c.at-x.ensures.number;
      least = least_images order relations automata.acceptor.now automata.multipliers.now automata.fit (c.args.place + 1) c.at-x.result.1.now
          c.at-x.ensures.multiplier (omega arith, omega (arith, all, low)) c.in-Some.word c.in-Some.image c.in-Some.other
          (rw c.in-Some.is at c.in_ok-word.ensures.found);
    }

pub returns-in-None-clause-none : goal.returns-in-None-clause-none
returns-in-None-clause-none c order relations =
    let automata = c.args.self.now.automata in
    none_images order relations automata.acceptor.now automata.multipliers.now automata.fit (c.args.place + 1) c.at-x.result.1.now
    c.at-x.ensures.multiplier (rw c.in-None.is at c.in_ok-word.ensures.none)
