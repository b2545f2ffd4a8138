use Rattle.std.proofs.Common.{sym, subst}
use Rattle.kb_axioms.specs.Checked.{IsFirstCertificate, checked_of}
use Rattle.kb_axioms.specs.Checked.IsFirstCertificate.{n1, n2, n4}
use Rattle.kb_axioms.specs.Checked.IsFirstCount.{images}
use Rattle.kb_axioms.proofs.automata.check_automata.Goals as goal

pub returns-in-Some : goal.returns-in-Some
returns-in-Some g c =
    let found = rw c.in-Some.is at c.in_ok-u.ensures.found in n1 (found c.args.multipliers.now)

pub returns-in-Some-2 : goal.returns-in-Some-2
returns-in-Some-2 g c =
    let none = rw c.in_default.is at c.in_ok-u.ensures.none in
    let checked = checked_of c.args.acceptor.now c.args.multipliers.now c.args.relations.now c.args.limit in
    let found = rw c.in-Some-2.is at c.in_ok-pair.ensures.found in
    subst (IsFirstCertificate checked) (sym c.n2.ensures) (n2 (record { prefixes = none c.args.multipliers.now }) found)

pub look_further-requires-clause-passes : goal.look_further-requires-clause-passes
look_further-requires-clause-passes g c κs within =
    let none = rw c.in_default.is at c.in_ok-u.ensures.none in
    let given = rw c.in-Given.is at c.in_ok-check_images.ensures in record {
      earlier = record {
        earlier = record { prefixes = none c.args.multipliers.now };
        inside = rw c.in_default-2.is at c.in_ok-pair.ensures.none;
      };
      images = given.0;
      few = given.1;
    }

pub returns-in-Lacking : goal.returns-in-Lacking
returns-in-Lacking g c =
    let none = rw c.in_default.is at c.in_ok-u.ensures.none in
    let lacking = rw c.in-Lacking.is at c.in_ok-check_images.ensures in
    n4 (record {
      earlier = record { prefixes = none c.args.multipliers.now };
      inside = rw c.in_default-2.is at c.in_ok-pair.ensures.none;
    }) lacking.0 lacking.1

pub returns-in-TooManyStates : goal.returns-in-TooManyStates
returns-in-TooManyStates g c =
    let none = rw c.in_default.is at c.in_ok-u.ensures.none in
    images (record {
      earlier = record { prefixes = none c.args.multipliers.now };
      inside = rw c.in_default-2.is at c.in_ok-pair.ensures.none;
    }) (rw c.in-TooManyStates.is at c.in_ok-check_images.ensures)
