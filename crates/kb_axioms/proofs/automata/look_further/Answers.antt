use Rattle.std.proofs.Common.{sym, subst}
use Rattle.kb_axioms.specs.Checked.{IsFirstCertificate, checked_of}
use Rattle.kb_axioms.specs.Checked.IsFirstCertificate.{n5, n6, n7}
use Rattle.kb_axioms.proofs.Passing.{can_be_followed}
use Rattle.kb_axioms.proofs.automata.look_further.Goals as goal

pub returns-in-Some : goal.returns-in-Some
returns-in-Some g c =
    let checked = checked_of c.args.acceptor.now c.args.multipliers.now c.args.relations.now c.args.limit in
    let found = rw c.in-Some.is at c.in_ok-words.ensures.found in
    subst (IsFirstCertificate checked) (sym c.n5.ensures) (n5 c.requires.passes found)

pub returns-in-Some-2 : goal.returns-in-Some-2
returns-in-Some-2 g c =
    let checked = checked_of c.args.acceptor.now c.args.multipliers.now c.args.relations.now c.args.limit in
    let found = rw c.in-Some-2.is at c.in_ok-word.ensures.found in
    subst (IsFirstCertificate checked) (sym c.n6.ensures)
    (n6 (record { earlier = c.requires.passes; single = rw c.in_default.is at c.in_ok-words.ensures.none }) found)

pub returns-in-Some-3 : goal.returns-in-Some-3
returns-in-Some-3 g c =
    let checked = checked_of c.args.acceptor.now c.args.multipliers.now c.args.relations.now c.args.limit in
    let found = rw c.in-Some-3.is at c.in_ok-pair.ensures.found in
    subst (IsFirstCertificate checked) (sym c.n7.ensures)
    (n7 (record {
      earlier = record { earlier = c.requires.passes; single = rw c.in_default.is at c.in_ok-words.ensures.none };
      extensions = rw c.in_default-2.is at c.in_ok-word.ensures.none;
    }) found)

pub broken_relation-requires-clause-automata : goal.broken_relation-requires-clause-automata
broken_relation-requires-clause-automata g c κs within =
    can_be_followed (checked_of c.args.acceptor.now c.args.multipliers.now c.args.relations.now c.args.limit) c.requires.fit
    (record { earlier = c.requires.passes; single = rw c.in_default.is at c.in_ok-words.ensures.none })

pub returns : goal.returns
returns g c =
    c.acted.ensures (checked_of c.args.acceptor.now c.args.multipliers.now c.args.relations.now c.args.limit)
    (record {
      earlier = record {
        earlier = record { earlier = c.requires.passes; single = rw c.in_default.is at c.in_ok-words.ensures.none };
        extensions = rw c.in_default-2.is at c.in_ok-word.ensures.none;
      };
      least = rw c.in_default-3.is at c.in_ok-pair.ensures.none;
    }) c.in_ok-acting.ensures
