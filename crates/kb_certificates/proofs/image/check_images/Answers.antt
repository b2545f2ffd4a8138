use Rattle.std.proofs.Common.{length, arith}
use Rattle.kb_certificates.proofs.WithoutImages.{all_given}
use Rattle.kb_certificates.proofs.image.check_images.Goals as goal

pub returns-in-Some : goal.returns-in-Some
returns-in-Some g c =
    let found = rw c.in-Some.is at c.in_ok-images.ensures.found in
    found.has (all_given c.args.acceptor.now c.args.multipliers.now c.args.limit found.place found.earlier)

pub returns-in-None : goal.returns-in-None
returns-in-None g c =
    let all = c.requires.fit.one_each in
    let multipliers = c.args.multipliers.now in
    let given = all_given c.args.acceptor.now multipliers c.args.limit (length multipliers) (rw c.in-None.is at c.in_ok-images.ensures.none) in (
      λ order relations x u letter. let top = letter.1 in given.images order relations x u letter (omega (arith, top, all)),
      given.few,
    )
