use Rattle.std.proofs.Common.{subst}
use Rattle.kb_machine.specs.Course.{Takes}
use Rattle.kb_machine.specs.declared.event.Event.TheVariants.{Published}
use Rattle.kb_book.specs.Books.{BookParts}
use Rattle.kb_complete.proofs.Rounds.{continues_then, known_published, published_continues, published_settled, settled_halts, settled_idles}
use Rattle.kb_complete.proofs.publishing.settle_and_publish.Goals as goal

pub returns-in-Halted-clause-continues : goal.returns-in-Halted-clause-continues
returns-in-Halted-clause-continues g c = record { later = c.in_ok-settled.ensures.settles.settles.later; reduced = c.in_ok-settled.ensures.settles.reduced }

pub returns-in-Halted-clause-stands : goal.returns-in-Halted-clause-stands
returns-in-Halted-clause-stands g c =
    settled_halts c.args.book.course c.in_ok-settled.settled.course c.in_ok-settled.end c.in-Halted.field-0 c.in-Halted.is
    c.in_ok-settled.ensures.settles.says

pub returns-clause-continues : goal.returns-clause-continues
returns-clause-continues g c =
    let settled = c.in_ok-settled.settled.course in
    let after = c.publish.new.self.course in
    let takes = subst (λ (book : BookParts). Takes Published book.course after) c.tidy.ensures c.in_ok-publish.ensures.says.0 in
    continues_then c.args.book.course settled after
    (record { later = c.in_ok-settled.ensures.settles.settles.later; reduced = c.in_ok-settled.ensures.settles.reduced })
    (published_continues settled after takes)

pub returns-clause-stands : goal.returns-clause-stands
returns-clause-stands g c =
    let before = c.args.book.course in
    let settled = c.in_ok-settled.settled.course in
    let after = c.publish.new.self.course in
    let takes = subst (λ (book : BookParts). Takes Published book.course after) c.tidy.ensures c.in_ok-publish.ensures.says.0 in
    published_settled settled after takes
    (settled_idles before settled c.in_ok-settled.end c.in_default.not-Halted c.in_ok-settled.ensures.settles.says)

pub returns-in-Halted-clause-known : goal.returns-in-Halted-clause-known
returns-in-Halted-clause-known g c = c.in_ok-settled.ensures.known

pub returns-clause-known : goal.returns-clause-known
returns-clause-known g c =
    let settled = c.in_ok-settled.settled.course in
    let after = c.publish.new.self.course in
    let takes = subst (λ (book : BookParts). Takes Published book.course after) c.tidy.ensures c.in_ok-publish.ensures.says.0 in
    known_published c.settle_by.new.finder settled after takes c.in_ok-settled.ensures.known
