use Rattle.std.proofs.Common.{◌∙◌}
use Rattle.kb_threads.proofs.Stages.{batch_entered, rest_overlaps}
use Rattle.kb_threads.proofs.shared.Shared.finish.Goals as goal

pub enter_all-requires : goal.enter_all-requires
enter_all-requires g c =
    let back = c.into_book-book in
    rest_overlaps g.S.Sharing.given back.result.0.course g.S.Sharing.batch c.deref.result.now back.result.1
    (c.deref.ensures.value ∙ c.args.self.own) back.ensures.stage

pub returns-clause-enters : goal.returns-clause-enters
returns-clause-enters g c =
    let back = c.into_book-book in
    batch_entered _ g.S.Sharing.given back.result.0.course c.enter_all.new.book.course g.S.Sharing.batch c.deref.result.now
    back.result.1 (c.deref.ensures.value ∙ c.args.self.own) back.ensures.stage c.in_ok-enter_all.ensures
