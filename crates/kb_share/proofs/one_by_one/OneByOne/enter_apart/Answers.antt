use Rattle.std.proofs.Common.{◌≡◌, List, ap, length, sym, ◌∙◌, subst}
use Rattle.std.specs.List.{All}
use Rattle.kb_share.specs.Passes.{AreAllApart, IsOverlapOfLines}
use Rattle.kb_share.specs.Versions.{VersionParts}
use Rattle.kb_share.specs.declared.found.Found.{Found}
use Rattle.kb_share.proofs.Entries.{enters_so_many}
use Rattle.kb_share.proofs.NoneApart.{confluent_by_none}
use Rattle.kb_share.proofs.Overlapping.{all_overlap}
use Rattle.kb_share.proofs.one_by_one.OneByOne.enter_apart.Goals as goal

pub enter_all-requires : goal.enter_all-requires
enter_all-requires g c =
    let found = c.in_ok-found.found in
    let course = c.args.book.now.course in
    subst (λ (list : List Found). All (IsOverlapOfLines course.state) list) (sym c.deref.ensures.value)
    (all_overlap course.problem course.state found.items c.book_is_sound.ensures
    (subst (λ (v : VersionParts). AreAllApart v found.items) c.of.ensures c.in_ok-found.ensures))

pub returns-clause-entered : goal.returns-clause-entered
returns-clause-entered g c =
    let found = c.in_ok-found.found in
    let count : c.len.result ≡ length found.items = c.len.ensures ∙ sym c.deref.ensures.len ∙ ap length c.deref.ensures.value in
    enters_so_many c.args.book.now.course c.enter_all.new.book.course found.items c.deref.result.now c.len.result
    (subst (λ (v : VersionParts). AreAllApart v found.items) c.of.ensures c.in_ok-found.ensures)
    c.deref.ensures.value c.in_ok-enter_all.ensures count

pub returns-clause-none : goal.returns-clause-none
returns-clause-none g c = λ none.
    confluent_by_none c.args.book.now.course c.enter_all.new.book.course _ c.book_is_sound.ensures
    (returns-clause-entered g c) none
