use Rattle.std.proofs.Common.{List, sym, subst}
use Rattle.kb_word.specs.Words.{Pair}
use Rattle.kb_word.specs.Relations.{relations_of}
use Rattle.kb_machine.specs.Letters.{AreOver}
use Rattle.kb_machine.proofs.Relations.{relations_over}
use Rattle.kb_auto.proofs.Decisions.{live_sides_are_equal}
use Rattle.kb_auto.proofs.LiveRules.{are_live, live_are_over, live_same}
use Rattle.kb_auto.proofs.live.live_rules_are_of_the_group.Goals as goal

pub returns : goal.returns
returns g c =
    let presentation = c.args.presentation.now in
    let course = c.args.book.now.course in
    let relations = relations_of presentation.inv presentation.eqs in
    let sound = c.book_is_sound.ensures in
    let P : List Pair → Type 0 = λ pairs. AreOver presentation.n pairs in
    let over = subst P (sym c.requires) (relations_over presentation.is_presentation) in
    record {
      letters = live_are_over presentation.n course.problem course.state sound
          (c.courses_bring_no_letters.ensures presentation.n course over c.journal-journal.ensures.course);
      sides = live_sides_are_equal course.problem course.state relations sound c.requires;
      live = are_live course.problem course.state sound;
      same = live_same course.problem course.state relations c.requires sound;
    }
