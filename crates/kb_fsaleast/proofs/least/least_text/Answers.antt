use Rattle.std.proofs.Common.{◌≡◌, ◌<◌, true, [], get_or, length, sym, ap, ◌∙◌, add-one, arith}
use Rattle.std.proofs.lemmas.List.{get_or_read}
use Rattle.kb_fsadet.specs.Avoidance.{any_accepts}
use Rattle.kb_fsaleast.specs.Classes.{word_at}
use Rattle.kb_fsaleast.proofs.Accepted.{none_accepted, least_accepted}
use Rattle.kb_fsaleast.proofs.least.least_text.Goals as goal

pub overflow_cast-followed : goal.overflow_cast-followed
overflow_cast-followed c =
    let size = c.in_ok-classes.ensures.automaton.size in
    let room = c.loop-followed.invariant.classes.room in
    let each = c.loop-followed.invariant.classes.one_mark_each in
    let more = c.loop-followed-test.true in
    omega (arith, c.len.ensures)

pub overflow_add-followed : goal.overflow_add-followed
overflow_add-followed c =
    let size = c.in_ok-classes.ensures.automaton.size in
    let room = c.loop-followed.invariant.classes.room in
    let each = c.loop-followed.invariant.classes.one_mark_each in
    let more = c.loop-followed-test.true in
    omega (arith, c.len.ensures)

pub text_to-requires-clause-traced : goal.text_to-requires-clause-traced
text_to-requires-clause-traced c =
    let progress = c.loop-followed.invariant in
    let count = progress.classes.one_word_each in
    let more = c.loop-followed-test.true in
    let followed = c.loop-followed.followed in
    rw (c.as_slice-then-any_accepts.ensures.value, add-one)
    (word_at progress.words followed, progress.classes.traced followed (omega (arith, c.len.ensures)))

pub returns-then-any_accepts-clause-found : goal.returns-then-any_accepts-clause-found
returns-then-any_accepts-clause-found c =
    let nfa = c.args.nfa.now in
    let members = c.loop-followed.classes.members.items in
    let followed = c.loop-followed.followed in
    let test = c.loop-followed-test.true in
    let more : followed < length members = omega (arith, c.len.ensures) in
    let class : c.as_slice.result.now ≡ get_or members followed [] = c.as_slice.ensures ∙ get_or_read members followed _ more c.index.ensures [] in
    let accepts : any_accepts nfa (get_or members followed []) ≡ true = ap (any_accepts nfa) (sym class) ∙ sym c.any_accepts.ensures ∙ c.if-any_accepts.true in
    let traced = rw (c.as_slice-then-any_accepts.ensures.value, add-one) at c.in_ok-text.ensures in
    least_accepted c.loop-followed.invariant more accepts c.in_ok-text.text.items traced

pub returns-clause-none : goal.returns-clause-none
returns-clause-none c = none_accepted c.loop-followed.invariant (let a = c.loop-followed-test.false in omega (arith, c.len.ensures))
