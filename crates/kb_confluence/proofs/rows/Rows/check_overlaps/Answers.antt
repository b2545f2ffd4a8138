use Rattle.std.proofs.Common.{◌≡◌, ◌<◌, Some, sym, ap, subst, ◌∙◌, arith, get_or}
use Rattle.std.proofs.lemmas.List.{get_or_default}
use Rattle.kb_word.specs.Words.{Pair}
use Rattle.kb_word.specs.Overlap.{IsUnresolved, critical_pair}
use Rattle.kb_overlap.specs.declared.left_sides.Overlap.{Overlap}
use Rattle.kb_overlap.proofs.Joined.{apart_given, joined_given}
use Rattle.kb_confluence.proofs.Checking.{rule_at, same_second, row_more, row_all, apart_in_row}
use Rattle.kb_confluence.proofs.Verdicts.{no_numbered}
use Rattle.kb_confluence.proofs.rows.Rows.check_overlaps.Goals as goal
use Rattle.kb_confluence.proofs.rows.Rows.check_overlaps.Goals.{else-i-j-via-then-i-j+else-place-eq0, else-i-j-via-else-i-j}

pub returns-in-Apart : goal.returns-in-Apart
returns-in-Apart g c =
    let rules = c.args.self.now.rules.now in let i = c.args.i in let first = c.args.first.now in let overlaps = c.args.overlaps.now in
    let next = c.loop-overlap.overlap-index in
    let none : Overlap = record { rule = 0; place = 0 } in
    let at = get_or overlaps next none in
    let is_at = get_or_default overlaps next none at c.loop-overlap-test.true in
    let read = c.index-self-j.result in
    let second = get_or rules at.rule read in
    let is_second = rule_at rules first.0 overlaps next at read c.requires.overlaps c.loop-overlap-test.true is_at c.index-self-j.is ∙ ap Some c.index-self-j.is in
    let proper : i ≡ at.rule → 0 < at.place = λ same.
    elim c.else-i-j.branch [ else-i-j-via-then-i-j+else-place-eq0 w ↦ omega arith | else-i-j-via-else-i-j w ↦ omega arith ] in
    let apart = apart_given _ rules (critical_pair first second at.place) c.join.new.self c.in_ok-join.field-0 c.args.self.now.reducer_of c.in-Apart.is
    c.in_ok-join.ensures.says in
    let words = c.take-u.result in
    let parts : IsUnresolved rules (critical_pair first second at.place) words.0 words.1 =
    subst (λ (pair : Pair). IsUnresolved rules (critical_pair first second at.place) pair.0 pair.1) (sym c.take-u.ensures.words) apart in
    no_numbered rules i at.rule at.place words.0 words.1
    (apart_in_row rules i first overlaps c.requires.first c.requires.overlaps next at second words.0 words.1
    c.loop-overlap.invariant c.loop-overlap-test.true is_at is_second proper parts)

pub loop-overlap-preserved : goal.loop-overlap-preserved
loop-overlap-preserved g c =
    let rules = c.args.self.now.rules.now in let i = c.args.i in let first = c.args.first.now in let overlaps = c.args.overlaps.now in
    let next = c.loop-overlap.overlap-index in
    let none : Overlap = record { rule = 0; place = 0 } in
    let at = get_or overlaps next none in
    let is_at = get_or_default overlaps next none at c.loop-overlap-test.true in
    let read = c.index-self-j.result in
    let second = get_or rules at.rule read in
    let is_second = rule_at rules first.0 overlaps next at read c.requires.overlaps c.loop-overlap-test.true is_at c.index-self-j.is ∙ ap Some c.index-self-j.is in
    row_more rules i first overlaps c.requires.first c.requires.overlaps next at c.loop-overlap.invariant c.loop-overlap-test.true is_at
    (same_second rules i first at second is_second
    (joined_given _ rules (critical_pair first second at.place) c.join.new.self c.in_ok-join.field-0 c.args.self.now.reducer_of c.in-Joined.is c.in_ok-join.ensures.says))

pub returns : goal.returns
returns g c =
    row_all c.args.self.now.rules.now c.args.i c.args.first.now c.args.overlaps.now c.requires.first c.requires.overlaps
    c.loop-overlap.overlap-index c.loop-overlap.invariant c.loop-overlap-test.false
