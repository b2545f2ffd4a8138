use Rattle.std.proofs.Common.{◌≡◌, ◌-◌, suc, List, [], ◌∷◌, ◌++◌, Err, length, true, false, refl, sym, ap, ◌∙◌, arith, rules}
use Rattle.kb_record.specs.Tree.{Factor, Factors, named, grouped}
use Rattle.kb_record.specs.Reading.{Reads, read, remaining, passes, joined, reading_map, after_items, read_name, read_factor, read_group}
use Rattle.kb_record.specs.View.{factors_of}
use Rattle.kb_record.specs.declared.cursor.Mark.TheVariants.{Star}
use Rattle.kb_record.proofs.ReadRows.{none_before, fails, turn, last, item_fails, not_passed, passed}
use Rattle.kb_record.proofs.Depths.{read_word_is}
use Rattle.kb_record.proofs.PassedMarks.{behind-shorter}
use Rattle.kb_record.proofs.Outcomes.{group_then, name_then, as_answered_for}
use Rattle.kb_record.proofs.passing.+passing.Goals as goal

pub pass_factor-returns-then-take-clause-reads : goal.pass_factor-returns-then-take-clause-reads
pass_factor-returns-then-take-clause-reads t c =
    let inside = c.in_ok-pass_group.ensures.reads in (
      grouped inside.0 c.in_ok-power.field-0,
      group_then (read_group c.args.depth) (remaining c.args.tokens.now) (remaining c.take.new.self) (remaining c.pass_group.new.tokens) (remaining c.power.new.tokens) inside.0 c.in_ok-power.field-0 c.if-take.ensures.passes inside.1 c.in_ok-power.ensures.reads,
      tt,
    )

pub pass_factor-returns-clause-reads : goal.pass_factor-returns-clause-reads
pass_factor-returns-clause-reads t c =
    let same : remaining c.take.new.self ≡ remaining c.args.tokens.now = c.if-take.ensures.passes.1 in
    let text = c.in_ok-name.field-0.now in
    let spelled : read_name (remaining c.args.tokens.now) ≡ read text (remaining c.name.new.self) = ap read_name (sym same) ∙ c.in_ok-name.ensures.reads in (
      named text c.in_ok-power-2.field-0,
      name_then (read_group c.args.depth) (remaining c.args.tokens.now) (remaining c.name.new.self) (remaining c.power-2.new.tokens) text c.in_ok-power-2.field-0 c.if-take.ensures.passes.0 spelled c.in_ok-power-2.ensures.reads,
      tt,
    )

pub pass_word-loop-tokens-init : goal.pass_word-loop-tokens-init
pass_word-loop-tokens-init t c = (
  [],
  suc (length (remaining c.args.tokens.now)),
  omega arith,
  omega arith,
  none_before (joined (read_factor c.args.depth) (passes Star) (suc (length (remaining c.args.tokens.now))) (remaining c.args.tokens.now)),
  refl,
)

pub pass_word-returns-in_err-pass_factor-clause-reads : goal.pass_word-returns-in_err-pass_factor-clause-reads
pass_word-returns-in_err-pass_factor-clause-reads t c =
    let l = c.loop-tokens in
    let stop = c.in_err-pass_factor.field-0.0 in
    let rest = remaining c.pass_factor.new.tokens in
    let failed : Reads (read_factor c.args.depth (remaining l.tokens)) (λ (tree : Factor). tree) (Err stop) rest = c.in_err-pass_factor.ensures.reads in
    let answered : c.from_residual.result ≡ Err stop = search rules in
    let items = l.invariant.0 in
    let n = l.invariant.1 in
    let none = item_fails (read_factor c.args.depth) (passes Star) {D = List Factor} items n (remaining l.tokens) rest (λ (tree : Factor). tree) (λ fs. fs) stop (omega (arith, l.invariant.2)) failed in
    as_answered_for _ _ _ c.from_residual.result stop rest
    (read_word_is c.args.depth (remaining c.args.tokens.now) ∙ ap (reading_map factors_of) l.invariant.4) answered
    (fails (after_items items (joined (read_factor c.args.depth) (passes Star) n (remaining l.tokens))) (λ fs. fs) (λ fs r. read (factors_of fs) r) (λ (tree : Factors). tree) stop rest none)

pub pass_word-returns-then-not-take-clause-reads : goal.pass_word-returns-then-not-take-clause-reads
pass_word-returns-then-not-take-clause-reads t c =
    let l = c.loop-tokens in
    let items = l.invariant.0 in
    let f = c.in_ok-pass_factor.ensures.reads.0 in
    let star : passes Star (remaining c.pass_factor.new.tokens) ≡ read false (remaining c.take.new.self) = not_passed Star _ _ c.if-not-take.ensures.passes.0 c.if-not-take.ensures.passes.1 in
    let read_all = last (read_factor c.args.depth) (passes Star) items l.invariant.1 (remaining l.tokens) (remaining c.pass_factor.new.tokens) (remaining c.take.new.self) f (omega (arith, l.invariant.2)) c.in_ok-pass_factor.ensures.reads.1 star in (
      factors_of (items ++ f ∷ []),
      read_word_is c.args.depth (remaining c.args.tokens.now) ∙ ap (reading_map factors_of) (l.invariant.4 ∙ read_all),
      tt,
    )

pub pass_word-returns-then-not-take-clause-whole : goal.pass_word-returns-then-not-take-clause-whole
pass_word-returns-then-not-take-clause-whole t c = c.take.ensures.whole ∙ c.in_ok-pass_factor.ensures.whole ∙ c.loop-tokens.invariant.5

pub pass_word-loop-tokens-preserved : goal.pass_word-loop-tokens-preserved
pass_word-loop-tokens-preserved t c =
    let l = c.loop-tokens in
    let items = l.invariant.0 in
    let f = c.in_ok-pass_factor.ensures.reads.0 in
    let star : passes Star (remaining c.pass_factor.new.tokens) ≡ read true (remaining c.take.new.self) = passed Star _ _ c.if-not-take.ensures.passes in
    let next = turn (read_factor c.args.depth) (passes Star) items l.invariant.1 (remaining l.tokens) (remaining c.pass_factor.new.tokens) (remaining c.take.new.self) f (omega (arith, l.invariant.2)) c.in_ok-pass_factor.ensures.reads.1 star in
    let shorter = behind-shorter Star (remaining c.pass_factor.new.tokens) (remaining c.take.new.self) c.if-not-take.ensures.passes in
    let fewer = c.in_ok-pass_factor.ensures.shorter in (
      items ++ f ∷ [],
      l.invariant.1 - 1,
      omega (arith, l.invariant.2),
      omega (arith, l.invariant.3),
      l.invariant.4 ∙ next,
      c.take.ensures.whole ∙ c.in_ok-pass_factor.ensures.whole ∙ l.invariant.5,
    )
