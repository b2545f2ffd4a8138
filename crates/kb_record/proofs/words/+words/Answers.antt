use Rattle.std.proofs.Common.{◌≡◌, ℕ, ◌+◌, ◌-◌, ◌<◌, ◌≤◌, suc, List, [], ◌∷◌, ◌++◌, Some, None, Err, length, map, Bool, true, false, sym, ap, ◌∙◌, subst, arith, rules}
use Rattle.std.proofs.Common as prelude
use Rattle.kb_record.specs.Tree.{Factor as FactorTree}
use Rattle.kb_record.specs.Reading.{Reads, read, remaining, passes, joined, reading_map, after_items, read_factor}
use Rattle.kb_record.specs.View.{factor_view, factors_view, factors_of}
use Rattle.kb_record.specs.declared.tree.Factor.{Factor as FactorType}
use Rattle.kb_record.specs.declared.cursor.Mark.TheVariants.{Star}
use Rattle.kb_record.proofs.ReadRows.{fails, turn, last, item_fails, as_answered, not_passed, passed, map_one_more}
use Rattle.kb_record.proofs.Depths.{read_word_is}
use Rattle.kb_record.proofs.PassedMarks.{behind-shorter}
use Rattle.kb_record.proofs.words.+words.Goals as goal

pub word-returns-in_err-factor-clause-reads : goal.word-returns-in_err-factor-clause-reads
word-returns-in_err-factor-clause-reads t c =
    let l = c.loop-factors in
    let stop = c.in_err-factor.field-0.0 in
    let rest = remaining c.factor.new.tokens in
    let failed : Reads (read_factor c.args.depth (remaining l.tokens)) factor_view (Err stop) rest = c.in_err-factor.ensures.reads in
    let answered : c.from_residual-in_err-factor.result ≡ Err stop = search rules in
    let n = l.invariant.0 in
    let none = item_fails (read_factor c.args.depth) (passes Star) {D = List FactorTree} (map factor_view l.factors.items) n (remaining l.tokens) rest factor_view (λ fs. fs) stop (omega (arith, l.invariant.1)) failed in
    as_answered _ _ _ _ stop rest (read_word_is c.args.depth (remaining c.args.tokens.now) ∙ ap (reading_map factors_of) l.invariant.3) answered
    (fails (after_items (map factor_view l.factors.items) (joined (read_factor c.args.depth) (passes Star) n (remaining l.tokens))) (λ fs. fs) (λ fs r. read (factors_of fs) r) (λ (v : prelude.Vec FactorType prelude.Global). factors_view v.items) stop rest none)

pub word-returns-then-not-take-clause-reads : goal.word-returns-then-not-take-clause-reads
word-returns-then-not-take-clause-reads t c =
    let l = c.loop-factors in
    let x = c.in_ok-factor.field-0 in
    let item : read_factor c.args.depth (remaining l.tokens) ≡ read (factor_view x) (remaining c.factor.new.tokens) = c.in_ok-factor.ensures.reads in
    let star : passes Star (remaining c.factor.new.tokens) ≡ read false (remaining c.take.new.self) = not_passed Star _ _ c.if-not-take.ensures.passes.0 c.if-not-take.ensures.passes.1 in
    let pushed : c.push.new.self.items ≡ l.factors.items ++ x ∷ [] = search rules in
    let read_all = last (read_factor c.args.depth) (passes Star) (map factor_view l.factors.items) l.invariant.0 (remaining l.tokens) (remaining c.factor.new.tokens) (remaining c.take.new.self) (factor_view x) (omega (arith, l.invariant.1)) item star in
    read_word_is c.args.depth (remaining c.args.tokens.now) ∙ ap (reading_map factors_of) (l.invariant.3 ∙ read_all) ∙ ap (λ fs. read (factors_of fs) (remaining c.take.new.self)) (map_one_more factor_view l.factors.items _ x pushed)

pub word-loop-factors-preserved : goal.word-loop-factors-preserved
word-loop-factors-preserved t c =
    let l = c.loop-factors in
    let x = c.in_ok-factor.field-0 in
    let item : read_factor c.args.depth (remaining l.tokens) ≡ read (factor_view x) (remaining c.factor.new.tokens) = c.in_ok-factor.ensures.reads in
    let star : passes Star (remaining c.factor.new.tokens) ≡ read true (remaining c.take.new.self) = passed Star _ _ c.if-not-take.ensures.passes in
    let pushed : c.push.new.self.items ≡ l.factors.items ++ x ∷ [] = search rules in
    let next = turn (read_factor c.args.depth) (passes Star) (map factor_view l.factors.items) l.invariant.0 (remaining l.tokens) (remaining c.factor.new.tokens) (remaining c.take.new.self) (factor_view x) (omega (arith, l.invariant.1)) item star in
    let shorter = behind-shorter Star (remaining c.factor.new.tokens) (remaining c.take.new.self) c.if-not-take.ensures.passes in
    let fewer = c.in_ok-factor.ensures.shorter in (
      l.invariant.0 - 1,
      omega (arith, l.invariant.1),
      omega (arith, l.invariant.2),
      l.invariant.3 ∙ next ∙ ap (λ fs. after_items fs (joined (read_factor c.args.depth) (passes Star) (l.invariant.0 - 1) (remaining c.take.new.self))) (map_one_more factor_view l.factors.items _ x pushed),
    )
