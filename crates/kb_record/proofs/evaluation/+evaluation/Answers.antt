use Rattle.std.proofs.Common.{◌≡◌, ◌-◌, suc, List, [], ◌∷◌, ◌++◌, Err, length, true, false, IsTrue, sym, ap, ◌∙◌, subst, arith, rules}
use Rattle.kb_record.specs.Tree.{Factor, Factors, no_factors, factor, named, grouped}
use Rattle.kb_record.specs.Meaning.{name_meaning, product_meaning}
use Rattle.kb_record.specs.Faults.{Evaluates}
use Rattle.kb_record.specs.Evaluation.{Evaluated, GoesOn}
use Rattle.kb_record.specs.Reading.{Reads, read, remaining, passes, joined, reading_map, after_items, read_name, read_factor, read_group}
use Rattle.kb_record.specs.View.{factors_of}
use Rattle.kb_record.specs.declared.cursor.Mark.TheVariants.{Star}
use Rattle.kb_record.proofs.ReadRows.{none_before, fails, turn, last, item_fails, not_passed, passed}
use Rattle.kb_record.proofs.Depths.{read_word_is}
use Rattle.kb_record.proofs.PassedMarks.{behind-shorter}
use Rattle.kb_record.proofs.Outcomes.{before, before_one_more, before_none, goes_on, goes_on_to_end, group_then, name_then, as_answered_for}
use Rattle.kb_record.proofs.evaluation.+evaluation.Goals as goal

pub factor-returns-then-take-clause-reads : goal.factor-returns-then-take-clause-reads
factor-returns-then-take-clause-reads t c =
    let inside = c.in_ok-inside.ensures.reads in (
      grouped inside.0 c.in_ok-exponent.exponent,
      group_then (read_group c.args.depth) (remaining c.args.tokens.now) (remaining c.take.new.self) (remaining c.group.new.tokens) (remaining c.power.new.tokens) inside.0 c.in_ok-exponent.exponent c.if-take.ensures.passes inside.1 c.in_ok-exponent.ensures.reads,
      (λ wanted. c.raised.ensures (product_meaning c.args.presentation.now.names c.args.presentation.now.inv [] inside.0) (inside.2 wanted)),
    )

pub factor-returns-clause-reads : goal.factor-returns-clause-reads
factor-returns-clause-reads t c =
    let same : remaining c.take.new.self ≡ remaining c.args.tokens.now = c.if-take.ensures.passes.1 in
    let spelled : read_name (remaining c.args.tokens.now) ≡ read c.in_ok-name.name.now (remaining c.name.new.self) = ap read_name (sym same) ∙ c.in_ok-name.ensures.reads in (
      named c.in_ok-name.name.now c.in_ok-exponent-2.exponent,
      name_then (read_group c.args.depth) (remaining c.args.tokens.now) (remaining c.name.new.self) (remaining c.power-2.new.tokens) c.in_ok-name.name.now c.in_ok-exponent-2.exponent c.if-take.ensures.passes.0 spelled c.in_ok-exponent-2.ensures.reads,
      (λ wanted. c.raised-2.ensures (name_meaning c.args.presentation.now.names c.in_ok-name.name.now) (c.named-letter.ensures wanted)),
    )

pub product-loop-so_far-init : goal.product-loop-so_far-init
product-loop-so_far-init t c = (
  [],
  suc (length (remaining c.args.tokens.now)),
  omega arith,
  omega arith,
  none_before (joined (read_factor c.args.depth) (passes Star) (suc (length (remaining c.args.tokens.now))) (remaining c.args.tokens.now)),
  (λ wanted others. ap (λ w. product_meaning c.args.presentation.now.names c.args.presentation.now.inv w others) (sym c.new.ensures)),
)

pub product-returns-in_err-next-clause-reads : goal.product-returns-in_err-next-clause-reads
product-returns-in_err-next-clause-reads t c =
    let l = c.loop-so_far in
    let stop = c.in_err-next.field-0.0 in
    let rest = remaining c.factor.new.tokens in
    let failed : Reads (read_factor c.args.depth (remaining l.tokens)) (λ (tree : Factor). tree) (Err stop) rest = c.in_err-next.ensures.reads in
    let answered : c.from_residual.result ≡ Err stop = search rules in
    let items = l.invariant.0 in
    let n = l.invariant.1 in
    let none = item_fails (read_factor c.args.depth) (passes Star) {D = List Factor} items n (remaining l.tokens) rest (λ (tree : Factor). tree) (λ fs. fs) stop (omega (arith, l.invariant.2)) failed in
    as_answered_for _ _ (Evaluated c.args.wanted (product_meaning c.args.presentation.now.names c.args.presentation.now.inv [])) c.from_residual.result stop rest
    (read_word_is c.args.depth (remaining c.args.tokens.now) ∙ ap (reading_map factors_of) l.invariant.4) answered
    (fails (after_items items (joined (read_factor c.args.depth) (passes Star) n (remaining l.tokens))) (λ fs. fs) (λ fs r. read (factors_of fs) r) (λ (tree : Factors). tree) stop rest none)

pub product-returns-then-not-take-clause-reads : goal.product-returns-then-not-take-clause-reads
product-returns-then-not-take-clause-reads t c =
    let l = c.loop-so_far in
    let names = c.args.presentation.now.names in
    let inverses = c.args.presentation.now.inv in
    let items = l.invariant.0 in
    let f = c.in_ok-next.ensures.reads.0 in
    let star : passes Star (remaining c.factor.new.tokens) ≡ read false (remaining c.take.new.self) = not_passed Star _ _ c.if-not-take.ensures.passes.0 c.if-not-take.ensures.passes.1 in
    let read_all = last (read_factor c.args.depth) (passes Star) items l.invariant.1 (remaining l.tokens) (remaining c.factor.new.tokens) (remaining c.take.new.self) f (omega (arith, l.invariant.2)) c.in_ok-next.ensures.reads.1 star in
    let whole = product_meaning names inverses [] (before items (factor f no_factors)) in
    let same : before items (factor f no_factors) ≡ factors_of (items ++ f ∷ []) = sym (before_one_more items f no_factors) ∙ before_none (items ++ f ∷ []) in (
      factors_of (items ++ f ∷ []),
      read_word_is c.args.depth (remaining c.args.tokens.now) ∙ ap (reading_map factors_of) (l.invariant.4 ∙ read_all),
      (λ wanted.
          let on = goes_on names inverses l.so_far c.in_ok-next.next c.product_with-so_far.result f no_factors whole (l.invariant.5 wanted (factor f no_factors))
          (λ w e. c.in_ok-next.ensures.reads.2 (subst (λ b. IsTrue b) (sym (c.still_wanted-is_wanted.ensures w e)) wanted)) c.product_with-so_far.ensures in
          subst (λ fs. Evaluates (product_meaning names inverses [] fs) c.product_with-so_far.result) same (goes_on_to_end names inverses c.product_with-so_far.result whole on)),
    )

pub product-loop-so_far-preserved : goal.product-loop-so_far-preserved
product-loop-so_far-preserved t c =
    let l = c.loop-so_far in
    let names = c.args.presentation.now.names in
    let inverses = c.args.presentation.now.inv in
    let items = l.invariant.0 in
    let f = c.in_ok-next.ensures.reads.0 in
    let star : passes Star (remaining c.factor.new.tokens) ≡ read true (remaining c.take.new.self) = passed Star _ _ c.if-not-take.ensures.passes in
    let next = turn (read_factor c.args.depth) (passes Star) items l.invariant.1 (remaining l.tokens) (remaining c.factor.new.tokens) (remaining c.take.new.self) f (omega (arith, l.invariant.2)) c.in_ok-next.ensures.reads.1 star in
    let shorter = behind-shorter Star (remaining c.factor.new.tokens) (remaining c.take.new.self) c.if-not-take.ensures.passes in
    let fewer = c.in_ok-next.ensures.shorter in (
      items ++ f ∷ [],
      l.invariant.1 - 1,
      omega (arith, l.invariant.2),
      omega (arith, l.invariant.3),
      l.invariant.4 ∙ next,
      (λ wanted others.
          let on = goes_on names inverses l.so_far c.in_ok-next.next c.product_with-so_far.result f others (product_meaning names inverses [] (before items (factor f others))) (l.invariant.5 wanted (factor f others))
          (λ w e. c.in_ok-next.ensures.reads.2 (subst (λ b. IsTrue b) (sym (c.still_wanted-is_wanted.ensures w e)) wanted)) c.product_with-so_far.ensures in
          subst (λ fs. GoesOn names inverses c.product_with-so_far.result others (product_meaning names inverses [] fs)) (sym (before_one_more items f others)) on),
    )
