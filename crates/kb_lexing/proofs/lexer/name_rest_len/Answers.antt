use Rattle.std.proofs.Common.{◌≡◌, ◌+◌, drop, subst, sym, arith, length-drop}
use Rattle.std.proofs.lemmas.Bool.{iff_false}
use Rattle.std.proofs.lemmas.List.{take_rest}
use Rattle.kb_lexing.specs.Spelling.{GoesOnAsName}
use Rattle.kb_lexing.specs.Lexemes.{IsLongestFront, GoesOnAt}
use Rattle.kb_lexing.proofs.LongestFronts.{longest_step, longest_stop, GoesOnAt-some}
use Rattle.kb_lexing.proofs.lexer.name_rest_len.Goals as goal

pub loop-len-preserved : goal.loop-len-preserved
loop-len-preserved c =
    let text = c.args.text.now in
    let n = c.loop-len.len in
    let at : GoesOnAt (drop n text) = subst (λ x. GoesOnAt x) (take_rest text n) (c.goes_on_name.ensures.0 c.loop-len-test.true) in
    record {
      within = omega (arith, GoesOnAt-some (drop n text) at, length-drop n text);
      onward = λ m h.
          let e : n + (1 + m) ≡ n + 1 + m = omega arith in
          subst (λ k. IsLongestFront GoesOnAsName text k) e (c.loop-len.invariant.onward (1 + m) (longest_step text n m at h));
    }

pub returns : goal.returns
returns c =
    let text = c.args.text.now in
    let n = c.loop-len.len in
    let e : n + 0 ≡ n = omega arith in
    let ends : ¬ GoesOnAt (drop n text) = λ at. iff_false c.goes_on_name.ensures c.loop-len-test.false (subst (λ x. GoesOnAt x) (sym (take_rest text n)) at) in
    subst (λ k. IsLongestFront GoesOnAsName text k) e (c.loop-len.invariant.onward 0 (longest_stop (drop n text) ends))
