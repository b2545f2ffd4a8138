use Rattle.std.proofs.Common.{rules, ◌≡◌, ◌∙◌, ◌++◌, ℕ, List, [], ◌∷◌, ap, sym, take, append_assoc}
use Rattle.std.proofs.lemmas.List.{take_all}
use Rattle.kb_word.specs.Printed.{text_of_word}
use Rattle.kb_word.proofs.PrintLemmas.{begun, begun_more, on_err}
use Rattle.kb_word.proofs.printed.append_word.Goals as goal

pub loop-letter-init : goal.loop-letter-init
loop-letter-init c = record {
  first = c.in-Some.first.now;
  whole = search rules;
  so_far = c.in_ok-print_letter.ensures.printed;
}

pub returns-in_err-push-clause-kept : goal.returns-in_err-push-clause-kept
returns-in_err-push-clause-kept c =
    let is = c.loop-letter.invariant in
    let kept : (more : List ℕ) × (c.push.new.self.items ≡ c.args.out.now.items ++ more) =
    (begun c.args.names.now is.first (take c.loop-letter.letter-index c.in-Some.rest.now), c.in_err-push.ensures.items ∙ is.so_far) in
    on_err _ kept

pub returns-in_err-print_letter-2-clause-kept : goal.returns-in_err-print_letter-2-clause-kept
returns-in_err-print_letter-2-clause-kept c =
    let is = c.loop-letter.invariant in
    let text = begun c.args.names.now is.first (take c.loop-letter.letter-index c.in-Some.rest.now) in
    let kept : (more : List ℕ) × (c.print_letter-in-loop-letter.new.out.items ≡ c.args.out.now.items ++ more) =
    (text ++ 42 ∷ [], c.in_err-print_letter-2.ensures.kept ∙ (c.in_ok-push.ensures.items ∙ (ap (λ l. l ++ 42 ∷ []) is.so_far ∙ append_assoc c.args.out.now.items text (42 ∷ [])))) in
    on_err _ kept

pub loop-letter-preserved : goal.loop-letter-preserved
loop-letter-preserved c =
    let is = c.loop-letter.invariant in record {
      first = is.first;
      whole = is.whole;
      so_far = begun_more c.args.names.now is.first c.in-Some.rest.now c.loop-letter.letter-index c.letter-item.result c.loop-letter.out.items c.push.new.self.items
          _ c.args.out.now.items c.loop-letter-test.true c.letter-item.is is.so_far c.in_ok-push.ensures.items c.in_ok-print_letter-2.ensures.printed;
    }

pub returns-clause-printed : goal.returns-clause-printed
returns-clause-printed c =
    let is = c.loop-letter.invariant in
    let all : take c.loop-letter.letter-index c.in-Some.rest.now ≡ c.in-Some.rest.now = take_all _ _ c.loop-letter-test.false in
    is.so_far ∙ ap (λ l. c.args.out.now.items ++ l) (ap (begun c.args.names.now is.first) all ∙ ap (text_of_word c.args.names.now) (sym is.whole))
