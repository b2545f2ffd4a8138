use Rattle.std.proofs.Common.{◌∙◌, ◌++◌, sym, ap, subst}
use Rattle.kb_word.specs.Words.{OneOf}
use Rattle.kb_word.specs.WordOrders.{Below}
use Rattle.kb_word.specs.declared.word_order.WordOrder.{WordOrder}
use Rattle.kb_cmd_words.proofs.OrientLemmas.{one_of_middle}
use Rattle.kb_cmd_words.proofs.orienting.rules_of.Goals as goal

-- a rule of the set decreases
pub push-requires : goal.push-requires
push-requires c =
    let is = c.loop-rule.invariant in
    let rule = c.in-Some.rule in
    let so_far = c.loop-rule.rules.rules in
    let all = ap (λ rest. so_far ++ rest) (sym c.in-Some.ensures.steps) ∙ is.so_far in
    let one : OneOf c.args.set.keys rule = subst (λ set. OneOf set rule) all (one_of_middle so_far rule _) in
    let Along : WordOrder → Type 0 = λ order. Below order rule.1 rule.0 in
    subst Along (sym is.order) (c.requires rule one)
