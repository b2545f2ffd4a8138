use Rattle.std.proofs.Common.{rules, ◌≡◌, ◌∙◌, [], ◌∷◌, ◌++◌, arith, subst, sym, ap, length, append_assoc}
use Rattle.std.proofs.lemmas.List.{append-nil}
use Rattle.kb_word.specs.WordOrders.{Below}
use Rattle.kb_word.specs.Relations.{AreOriented, none_left}
use Rattle.kb_cmd_words.proofs.OrientLemmas.{oriented_more, nothing_left}
use Rattle.kb_cmd_words.proofs.orienting.oriented_set.Goals as goal

pub loop-left-init : goal.loop-left-init
loop-left-init c = record {
  so_far = subst (AreOriented (Below c.args.presentation.now.order) []) (sym c.new-set.ensures.empty) none_left;
  whole = search rules;
  counted = search rules;
}

pub loop-left-preserved : goal.loop-left-preserved
loop-left-preserved c =
    let is = c.loop-left.invariant in
    let adds = c.in_ok-insert_relation.ensures in
    let step = c.in-Some.ensures.steps in record {
      so_far = oriented_more c.loop-left.yielded c.loop-left.set.keys adds.0 c.insert_relation.new.set.keys _ is.so_far adds.1 adds.2;
      whole = append_assoc c.loop-left.yielded (_ ∷ []) c.next.new.self.rest.items ∙ (ap (λ l. c.loop-left.yielded ++ l) (sym step.0) ∙ is.whole);
      counted = omega (arith, step.1, is.counted, ap length step.0);
    }

pub returns : goal.returns
returns c =
    let is = c.loop-left.invariant in
    let none : c.loop-left.left-iterator.rest.items ≡ [] = nothing_left _ (sym is.counted ∙ c.in-None.ensures.steps.0) in
    let all = ap (λ l. c.loop-left.yielded ++ l) (sym none) ∙ is.whole in
    subst (λ relations. AreOriented (Below c.args.presentation.now.order) relations c.loop-left.set.keys)
    (sym (append-nil c.loop-left.yielded) ∙ all) is.so_far
