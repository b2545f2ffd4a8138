use Rattle.std.proofs.Common.{rules, ◌≡◌, ◌+◌, ◌++◌, ◌∷◌, [], length, ap, subst, ◌∙◌, sym, length-append}
use Rattle.kb_ragged.specs.Cuts.{cut, AreEnds}
use Rattle.kb_ragged.proofs.RaggedLemmas.{ends-push, cut-push}
use Rattle.kb_ragged.proofs.ragged.Ragged.push.Goals as goal

pub invariant_of-self-2 : goal.invariant_of-self-2
invariant_of-self-2 g c =
    let arrays = c.self.inside.arrays.value in
    let list = c.args.list.now in
    let ends : c.push.new.self.items ≡ arrays.ends.items ++ (length arrays.items.items + length list) ∷ [] = search rules in
    let items : c.extend_from_slice.new.self.items ≡ arrays.items.items ++ list = search rules in
    subst (λ es. AreEnds 0 es (length c.extend_from_slice.new.self.items)) (sym ends)
    (subst (λ n. AreEnds 0 (arrays.ends.items ++ (length arrays.items.items + length list) ∷ []) n) (sym (ap length items ∙ length-append arrays.items.items list))
    (ends-push 0 arrays.ends.items (length arrays.items.items) (length list) c.self.invariant))

pub returns-clause-pushed : goal.returns-clause-pushed
returns-clause-pushed g c =
    let arrays = c.self.inside.arrays.value in
    let list = c.args.list.now in
    let ends : c.push.new.self.items ≡ arrays.ends.items ++ (length arrays.items.items + length list) ∷ [] = search rules in
    let items : c.extend_from_slice.new.self.items ≡ arrays.items.items ++ list = search rules in
    ap (λ es. cut 0 es c.extend_from_slice.new.self.items) ends
    ∙ ap (cut 0 (arrays.ends.items ++ (length arrays.items.items + length list) ∷ [])) items
    ∙ cut-push 0 arrays.ends.items arrays.items.items list c.self.invariant
    ∙ ap (λ before. before ++ list ∷ []) c.self.view_is
