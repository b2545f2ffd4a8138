use Rattle.std.proofs.Common.{◌≡◌, ◌+◌, ◌<◌, [], ◌∷◌, ◌++◌, List, length, ap, sym, ◌∙◌, rules}
use Rattle.kb_machine.specs.declared.origin.Origin.{Origin}
use Rattle.kb_machine.specs.declared.origin.Origin.TheVariants.{Relation}
use Rattle.kb_book.proofs.Origins.{origins_more}
use Rattle.kb_book.proofs.starting.origins_of.Goals as goal

pub loop-place-preserved : goal.loop-place-preserved
loop-place-preserved c =
    let number = c.in_ok-number.number in
    let is : number ≡ 1 + c.loop-place.place = search rules in
    let within : c.loop-place.place < length c.args.relations.now = search rules in
    c.in_ok-push_back.ensures.items ∙ ap (λ (l : List Origin). l ++ Relation number ∷ []) c.loop-place.invariant
    ∙ sym (origins_more 1 c.args.relations.now c.loop-place.place number within is)
