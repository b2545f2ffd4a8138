use Rattle.std.proofs.Common.{ℕ, List, [], ◌∷◌, ◌++◌, ◌∙◌, ap}
use Rattle.kb_machine.specs.Lines.{rule_of}
use Rattle.kb_share.specs.declared.signature.Signature.{Signature}
use Rattle.kb_share.proofs.Known.{kept_more}
use Rattle.kb_share.proofs.finding.Kept.add.Goals as goal

pub returns-clause-agrees : goal.returns-clause-agrees
returns-clause-agrees c = λ rules is_rule agrees.
    kept_more rules c.args.self.now _ c.args.number (rule_of c.args.line.now) c.of-2.result c.of.result
    (c.in_ok-push-3.ensures.items ∙ ap (λ (xs : List ℕ). xs ++ c.args.number ∷ []) (c.reserve.ensures.items ∙ c.make_room.ensures.numbers))
    (c.in_ok-push-2.ensures.items ∙ ap (λ (xs : List Signature). xs ++ c.of-2.result ∷ []) (c.reserve-2.ensures.items ∙ c.make_room.ensures.lefts))
    (c.in_ok-push.ensures.items ∙ ap (λ (xs : List Signature). xs ++ c.of.result ∷ []) c.make_room.ensures.rights) c.of-2.ensures.has c.of.ensures.has is_rule agrees
