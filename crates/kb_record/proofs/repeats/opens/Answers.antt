use Rattle.std.proofs.Common.{◌≡◌, ℕ, List, sym, ap, ◌∙◌}
use Rattle.kb_lexing.specs.Token.{Token}
use Rattle.kb_record.specs.Reading.{remaining, behind}
use Rattle.kb_record.specs.declared.cursor.Mark.TheVariants.{Rec}
use Rattle.kb_record.proofs.PlaceRepeats.{no_rec, no_round, neither_twice}
use Rattle.kb_record.proofs.repeats.opens.Goals.{else-take-2-via-then-take-2+else-take-3, else-take-2-via-else-take-2}
use Rattle.kb_record.proofs.repeats.opens.Goals as goal

pub returns-clause-neither : goal.returns-clause-neither
returns-clause-neither c = λ (q : List ℕ).
    let tokens : List Token = remaining c.args.tokens.now in
    let same : remaining c.take.new.self ≡ tokens = c.if-take.ensures.passes.1 in
    neither_twice tokens q c.if-take.ensures.passes.0
    (elim c.else-take-2.branch [
      | else-take-2-via-then-take-2+else-take-3 w ↦ no_round tokens (remaining c.take-2.new.self) (ap (behind Rec) (sym same) ∙ w.if-take-2.ensures.passes) w.if-take-3.ensures.passes.0
      | else-take-2-via-else-take-2 w ↦ no_rec tokens (ap (behind Rec) (sym same) ∙ w.if-take-2.ensures.passes.0)
    ])
