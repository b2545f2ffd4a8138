use Rattle.std.proofs.Common.{◌≡◌, ◌++◌, [], ap, sym, ◌∙◌}
use Rattle.std.specs.Prelude.{Ok}
use Rattle.kb_record.specs.Meaning.{repetition}
use Rattle.kb_record.proofs.WordMeanings.{repetition_empty, repeated_more}
use Rattle.kb_record.proofs.meaning.repeated.Goals as goal

pub returns-then-is_empty : goal.returns-then-is_empty
returns-then-is_empty c =
    let none : c.args.word.now ≡ [] = c.is_empty.ensures.0 c.if-is_empty.true in
    ap (λ w. repetition c.args.count w) none ∙ repetition_empty c.args.count ∙ ap Ok (sym c.new-power.ensures)

pub loop-turn-preserved : goal.loop-turn-preserved
loop-turn-preserved c =
    c.in_ok-append.ensures.ok ∙ ap (λ v. v ++ c.args.word.now) c.loop-turn.invariant ∙ repeated_more c.loop-turn._turn c.args.word.now
