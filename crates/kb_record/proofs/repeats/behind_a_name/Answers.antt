use Rattle.std.proofs.Common.{List, ◌∷◌, sym, ap, ◌∙◌, arith}
use Rattle.kb_lexing.specs.Token.{name}
use Rattle.kb_record.specs.Reading.{remaining}
use Rattle.kb_record.specs.NamesMet.{Bracket, names_met}
use Rattle.kb_record.specs.declared.cursor.Mark.TheVariants.{Assign}
use Rattle.kb_record.proofs.PassedMarks.{behind-is, behind-shorter}
use Rattle.kb_record.proofs.MetLemmas.{no_field}
use Rattle.kb_record.proofs.repeats.behind_a_name.Goals as goal

pub returns-then-take-clause-step : goal.returns-then-take-clause-step
returns-then-take-clause-step c = λ (f : Bracket) (fs : List Bracket).
    ap (λ ts. names_met (name c.args.text.now ∷ ts) f fs) (behind-is Assign (remaining c.args.tokens.now) (remaining c.take.new.self) c.if-take.ensures.passes)

pub returns-else-take-clause-step : goal.returns-else-take-clause-step
returns-else-take-clause-step c = λ (f : Bracket) (fs : List Bracket).
    no_field c.args.text.now (remaining c.args.tokens.now) f fs c.if-take.ensures.passes.0 ∙ ap (λ ts. names_met ts f fs) (sym c.if-take.ensures.passes.1)

pub returns-then-take-clause-shorter : goal.returns-then-take-clause-shorter
returns-then-take-clause-shorter c =
    let less = behind-shorter Assign (remaining c.args.tokens.now) (remaining c.take.new.self) c.if-take.ensures.passes in
    omega arith
