use Rattle.std.proofs.Common.{◌≡◌, List, [], Option, map, sym, ap, subst, rules}
use Rattle.kb_record.specs.Tree.{Value}
use Rattle.kb_record.specs.Reading.{remaining}
use Rattle.kb_record.specs.Numbers.{SpellsList}
use Rattle.kb_record.specs.declared.cursor.Mark.TheVariants.{CloseSquare}
use Rattle.kb_record.proofs.PassedMarks.{behind-is}
use Rattle.kb_record.proofs.numbers.row.Goals as goal

pub returns-then-take-clause-spelled : goal.returns-then-take-clause-spelled
returns-then-take-clause-spelled g c =
    let none : c.new.result.items ≡ [] = search rules in
    let P : List (Option Value) → Type 0 = λ ps. SpellsList ps (remaining c.args.tokens.now) (remaining c.take.new.self) in
    subst P (sym (ap (map g.T.Item.seen) none)) (behind-is CloseSquare (remaining c.args.tokens.now) (remaining c.take.new.self) c.if-take.ensures.passes)
