-- What the check keeps of the lines before, where a line is added.
use Rattle.std.proofs.Common.{◌≡◌, List, [], ◌∷◌, ◌++◌, Result, Ok, Err, OnOk, refl, sym, ap, ◌∙◌}
use Rattle.kb_word.specs.declared.presentation.Presentation.{Presentation}
use Rattle.kb_machine.specs.Lines.{rule_of}
use Rattle.kb_machine.specs.declared.line.Line.{Line}
use Rattle.kb_machine.proofs.Numbers.{rules_push}
use Rattle.kb_proof.specs.Checking.{AreMarks, Knows}
use Rattle.kb_proof.specs.declared.verifying.checker.Checker.{Checker}

pub knows_more : {T E : Type 0} (old new : Checker) (line : Line) (answer : Result T E)
    → new.relations.items ≡ old.relations.items → new.rules.order ≡ old.rules.order
    → new.rules.rules ≡ old.rules.rules ++ rule_of line ∷ []
    → OnOk answer ((lines : List Line) (other : Line) → other.origin ≡ line.origin → AreMarks lines old.marks
    → AreMarks (lines ++ other ∷ []) new.marks)
    → OnOk answer ((presentation : Presentation) (lines : List Line) → Knows presentation lines old
    → Knows presentation (lines ++ line ∷ []) new)
knows_more old new line (Ok done) relations order rules marks = λ presentation lines knows. record {
  order = order ∙ knows.order;
  relations = relations ∙ knows.relations;
  rules = rules ∙ ap (λ front. front ++ rule_of line ∷ []) knows.rules ∙ sym (rules_push lines line);
  marks = marks lines line refl knows.marks;
}
knows_more old new line (Err error) relations order rules marks = tt
