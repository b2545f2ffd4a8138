-- A limit that is reached, with the line that would be made; the first pending pair.
use Rattle.std.proofs.Common.{◌≡◌, ◌<◌, List, ◌∷◌, length, refl, sym, subst, arith}
use Rattle.std.specs.List.{Contains}
use Rattle.kb_word.specs.Words.{Pair}
use Rattle.kb_machine.specs.declared.origin.Origin.{Origin}
use Rattle.kb_machine.specs.Lines.{rules_of}
use Rattle.kb_machine.specs.declared.line.Line.{Line}
use Rattle.kb_machine.specs.Course.{Course}
use Rattle.kb_machine.specs.declared.halt.Halt.TheVariants.{Length}
use Rattle.kb_book.specs.Normal.{HasPair, IsNextLine, IsLimitOf}

pub limit_by_length : (course : Course) (line : Line) → IsNextLine course line
    → length course.state.lines < course.problem.most_lines → course.problem.most_letters < length line.left
    → IsLimitOf course (Length line.left line.right line.first_steps line.second_steps)
limit_by_length course line is room long =
    record { origin = line.origin; next = is.next; limit = (room, long, is.apart); normal = is.normal }

-- the first pending origin names a pair, where all do
pub first_pair : (relations' relations : List Pair) (lines' lines : List Line) (pending : List Origin) (origin : Origin)
    → relations' ≡ relations → lines' ≡ lines
    → ((one : Origin) → Contains pending one → HasPair relations (rules_of lines) one)
    → (rest : List Origin) → pending ≡ origin ∷ rest → HasPair relations' (rules_of lines') origin
first_pair relations' relations lines' lines pending origin are same named rest is =
    let C : List Origin → Type 0 = λ l. Contains l origin in
    let P : List Pair → Type 0 = λ l. HasPair l (rules_of lines') origin in
    let Q : List Line → Type 0 = λ l. HasPair relations (rules_of l) origin in
    let head : Contains (origin ∷ rest) origin = (0, omega arith, refl) in
    subst P (sym are) (subst Q (sym same) (named origin (subst C (sym is) head)))
