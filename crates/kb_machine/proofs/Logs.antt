-- The lines of a justified log are congruent by the relations.
use Rattle.std.proofs.Common.{◌≡◌, ℕ, zero, suc, ◌<◌, List, [], ◌∷◌, take, Some, refl, sym, subst, arith}
use Rattle.std.specs.Prelude.{slice_get}
use Rattle.kb_word.specs.Words.{Pair, OneOf}
use Rattle.kb_word.specs.Congruence.{Congruent}
use Rattle.kb_word.proofs.PathLemmas.{congruent_sides}
use Rattle.kb_machine.specs.Lines.{rule_of, rules_of}
use Rattle.kb_machine.specs.Justified.{IsJustified}
use Rattle.kb_machine.specs.declared.line.Line.{Line}
use Rattle.kb_machine.proofs.Consequences.{follows_congruent}

-- what stands among the first of a list stands in the list, before their end
pub slice_get_take : {X : Type 0} (xs : List X) (count index : ℕ) (x : X) → slice_get (take count xs) index ≡ Some x
    → (index < count) × (slice_get xs index ≡ Some x)
slice_get_take [] zero index x e = absurd (cc e)
slice_get_take [] (suc count) index x e = absurd (cc e)
slice_get_take (y ∷ xs) zero index x e = absurd (cc e)
slice_get_take (y ∷ xs) (suc count) zero x e = (omega arith, e)
slice_get_take (y ∷ xs) (suc count) (suc index) x e =
    let rest = slice_get_take xs count index x e in let less : index < count = rest.0 in (omega arith, rest.1)

-- the line of a rule
pub record IsRuleAt (lines : List Line) (index : ℕ) (rule : Pair) : Type 0 where
  pub line : Line
  pub is_line : slice_get lines index ≡ Some line
  pub is : rule ≡ rule_of line

pub line_of_rule : (lines : List Line) (index : ℕ) (rule : Pair) → slice_get (rules_of lines) index ≡ Some rule
    → IsRuleAt lines index rule
line_of_rule [] index rule e = absurd (cc e)
line_of_rule (line ∷ lines) zero rule e = record { line = line; is_line = refl; is = cc e }
line_of_rule (line ∷ lines) (suc index) rule e =
    let rest = line_of_rule lines index rule e in record { line = rest.line; is_line = rest.is_line; is = rest.is }

-- the sides of the lines before an index are congruent
justified_before : {below : List ℕ → List ℕ → Type 0} {relations : List Pair} {lines : List Line}
    → IsJustified below relations lines
    → (count index : ℕ) (line : Line) → index < count → slice_get lines index ≡ Some line
    → Congruent (OneOf relations) line.left line.right
justified_before justified zero index line within is_line = absurd (omega arith)
justified_before {relations = relations} {lines = lines} justified (suc count) index line within is_line =
    let hold : (rule : Pair) → OneOf (take index (rules_of lines)) rule → Congruent (OneOf relations) rule.0 rule.1 =
    λ rule one.
    let first = slice_get_take (rules_of lines) index one.0 rule one.1 in
    let less : one.0 < index = first.0 in
    let at = line_of_rule lines one.0 rule first.1 in
    let sides : Congruent (OneOf relations) at.line.left at.line.right =
    justified_before justified count one.0 at.line (omega arith) at.is_line in
    subst (λ (pair : Pair). Congruent (OneOf relations) pair.0 pair.1) (sym at.is) sides in
    follows_congruent relations (take index (rules_of lines)) line.origin line
    (λ relation one. congruent_sides relation one) hold
    (justified.follows index line is_line)

-- the sides of each line of a justified log are congruent
pub justified_congruent : {below : List ℕ → List ℕ → Type 0} {relations : List Pair} {lines : List Line}
    → IsJustified below relations lines
    → (index : ℕ) (line : Line) → slice_get lines index ≡ Some line → Congruent (OneOf relations) line.left line.right
justified_congruent justified index line is_line =
    justified_before justified (suc index) index line (omega arith) is_line

-- so are the sides of its rules
pub justified_rules : {below : List ℕ → List ℕ → Type 0} {relations : List Pair} {lines : List Line}
    → IsJustified below relations lines
    → (rule : Pair) → OneOf (rules_of lines) rule → Congruent (OneOf relations) rule.0 rule.1
justified_rules {relations = relations} {lines = lines} justified rule one =
    let of_line = line_of_rule lines one.0 rule one.1 in
    let P : Pair → Type 0 = λ pair. Congruent (OneOf relations) pair.0 pair.1 in
    subst P (sym of_line.is) (justified_congruent justified one.0 of_line.line of_line.is_line)

-- its rules decrease
pub justified_decreases : {below : List ℕ → List ℕ → Type 0} {relations : List Pair} {lines : List Line}
    → IsJustified below relations lines
    → (rule : Pair) → OneOf (rules_of lines) rule → below rule.1 rule.0
justified_decreases {below = below} {lines = lines} justified rule one =
    let of_line = line_of_rule lines one.0 rule one.1 in
    let P : Pair → Type 0 = λ pair. below pair.1 pair.0 in
    subst P (sym of_line.is) (justified.decreases one.0 of_line.line of_line.is_line)
