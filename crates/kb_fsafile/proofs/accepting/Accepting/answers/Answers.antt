use Rattle.std.proofs.Common.{ℕ, ◌<◌, ◌≤◌, List, length, get_or, ⊎_elim, sym, subst, arith}
use Rattle.std.proofs.lemmas.List.Elements.{Contains-get_or}
use Rattle.kb_fsafile.specs.Reading.{IsAcceptingState}
use Rattle.kb_fsafile.specs.declared.accepting.Accepting.{Accepting}
use Rattle.std.proofs.lemmas.Bool.{cases_lt}
use Rattle.kb_fsafile.proofs.accepting.Accepting.answers.Goals as goal

pub accepting_marks-requires : goal.accepting_marks-requires
accepting_marks-requires c = λ k d within.
    let P : List ℕ → Type 0 = λ xs. k < length xs in
    let inside = subst P c.as_slice.ensures.value within in
    let A : Accepting → Type 0 = λ a. IsAcceptingState a (get_or c.in-Listed.states.items k d) in
    let bounds = c.requires (get_or c.in-Listed.states.items k d) (subst A (sym c.in-Listed.is) (Contains-get_or c.in-Listed.states.items k d inside)) in
    let Q : List ℕ → Type 0 = λ xs. (0 < get_or xs k d) × (get_or xs k d ≤ c.args.count) in
    subst Q (sym c.as_slice.ensures.value) bounds

pub range_marks-requires-clause-first : goal.range_marks-requires-clause-first
range_marks-requires-clause-first c =
    let A : Accepting → Type 0 = λ a. IsAcceptingState a 0 in
    ⊎_elim (λ (positive : 0 < c.in-Range.from). positive)
    (λ (none : c.in-Range.from ≤ 0). absurd (omega (arith, (c.requires 0 (subst A (sym c.in-Range.is) (none, omega arith))).0))) (cases_lt 0 c.in-Range.from)

pub range_marks-requires-clause-last : goal.range_marks-requires-clause-last
range_marks-requires-clause-last c = λ upto.
    let A : Accepting → Type 0 = λ a. IsAcceptingState a c.in-Range.to in
    (c.requires c.in-Range.to (subst A (sym c.in-Range.is) (upto, omega arith))).1
