use Rattle.std.proofs.Common.{ℕ, ◌*◌, ◌≤◌, sym, ap, ap₂, ◌∙◌, subst}
use Rattle.std.proofs.lemmas.Bool.{ltb-false}
use Rattle.kb_fsa.specs.Table.{IsRow, moves_of}
use Rattle.kb_compose.proofs.Endings.{no_letters_below}
use Rattle.kb_compose.proofs.tails.Tails.may_go_on.Goals as goal

pub returns-in-Some : goal.returns-in-Some
returns-in-Some c = λ no.
    let self = c.args.self.now in
    let n = self.symbols.n in
    let first = self.first.now in
    let last = c.in-Some.entry.now in
    let row_is = ap (moves_of first) c.first_state.ensures in
    let low : last.0 ≤ c.padding.result * c.from.result = ltb-false (c.padding.result * c.from.result) last.0 no in
    let P : ℕ → Type 0 = λ bound. last.0 ≤ bound in
    no_letters_below n first self.second.now c.args.pair c.as_slice.result.now (c.as_slice.ensures.value ∙ c.moves.ensures.moves ∙ row_is) last
    (subst IsRow row_is c.moves.ensures.row) (sym c.in-Some.ensures.value) (subst P (ap₂ (λ a b. a * b) c.padding.ensures c.from.ensures) low)
