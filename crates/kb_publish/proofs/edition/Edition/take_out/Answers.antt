use Rattle.std.proofs.Common.{◌≡◌, ◌≤◌, ℕ, List, length, ◌∙◌, ap, subst, arith}
use Rattle.std.specs.List.{remove}
use Rattle.kb_word.specs.Words.{Pair}
use Rattle.kb_publish.specs.declared.edition.Lines.{Lines}
use Rattle.kb_publish.proofs.Changing.{past_end}
use Rattle.kb_publish.proofs.edition.Edition.take_out.Goals as goal

pub returns-then-place-len-clause-ok : goal.returns-then-place-len-clause-ok
returns-then-place-len-clause-ok g c =
    let place = c.args.place in
    let now = c.args.self.now in
    let many : length now.numbers ≤ place = subst (λ (lines : Lines). length lines.numbers ≤ place) c.self.view_is (omega (arith, c.if-place-len.true, c.len.ensures, c.self.inside.numbers.ok)) in
    let each : length now.numbers ≡ length now.rules = subst (λ (lines : Lines). length lines.numbers ≡ length lines.rules) c.self.view_is c.self.invariant.0 in
    let numbers = past_end now.numbers place many in
    let rules = past_end now.rules place (omega (arith, many, each)) in
    ap (λ (l : List ℕ). record { version = now.version; numbers = l; rules = now.rules }) numbers
    ∙ ap (λ (r : List Pair). record { version = now.version; numbers = remove now.numbers place; rules = r }) rules
