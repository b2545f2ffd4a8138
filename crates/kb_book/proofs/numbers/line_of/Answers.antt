use Rattle.std.proofs.Common.{◌≡◌, ◌<◌, ◌≤◌, ◌-◌, ℕ, zero, suc, List, length, Some, refl, arith}
use Rattle.std.proofs.lemmas.List.{length-map}
use Rattle.std.proofs.lemmas.Option.{none-some, slice_get_within, slice_get_read}
use Rattle.kb_word.specs.Words.{Pair}
use Rattle.kb_machine.specs.declared.line.Line.{Line}
use Rattle.kb_machine.specs.Lines.{numbered, rule_of, rules_of}
use Rattle.kb_book.proofs.Lists.{rule_numbered_some}
use Rattle.kb_book.proofs.numbers.line_of.Goals as goal

-- what has a number stands in the list
fits : (lines : List Line) (k : ℕ) (rule : Pair) → numbered (rules_of lines) k ≡ Some rule → (0 < k) × (k ≤ length lines)
fits lines zero rule is = absurd (none-some rule is)
fits lines (suc index) rule is =
    let within : index < length (rules_of lines) = slice_get_within (rules_of lines) index rule is in
    (omega arith, omega (arith, length-map lines rule_of))

pub returns : goal.returns
returns c =
    let lines : List Line = c.args.lines.now in
    let k : ℕ = c.args.k in
    let fit : (0 < k) × (k ≤ length lines) = fits lines k c.requires.0 c.requires.1 in
    rule_numbered_some lines k (k - 1) c.index-lines-k.result (omega arith)
    (slice_get_read lines (length lines) (k - 1) c.index-lines-k.result refl (omega arith) c.index-lines-k.is)
