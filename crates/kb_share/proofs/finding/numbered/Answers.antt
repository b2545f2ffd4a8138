use Rattle.std.proofs.Common.{◌≡◌, Some, None, IfSome, IfNone, ℕ, suc, ◌<◌, ◌≤◌, length, List, Option, arith, Bor, refl}
use Rattle.std.specs.Option.{MatchOption}
use Rattle.std.specs.List.{HoldsAt}
use Rattle.std.proofs.lemmas.Option.{slice_get_read}
use Rattle.kb_machine.specs.declared.line.Line.{Line}
use Rattle.kb_machine.specs.Lines.{numbered, rule_of, rules_of}
use Rattle.kb_book.proofs.Lists.{rule_numbered_some, rule_numbered_none}
use Rattle.kb_share.proofs.finding.numbered.Goals as goal

some_line : (lines : List Line) (k index : ℕ) (found : Option (Bor Line)) → k ≡ suc index
    → MatchOption found (length lines ≤ index) (λ x. (index < length lines) × HoldsAt (λ y. x.now ≡ y) lines index)
    → IfSome found (λ line. numbered (rules_of lines) k ≡ Some (rule_of line.now))
some_line lines k index (Some line) is reads =
    rule_numbered_some lines k index line.now is (slice_get_read lines (length lines) index line.now refl reads.0 (reads.1 line.now))
some_line lines k index None is reads = tt

no_line : (lines : List Line) (k index : ℕ) (found : Option (Bor Line)) → k ≡ suc index
    → MatchOption found (length lines ≤ index) (λ x. (index < length lines) × HoldsAt (λ y. x.now ≡ y) lines index)
    → IfNone found (numbered (rules_of lines) k ≡ None)
no_line lines k index (Some line) is reads = tt
no_line lines k index None is reads = rule_numbered_none lines k index is reads

pub returns-clause-some : goal.returns-clause-some
returns-clause-some c =
    let from = c.in_ok-index.ensures in
    some_line c.args.lines.now c.args.k c.in_ok-index.index c.get.result (omega arith) c.get.ensures.lookup.3

pub returns-clause-none : goal.returns-clause-none
returns-clause-none c =
    let from = c.in_ok-index.ensures in
    no_line c.args.lines.now c.args.k c.in_ok-index.index c.get.result (omega arith) c.get.ensures.lookup.3
