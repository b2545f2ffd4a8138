use Rattle.std.proofs.Common.{◌≡◌, drop}
use Rattle.kb_fsa.specs.Table.{after}
use Rattle.kb_fsa.specs.Padding.{padded}
use Rattle.kb_fsa.specs.Language.{generators}
use Rattle.kb_fsa.proofs.fsa.Fsa.accepts_pair.Given as goal

abbrev pub invariant-loop-place : goal.invariant-loop-place
invariant-loop-place l =
    let text = padded (generators l.self.alphabet) l.u l.v in
    after l.self.table l.state (drop l.place text) ≡ after l.self.table l.self.table.initial text
