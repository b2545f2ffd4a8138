use Rattle.std.proofs.Common.{true≢false, sym, ◌∙◌}
use Rattle.kb_machine.specs.Lines.{rule_of, rules_of}
use Rattle.kb_proof.proofs.Naming.{no_first, no_second, no_overlap}
use Rattle.kb_proof.proofs.verifying.origins.overlap_pair.Goals as goal

pub returns-in_default-clause-none : goal.returns-in_default-clause-none
returns-in_default-clause-none c = λ pair is.
    no_first (rules_of c.args.lines.now) c.args.first c.args.second c.args.place pair c.in_default.ensures.none is

pub returns-in_default-line_numbered-clause-none : goal.returns-in_default-line_numbered-clause-none
returns-in_default-line_numbered-clause-none c = λ pair is.
    no_second (rules_of c.args.lines.now) c.args.first c.args.second c.args.place pair c.in_default-line_numbered.ensures.none is

pub returns-then-not-meets-clause-none : goal.returns-then-not-meets-clause-none
returns-then-not-meets-clause-none c = λ pair is.
    no_overlap (rules_of c.args.lines.now) c.args.first c.args.second c.args.place (rule_of c.in-Some.one.now)
    (rule_of c.in-Some-line_numbered.other.now) pair c.in-Some.ensures.some c.in-Some-line_numbered.ensures.some
    (λ overlaps. true≢false (sym (c.meets.ensures.1 overlaps) ∙ c.if-not-meets.true)) is
