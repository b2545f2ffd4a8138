use Rattle.std.proofs.Common.{◌+◌, ℕ, refl}
use Rattle.kb_machine.specs.Lines.{rules_of}
use Rattle.kb_share.proofs.Known.{met_more, met_rule}
use Rattle.kb_share.proofs.finding.Finder.meet_line.Goals as goal

pub returns-clause-known : goal.returns-clause-known
returns-clause-known c = λ lines at knows.
    let before = c.args.self.now in
    let line = c.args.line.now in
    let number : ℕ = before.met + 1 in
    met_more before _ lines c.args.live.now line number refl at knows refl
    (c.in_ok-add_live.ensures.agrees (rules_of lines) (met_rule lines before.met number line refl at) knows.agrees)
    c.in_ok-add_live.ensures.kept c.in_ok-add_live.ensures.own
