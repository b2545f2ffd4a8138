use Rattle.std.proofs.Common.{ap}
use Rattle.kb_word.specs.Presentations.{PresentationParts}
use Rattle.kb_task.proofs.RunLemmas.{if_ok}
use Rattle.kb_cmd_completion.proofs.SelfTestRuns.{report-completed, report-halted, report-too_large}
use Rattle.kb_cmd_completion.proofs.selftest.report_on.Goals as goal

pub returns-in-Completed : goal.returns-in-Completed
returns-in-Completed c = λ given same ends.
    let ended = rw c.in-Completed.is at ends in
    if_ok c.completed_report.result c.completed_report.ensures
    (λ report is. report-completed given report c.args.rank c.in-Completed.rules.rules c.in-Completed.acceptor same ended.1
    (rw (c.len.ensures, c.len-in-Completed.ensures) at is))

pub returns-in-Halted : goal.returns-in-Halted
returns-in-Halted c = λ given same ends.
    let ended = rw c.in-Halted.is at ends in
    if_ok c.halted_report.result c.halted_report.ensures
    (λ report is. report-halted given report c.args.rank c.args.presentation.now.names c.in-Halted.halted same
    (ap (λ (parts : PresentationParts). parts.names) c.requires) ended.1 is)

pub returns : goal.returns
returns c = λ given same ends.
    let ended = rw c.in-TooLarge.is at ends in
    if_ok c.too_large_report.result c.too_large_report.ensures
    (λ report is. report-too_large given report c.args.rank c.args.presentation.now.names c.in-TooLarge.lines.items c.in-TooLarge.rules.rules same
    (ap (λ (parts : PresentationParts). parts.names) c.requires) ended.1 is)
