use Rattle.std.proofs.Common.{◌≡◌, ap, subst}
use Rattle.kb_auto.specs.Autgroup.{AutgroupSays}
use Rattle.kb_auto.specs.declared.answers.Autgroup.{Autgroup}
use Rattle.kb_cmd_structures.specs.Given.{AutgroupGiven}
use Rattle.kb_cmd_structures.proofs.AutgroupLimits.{shown_differences, shown_halted, shown_states}
use Rattle.kb_cmd_structures.proofs.conclusion.conclusion_of.Goals as goal

pub made-requires-clause-own : goal.made-requires-clause-own
made-requires-clause-own c =
    let given : AutgroupGiven = c.args.task.now in
    subst (λ (a : Autgroup). AutgroupSays given.limits given.most c.args.presentation a) c.in-Own.is c.requires.answer

pub returns-in_ok-at_halt-in-Halted : goal.returns-in_ok-at_halt-in-Halted
returns-in_ok-at_halt-in-Halted c =
    let given : AutgroupGiven = c.args.task.now in
    let at = c.in-Halted in
    let says = subst (λ (a : Autgroup). AutgroupSays given.limits given.most c.args.presentation a) at.is c.requires.answer in
    let file : c.task.inside.file ≡ given.file = ap (λ (it : AutgroupGiven). it.file) c.task.view_is in
    shown_halted given c.args.presentation c.task.inside.file file c.in_ok-at_halt-in-Halted.field-0 at.halted at.listing says.0 says.1
    c.in_ok-at_halt-in-Halted.ensures

pub returns-in_ok-too_many_differences-in-TooManyDifferences : goal.returns-in_ok-too_many_differences-in-TooManyDifferences
returns-in_ok-too_many_differences-in-TooManyDifferences c =
    let given : AutgroupGiven = c.args.task.now in
    let at = c.in-TooManyDifferences in
    let says = subst (λ (a : Autgroup). AutgroupSays given.limits given.most c.args.presentation a) at.is c.requires.answer in
    let file : c.task.inside.file ≡ given.file = ap (λ (it : AutgroupGiven). it.file) c.task.view_is in
    shown_differences given c.args.presentation c.task.inside.file file c.in_ok-too_many_differences-in-TooManyDifferences.field-0 at.lines.items at.rules.rules
    at.confluent at.listing says.1 says.2 c.in_ok-too_many_differences-in-TooManyDifferences.ensures

pub returns-in_ok-too_many_states-in-TooManyStates : goal.returns-in_ok-too_many_states-in-TooManyStates
returns-in_ok-too_many_states-in-TooManyStates c =
    let given : AutgroupGiven = c.args.task.now in
    let at = c.in-TooManyStates in
    let says = subst (λ (a : Autgroup). AutgroupSays given.limits given.most c.args.presentation a) at.is c.requires.answer in
    let file : c.task.inside.file ≡ given.file = ap (λ (it : AutgroupGiven). it.file) c.task.view_is in
    shown_states given c.args.presentation c.task.inside.file file c.in_ok-too_many_states-in-TooManyStates.field-0 at.lines.items at.rules.rules
    at.which at.listing says.1 says.2 c.in_ok-too_many_states-in-TooManyStates.ensures
