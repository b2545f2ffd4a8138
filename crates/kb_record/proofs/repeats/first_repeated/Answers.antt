use Rattle.std.proofs.Common.{List, [], subst}
use Rattle.kb_record.specs.Reading.{remaining}
use Rattle.kb_record.specs.Repeats.{Naming}
use Rattle.kb_record.specs.NamesMet.{opened, names_met, stepped, GoesOn, Continues}
use Rattle.kb_record.specs.declared.repeats.Pass.{Pass}
use Rattle.kb_record.proofs.OpenLemmas.{none_met, continues}
use Rattle.kb_record.proofs.repeats.first_repeated.Goals as goal

pub loop-step-preserved : goal.loop-step-preserved
loop-step-preserved c =
    let l = c.loop-step in
    let f = l.invariant.0 in
    let fs = l.invariant.1 in
    let all = names_met (remaining c.args.tokens.now) (opened c.args.of_record) [] in
    let next = names_met (remaining c.next_step.new.tokens) in
    let names = stepped c.in-Some.step next f fs in
    let before : GoesOn names all = subst (λ (ns : List Naming). GoesOn ns all) (c.in-Some.ensures.step f fs) l.invariant.3 in
    let whole = continues c.in_ok-pass.field-0 c.pass.new.self names all next before (c.in_ok-pass.ensures next f fs l.invariant.2) in
    subst (λ (p : Pass). Continues p c.pass.new.self all next) c.in-On.is whole

pub returns-in-Ended-clause-none : goal.returns-in-Ended-clause-none
returns-in-Ended-clause-none c =
    let l = c.loop-step in
    let f = l.invariant.0 in
    let fs = l.invariant.1 in
    let all = names_met (remaining c.args.tokens.now) (opened c.args.of_record) [] in
    let next = names_met (remaining c.next_step.new.tokens) in
    let names = stepped c.in-Some.step next f fs in
    let before : GoesOn names all = subst (λ (ns : List Naming). GoesOn ns all) (c.in-Some.ensures.step f fs) l.invariant.3 in
    let whole = continues c.in_ok-pass.field-0 c.pass.new.self names all next before (c.in_ok-pass.ensures next f fs l.invariant.2) in
    subst (λ (p : Pass). Continues p c.pass.new.self all next) c.in-Ended.is whole

pub returns-clause-none : goal.returns-clause-none
returns-clause-none c =
    let l = c.loop-step in
    l.invariant.3.none (none_met (remaining l.tokens) l.invariant.0 l.invariant.1 c.in_default.ensures.step)
