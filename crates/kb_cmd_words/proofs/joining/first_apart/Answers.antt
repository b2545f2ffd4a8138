use Rattle.std.proofs.Common.{◌+◌, ℕ, Option, Some, None, refl, subst}
use Rattle.kb_cmd_words.specs.LogLines.{RelationSays}
use Rattle.kb_cmd_words.specs.declared.objection.Objection.{Objection}
use Rattle.kb_bylog.proofs.LineLemmas.{joined_all, joined_more, joined_none}
use Rattle.kb_cmd_words.proofs.LogLemmas.{apart_found}
use Rattle.kb_cmd_words.proofs.joining.first_apart.Goals as goal

pub loop-place-init : goal.loop-place-init
loop-place-init c = joined_none c.args.reducer.now.rules c.args.relations.now

pub returns-in-Some : goal.returns-in-Some
returns-in-Some c =
    let rules = c.args.reducer.now.rules in
    let place : ℕ = c.loop-place.place in
    let relation = c.index-relations-place.result in
    let Says : Option Objection → Type 0 = λ found. RelationSays rules (place + 1) relation found in
    let says : Says (Some c.in-Some.objection) = subst Says c.in-Some.is c.in_ok-objection.ensures in
    apart_found rules c.args.relations.now place (place + 1) relation c.in-Some.objection c.loop-place-test.true c.index-relations-place.is refl
    c.loop-place.invariant says

pub loop-place-preserved : goal.loop-place-preserved
loop-place-preserved c =
    let rules = c.args.reducer.now.rules in
    let place : ℕ = c.loop-place.place in
    let relation = c.index-relations-place.result in
    let Says : Option Objection → Type 0 = λ found. RelationSays rules (place + 1) relation found in
    let joined : Says None = subst Says c.in_default.is c.in_ok-objection.ensures in
    joined_more rules c.args.relations.now place relation c.loop-place-test.true c.index-relations-place.is c.loop-place.invariant joined

pub returns : goal.returns
returns c = joined_all c.args.reducer.now.rules c.args.relations.now c.loop-place.place c.loop-place-test.false c.loop-place.invariant
