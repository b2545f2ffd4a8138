use Rattle.std.proofs.Common.{inr, sym, ap, ◌∙◌, arith}
use Rattle.std.proofs.lemmas.Bool.{true≢false}
use Rattle.std.specs.Option.{is_some}
use Rattle.kb_word.specs.Relations.{relations_of}
use Rattle.kb_system.specs.Problems.{limits_of}
use Rattle.kb_auto.specs.Autgroup.{tried_by}
use Rattle.kb_auto.proofs.GatheredRounds.{equality_in_group, gathers_more, lacks_room, nothing_in_group}
use Rattle.kb_auto.proofs.KeptEqualities.{adds_longer}
use Rattle.kb_auto.proofs.StuckRounds.{brings_more, keeps_reduced}
use Rattle.kb_auto.proofs.trying.try_rounds.Goals as goal

pub rounds-init : goal.rounds-init
rounds-init g c = c.requires.gathered

pub rounds-preserved : goal.rounds-preserved
rounds-preserved g c =
    let tried = tried_by (limits_of c.args.limits.now) c.args.limits.now.diffs c.args.presentation.now c.args.rules.now.rules in
    let refutes = rw c.in-Refuted.is at c.in_ok-structure.ensures in
    let adds = rw c.in-More.is at c.in_ok-gather-in-Refuted.ensures in
    gathers_more tried c.rounds.gathered c.in-Refuted.equality c.rounds.invariant refutes _ adds

pub rounds-smaller : goal.rounds-smaller
rounds-smaller g c =
    let adds = rw c.in-More.is at c.in_ok-gather-in-Refuted.ensures in
    let longer = adds_longer adds.adds in
    let less = longer.0 in
    let within = longer.1 in
    let most = c.rounds.invariant.most in
    omega (arith, less, within, most)

pub gather-requires-clause-first : goal.gather-requires-clause-first
gather-requires-clause-first g c =
    let tried = tried_by (limits_of c.args.limits.now) c.args.limits.now.diffs c.args.presentation.now c.args.rules.now.rules in
    let refutes = rw c.in-Refuted.is at c.in_ok-structure.ensures in
    (equality_in_group tried c.rounds.gathered c.in-Refuted.equality c.rounds.invariant refutes c.requires.letters).0

pub gather-requires-clause-second : goal.gather-requires-clause-second
gather-requires-clause-second g c =
    let tried = tried_by (limits_of c.args.limits.now) c.args.limits.now.diffs c.args.presentation.now c.args.rules.now.rules in
    let refutes = rw c.in-Refuted.is at c.in_ok-structure.ensures in
    (equality_in_group tried c.rounds.gathered c.in-Refuted.equality c.rounds.invariant refutes c.requires.letters).1

pub returns-in-Own : goal.returns-in-Own
returns-in-Own g c = rw c.in-Own.is at c.in_ok-structure.ensures

pub returns-in-TooManyStates : goal.returns-in-TooManyStates
returns-in-TooManyStates g c = λ none reduced. true≢false (c.if-is_some.ensures ∙ ap is_some none)

pub returns-then-is_used_up : goal.returns-then-is_used_up
returns-then-is_used_up g c = λ none reduced. true≢false (sym c.if-is_used_up.true ∙ c.is_used_up.ensures none)

pub list-requires-in-NoRoom-clause-gathered : goal.list-requires-in-NoRoom-clause-gathered
list-requires-in-NoRoom-clause-gathered g c =
    let tried = tried_by (limits_of c.args.limits.now) c.args.limits.now.diffs c.args.presentation.now c.args.rules.now.rules in
    let refutes = rw c.in-Refuted.is at c.in_ok-structure.ensures in
    let adds = rw c.in-NoRoom.is at c.in_ok-gather-in-Refuted.ensures in
    inr (lacks_room tried c.rounds.gathered c.in-Refuted.equality c.rounds.invariant refutes _ adds.0 adds.1 adds.2)

pub returns-in-NoRoom : goal.returns-in-NoRoom
returns-in-NoRoom g c =
    let tried = tried_by (limits_of c.args.limits.now) c.args.limits.now.diffs c.args.presentation.now c.args.rules.now.rules in
    let refutes = rw c.in-Refuted.is at c.in_ok-structure.ensures in
    let adds = rw c.in-NoRoom.is at c.in_ok-gather-in-Refuted.ensures in
    c.in_ok-listing-in-NoRoom.ensures.short
    (lacks_room tried c.rounds.gathered c.in-Refuted.equality c.rounds.invariant refutes _ adds.0 adds.1 adds.2)

pub returns-in-Nothing : goal.returns-in-Nothing
returns-in-Nothing g c = λ none reduced.
    let presentation = c.args.presentation.now in
    let rules = c.args.rules.now.rules in
    let tried = tried_by (limits_of c.args.limits.now) c.args.limits.now.diffs presentation rules in
    let refutes = rw c.in-Refuted.is at c.in_ok-structure.ensures in
    let nothing = rw c.in-Nothing.is at c.in_ok-gather-in-Refuted.ensures in
    let complete = c.reduced_complete_systems_are_complete.ensures.complete presentation.order (relations_of presentation.inv presentation.eqs) rules reduced in
    let keeps =
    keeps_reduced tried _ _ c.requires.group c.requires.shortlex complete.decreasing reduced c.rounds.invariant.keeps in
    brings_more c.rounds_by_reduced_systems_lack_images.ensures c.rounds_by_reduced_systems_keep_more.ensures.first
    c.rounds_by_reduced_systems_keep_more.ensures.more presentation rules _ _ c.in-Refuted.equality keeps refutes
    (nothing_in_group tried c.rounds.gathered c.in-Refuted.equality c.rounds.invariant refutes nothing)
