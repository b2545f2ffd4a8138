use Rattle.std.proofs.Common.{refl}
use Rattle.kb_system.specs.Problems.{limits_of}
use Rattle.kb_auto.specs.Autgroup.{tried_by}
use Rattle.kb_auto.specs.Autgroup.HasFailed.{counted, refuted}
use Rattle.kb_auto.proofs.TriedAtHalt.{own_letters, own_pairs}
use Rattle.kb_auto.proofs.outcomes.round_by.Goals as goal

pub failed-requires-clause-letters : goal.failed-requires-clause-letters
failed-requires-clause-letters g c =
    own_letters (tried_by (limits_of c.args.limits.now) c.args.limits.now.diffs c.args.presentation.now c.args.rules.now.rules)
    c.args.differences.now c.requires.kept c.requires.letters

pub failed-requires-clause-kept : goal.failed-requires-clause-kept
failed-requires-clause-kept g c =
    own_pairs (tried_by (limits_of c.args.limits.now) c.args.limits.now.diffs c.args.presentation.now c.args.rules.now.rules)
    c.args.differences.now c.requires.kept

pub returns-in-Refuted : goal.returns-in-Refuted
returns-in-Refuted g c =
    c.failed.ensures (tried_by (limits_of c.args.limits.now) c.args.limits.now.diffs c.args.presentation.now c.args.rules.now.rules)
    refl c.requires.kept (refuted (rw c.in-Refuted.is at c.in_ok-structure.ensures))

pub failed-requires-in-TooManyStates-clause-letters : goal.failed-requires-in-TooManyStates-clause-letters
failed-requires-in-TooManyStates-clause-letters g c =
    own_letters (tried_by (limits_of c.args.limits.now) c.args.limits.now.diffs c.args.presentation.now c.args.rules.now.rules)
    c.args.differences.now c.requires.kept c.requires.letters

pub failed-requires-in-TooManyStates-clause-kept : goal.failed-requires-in-TooManyStates-clause-kept
failed-requires-in-TooManyStates-clause-kept g c =
    own_pairs (tried_by (limits_of c.args.limits.now) c.args.limits.now.diffs c.args.presentation.now c.args.rules.now.rules)
    c.args.differences.now c.requires.kept

pub returns : goal.returns
returns g c =
    c.failed-in-TooManyStates.ensures
    (tried_by (limits_of c.args.limits.now) c.args.limits.now.diffs c.args.presentation.now c.args.rules.now.rules)
    refl c.requires.kept (counted (rw c.in-TooManyStates.is at c.in_ok-structure.ensures))
