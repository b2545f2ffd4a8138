-- What a pass comes to.
use Rattle.std.specs.Prelude.{◌≡◌}
use Rattle.kb_word.specs.Overlap.{IsConfluent}
use Rattle.kb_machine.specs.States.{live_rules}
use Rattle.kb_machine.specs.Course.{Course}
use Rattle.kb_share.specs.Passes.{EntersApart}
use Rattle.kb_threads.specs.declared.passed.Passed.{Passed}
use Rattle.kb_threads.specs.declared.passed.Passed.TheVariants as passed

-- the completion after overlaps that are apart were entered and nothing else happened, or the very one, and its live
-- rules are confluent
abbrev pub PassSays : {R : Type 0} → Course → Passed R → Type 0
PassSays before (passed.Entered after) = EntersApart before after.course
PassSays before (passed.Confluent after) =
    (after.course ≡ before) × IsConfluent (live_rules before.state)
