-- A completion that workers share under one lock.
use Rattle.std.specs.Prelude.{◌≡◌, ℕ, ◌+◌, ◌≤◌, Bool, true, false, List, [], All, Some, None, Result, Ok, Err, length, slice_get, take}
use Rattle.kb_word.specs.declared.memory.Memory.{Memory}
use Rattle.kb_word.specs.declared.word_order.WordOrder.TheVariants.{ShortLex}
use Rattle.kb_draw.specs.Totals.{total}
use Rattle.kb_machine.specs.Course.{Course}
use Rattle.kb_share.specs.Later.{entries}
use Rattle.kb_share.specs.Passes.{IsOverlapOfLines, state_entered}
use Rattle.kb_share.specs.declared.found.Found.{Found}

-- the completion of no relations, which stands where none is shared
abbrev pub nothing : Course
nothing = record {
  problem = record { order = ShortLex; relations = []; most_lines = 0; most_letters = 0 };
  state = record { lines = []; live = []; pending = []; versions = []; halt = None };
  journal = [];
}

-- what lies under the lock: a completion, and how many overlaps were entered into it
pub record LockedParts : Type 0 where
  pub course : Course
  pub entered : ℕ

-- each is an overlap of two lines, so that it may be entered
abbrev pub AreOverlaps : Course → List Found → Type 0
AreOverlaps course = All (IsOverlapOfLines course.state)

-- the completion that was given, into which so many overlaps of the batch were entered, in its order, and nothing else
-- happened
pub record IsStageOf (given : Course) (batch : List Found) (locked : LockedParts) : Type 0 where
  pub overlaps : AreOverlaps given batch
  pub within : locked.entered ≤ length batch
  pub problem : locked.course.problem ≡ given.problem
  pub state : locked.course.state ≡ state_entered given.state (take locked.entered batch)
  pub entries : entries locked.course.journal ≡ entries given.journal + locked.entered

-- the completion that was given, into which the batch was entered, in its order, and nothing else happened
pub record EntersBatch (given : Course) (batch : List Found) (after : Course) : Type 0 where
  pub problem : after.problem ≡ given.problem
  pub state : after.state ≡ state_entered given.state batch

-- a worker's token: its number, and how many overlaps it was told that it entered
pub record PassParts : Type 0 where
  pub worker : ℕ
  pub entered : ℕ

-- the workers' numbers go from 1 on
abbrev pub AreNumbered : List PassParts → Type 0
AreNumbered passes = (place : ℕ) (pass : PassParts) → slice_get passes place ≡ Some pass
    → pass.worker ≡ place + 1

-- what a worker's token is after an overlap was entered: it counts that, where one was left
abbrev pub CountsEntry : PassParts → PassParts → Result Bool Memory → Type 0
CountsEntry before after (Ok true) = after ≡ record before { entered = before.entered + 1 }
CountsEntry before after (Ok false) = after ≡ before
CountsEntry before after (Err memory) = after ≡ before

-- how many overlaps these workers entered
abbrev pub entered_by : List PassParts → ℕ
entered_by = total (λ (pass : PassParts). pass.entered)
