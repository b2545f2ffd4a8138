-- How the reading of word lines goes on and ends, where lines wait for their batch.
use Rattle.std.proofs.Common.{◌≡◌, ℕ, ◌+◌, ◌<◌, ◌≤◌, List, [], ◌++◌, length, refl, sym, ◌∙◌, ap, subst, append_assoc, append-nil, arith, length-append}
use Rattle.kb_word.specs.Presentations.{PresentationParts}
use Rattle.kb_lines.specs.WordLines.{most_input, IsOneLine}
use Rattle.kb_lines.specs.Streams.{Streams, streams}
use Rattle.kb_lines.specs.Progress.{Advances, StopsIn}
use Rattle.kb_lines.specs.Reading.{IsReading}
use Rattle.kb_lines.specs.Batches.{held, IsNew, BatchAdvances, IsHolding}
use Rattle.kb_lines.specs.Answered.{Stops}
use Rattle.kb_lines.specs.declared.batch.Batch.{Batch}
use Rattle.kb_lines.specs.declared.progress.Progress.{Progress}
use Rattle.kb_lines.specs.declared.stop.Stop.{Stop}
use Rattle.kb_lines.specs.declared.stop.Stop.TheVariants.{TooLong}
use Rattle.kb_lines.proofs.BatchLemmas.{new-holds_nothing}
use Rattle.kb_lines.proofs.ProgressLemmas.{advances-append, pending-stays}
use Rattle.kb_lines.proofs.ReadingLemmas.{reading-too_long, took-stops}

-- the bytes that are held, as some that are still to be read
abbrev unread : Batch → Streams → Streams
unread batch now =
    streams (record { told = now.input.told; left = held batch ++ now.input.left; faults = now.input.faults }) now.output

-- what was read, behind what is held
held-moved : (batch : Batch) (read left left' : List ℕ) → left ≡ read ++ left' → held batch ++ left ≡ (held batch ++ read) ++ left'
held-moved batch read left left' moved = ap (λ l. held batch ++ l) moved ∙ sym (append_assoc (held batch) read left')

held-split : (batch : Batch) (read bytes extra : List ℕ) → read ≡ bytes ++ extra → held batch ++ read ≡ (held batch ++ bytes) ++ extra
held-split batch read bytes extra split = ap (λ r. held batch ++ r) split ∙ sym (append_assoc (held batch) bytes extra)

module _ {parts : PresentationParts} {Answers : List ℕ → List ℕ → Type 0} where
  -- nothing was read
  pub holding-start : (batch : Batch) (before : Streams) → IsNew batch → IsHolding parts Answers before before batch 0
  holding-start batch before new =
      let none = new-holds_nothing batch new in
      record {
        answered = [];
        takes = ap (λ h. h ++ before.input.left) (sym none);
        counted = sym (ap length none);
        start = batch.progress;
        fresh = new.progress;
        advances = record {
          lines = [];
          whole = refl;
          each = tt;
          open_line = subst IsOneLine (sym new.progress.line) tt;
          number = omega arith;
          given = [];
          answered = refl;
          pending = pending-stays batch.progress.pending.items before.output;
        };
      }

  -- the bytes in front of those that are held, by themselves
  holding-unread : {before now : Streams} {batch : Batch} {count : ℕ} → (holding : IsHolding parts Answers before now batch count)
      → IsReading parts Answers before (unread batch now) batch.progress (length holding.answered)
  holding-unread {now = now} {batch = batch} holding = record {
    taken = holding.answered;
    takes = holding.takes ∙ append_assoc holding.answered (held batch) now.input.left;
    counted = refl;
    start = holding.start;
    fresh = holding.fresh;
    advances = holding.advances;
  }

  -- all that was taken, where more bytes were read
  all-taken : {before now : Streams} {batch : Batch} {count : ℕ} (read left : List ℕ) → (holding : IsHolding parts Answers before now batch count)
      → now.input.left ≡ read ++ left → before.input.left ≡ (holding.answered ++ (held batch ++ read)) ++ left
  all-taken {batch = batch} read left holding moved =
      holding.takes ∙ ap (λ l. (holding.answered ++ held batch) ++ l) moved
      ∙ sym (append_assoc (holding.answered ++ held batch) read left)
      ∙ ap (λ w. w ++ left) (append_assoc holding.answered (held batch) read)

  all-counted : {before now : Streams} {batch : Batch} {count : ℕ} (read : List ℕ) → (holding : IsHolding parts Answers before now batch count)
      → count + length read ≡ length (holding.answered ++ (held batch ++ read))
  all-counted {batch = batch} read holding =
      let before = holding.counted in
      omega (
        arith,
        before,
        length-append holding.answered (held batch),
        length-append holding.answered (held batch ++ read),
        length-append (held batch) read,
      )

  -- more bytes were taken
  pub holding-took : {before now next : Streams} {batch batch' : Batch} {count : ℕ} (read : List ℕ) (more : ℕ)
      → IsHolding parts Answers before now batch count → now.input.left ≡ read ++ next.input.left → length read ≡ more
      → BatchAdvances parts Answers read [] batch batch' now.output next.output
      → IsHolding parts Answers before next batch' (count + more)
  holding-took {next = next} {batch = batch} {batch' = batch'} {count = count} read more holding moved size goes =
      let whole : holding.answered ++ (held batch ++ read) ≡ (holding.answered ++ goes.answered) ++ held batch' =
      ap (λ w. holding.answered ++ w) (goes.whole ∙ ap (λ w. goes.answered ++ w) (append-nil (held batch')))
      ∙ sym (append_assoc holding.answered goes.answered (held batch')) in
      let taken = all-counted read holding in
      record {
        answered = holding.answered ++ goes.answered;
        takes = all-taken read next.input.left holding moved ∙ ap (λ w. w ++ next.input.left) whole;
        counted = ap (λ k. count + k) (sym size) ∙ taken ∙ ap length whole;
        start = holding.start;
        fresh = holding.fresh;
        advances = advances-append holding.advances goes.advances;
      }

  -- the last bytes were taken, and nothing is held any more
  pub holding-last : {before now after : Streams} {batch : Batch} {progress : Progress} {count : ℕ} (read : List ℕ)
      → IsHolding parts Answers before now batch count → now.input.left ≡ read ++ after.input.left
      → Advances parts Answers (held batch ++ read) [] batch.progress progress now.output after.output
      → IsReading parts Answers before after progress (count + length read)
  holding-last {after = after} {batch = batch} read holding moved advances = record {
    taken = holding.answered ++ (held batch ++ read);
    takes = all-taken read after.input.left holding moved;
    counted = all-counted read holding;
    start = holding.start;
    fresh = holding.fresh;
    advances = advances-append holding.advances advances;
  }

  -- the same where none was left
  pub holding-end : {before now after : Streams} {batch : Batch} {progress : Progress} {count : ℕ}
      → IsHolding parts Answers before now batch count → now.input.left ≡ after.input.left
      → Advances parts Answers (held batch ++ []) [] batch.progress progress now.output after.output
      → IsReading parts Answers before after progress count
  holding-end {before} {now} {after} {batch} {progress} {count} holding same advances =
      let none : count + 0 ≡ count = omega arith in
      subst (λ (k : ℕ). IsReading parts Answers before after progress k) none (holding-last [] holding same advances)

  -- ---- what was read is what may be taken, and the rest

  held-counted : {before now : Streams} {batch : Batch} {count : ℕ} (holding : IsHolding parts Answers before now batch count) (these : List ℕ)
      → length holding.answered + length (held batch ++ these) ≡ count + length these
  held-counted {batch = batch} holding these =
      let taken = holding.counted in
      omega (arith, taken, length-append holding.answered (held batch), length-append (held batch) these)

  module _ {before now after : Streams} {batch : Batch} {count : ℕ} (read bytes extra : List ℕ)
      (holding : IsHolding parts Answers before now batch count) (moved : now.input.left ≡ read ++ after.input.left)
      (split : read ≡ bytes ++ extra) where
    -- the answers stop among these bytes
    pub holding-stops : (stop : Stop) → count + length bytes ≤ most_input
        → StopsIn parts Answers (held batch ++ bytes) batch.progress now.output after.output stop
        → Stops parts Answers before after stop
    holding-stops stop short stops =
        let size = held-counted holding bytes in
        took-stops {now = unread batch now} {after = after} (held batch ++ read) (held batch ++ bytes) extra stop (holding-unread holding)
        (held-moved batch read now.input.left after.input.left moved) (held-split batch read bytes extra split) (omega (arith, size, short)) stops

    -- more was read than may be
    pub holding-too_long : {progress : Progress} → count + length bytes ≡ most_input → most_input < count + length read
        → Advances parts Answers (held batch ++ bytes) [] batch.progress progress now.output after.output
        → progress.pending.items ≡ [] → Stops parts Answers before after TooLong
    holding-too_long full more advances none =
        let size = held-counted holding bytes in
        let whole = held-counted holding read in
        reading-too_long {now = unread batch now} {after = after} (held batch ++ read) (held batch ++ bytes) extra (holding-unread holding)
        (held-moved batch read now.input.left after.input.left moved) (held-split batch read bytes extra split) (omega (arith, size, full)) (omega (arith, whole, more)) advances none
