-- How the reading of word lines goes on, and how it ends.
use Rattle.std.proofs.Common.{◌≡◌, ℕ, ◌+◌, ◌<◌, ◌≤◌, List, [], ◌∷◌, ◌++◌, length, take, drop, refl, sym, ◌∙◌, ap, subst, append_assoc, append-nil, arith, length-append, Result, Ok, Err, IfErr, OnOk}
use Rattle.std.specs.Prelude.{IsTrue}
use Rattle.std.proofs.lemmas.List.{take-append-drop, take-take}
use Rattle.std.proofs.Math.Seq.{take-append_seam}
use Rattle.kb_io.specs.Bytes.{newline}
use Rattle.kb_io.specs.States.{SourceState, SinkState, SinkGoesOn}
use Rattle.kb_word.specs.Presentations.{PresentationParts}
use Rattle.kb_record.specs.declared.error.WordError.{WordError}
use Rattle.kb_lines.specs.WordLines.{most_input, IsOneLine, ended}
use Rattle.kb_lines.specs.Streams.{Streams, streams, AreTold, StreamsGoOn}
use Rattle.kb_lines.specs.Progress.{IsFresh, IsReady, PendingGoesOn, LineEnds, LineFront, LineRefused, LineStops, Advances, FrontIn, RefusesIn, StopsIn, LineStopIsCounted}
use Rattle.kb_lines.specs.Reading.{IsReading}
use Rattle.kb_lines.specs.Answered.{AllAnswered, EndedAnswered, FrontAnswered, RefusedAt, StopMeans, Stops, StopIsCounted}
use Rattle.kb_lines.specs.declared.progress.Progress.{Progress}
use Rattle.kb_lines.specs.declared.stop.Stop.{Stop}
use Rattle.kb_lines.specs.declared.stop.Stop.TheVariants.{Refused, TooLong, Input, Output, Memory}
use Rattle.kb_lines.proofs.LineLemmas.{gives-next}
use Rattle.kb_lines.proofs.ProgressLemmas.{pending-then, pending-stays, advances-append, advances-line_front, stops-append}

-- ---- the streams

pub goes-on-then : {a b c : Streams} → StreamsGoOn a b → StreamsGoOn b c → StreamsGoOn a c
goes-on-then one two = record {
  input = record {
    told = two.input.told ∙ one.input.told;
    faults = let before = one.input.faults in let after = two.input.faults in omega (arith, before, after);
  };
  output = record {
    told = two.output.told ∙ one.output.told;
    faults = let before = one.output.faults in let after = two.output.faults in omega (arith, before, after);
  };
}

pub sink-goes-on-then : {a b c : SinkState} → SinkGoesOn a b → SinkGoesOn b c → SinkGoesOn a c
sink-goes-on-then one two = record {
  told = two.told ∙ one.told;
  faults = let before = one.faults in let after = two.faults in omega (arith, before, after);
}

pub sink-stays : (a : SinkState) → SinkGoesOn a a
sink-stays a = record { told = refl; faults = omega arith }

-- both tell their bytes also later
pub told-later : {a b : Streams} → AreTold a → StreamsGoOn a b → AreTold b
told-later told goes_on = record {
  input = subst IsTrue (sym goes_on.input.told) told.input;
  output = subst IsTrue (sym goes_on.output.told) told.output;
}

-- a stop of the lines is counted, also over a longer time
pub stop-counted : {a b : Streams} (c : Streams) (stop : Stop) → StreamsGoOn a b → LineStopIsCounted b.output c.output stop → StopIsCounted a c stop
stop-counted c (Refused number fault) goes_on counted = tt
stop-counted c TooLong goes_on counted = tt
stop-counted c Memory goes_on counted = tt
stop-counted c Output goes_on counted = let before = goes_on.output.faults in omega (arith, before, counted)
stop-counted c Input goes_on counted = absurd counted

-- whatever the input was
pub line_stop-counted : (input input' : SourceState) (a b : SinkState) (stop : Stop) → LineStopIsCounted a b stop
    → StopIsCounted (streams input a) (streams input' b) stop
line_stop-counted input input' a b (Refused number fault) counted = tt
line_stop-counted input input' a b TooLong counted = tt
line_stop-counted input input' a b Memory counted = tt
line_stop-counted input input' a b Output counted = counted
line_stop-counted input input' a b Input counted = absurd counted

-- a stop is counted also from an earlier moment
pub later-counted : {a b : Streams} (c : Streams) (stop : Stop) → StreamsGoOn a b → StopIsCounted b c stop → StopIsCounted a c stop
later-counted c (Refused number fault) goes_on counted = tt
later-counted c TooLong goes_on counted = tt
later-counted c Memory goes_on counted = tt
later-counted c Output goes_on counted = let before = goes_on.output.faults in omega (arith, before, counted)
later-counted c Input goes_on counted = let before = goes_on.input.faults in omega (arith, before, counted)

-- a list with no element
pub no-length : {X : Type 0} (xs : List X) → length xs ≡ 0 → xs ≡ []
no-length [] e = refl
no-length (x ∷ xs) e = absurd (omega arith)

-- where nothing was left, nothing is left after a read of nothing
pub nothing-left : (buffer left left' : List ℕ) (n : ℕ) → left ≡ take n buffer ++ left' → left ≡ [] → left' ≡ []
nothing-left buffer left left' n moved none =
    no-length left' (omega (arith, ap length (sym moved ∙ none), length-append (take n buffer) left'))

-- all that was pending and given was sent
all-sent : {given pending pending' : List ℕ} {a b : SinkState} → PendingGoesOn given pending pending' a b → pending ≡ [] → pending' ≡ []
    → b.written ≡ a.written ++ given
all-sent {given} {a = a} goes_on none none' =
    goes_on.appended ∙ ap (λ s. a.written ++ s) (sym (append-nil goes_on.sent) ∙ ap (λ p. goes_on.sent ++ p) (sym none')
    ∙ sym goes_on.held ∙ ap (λ p. p ++ given) none)

-- the bytes from the first on are what a fresh line and these bytes are
from-fresh : {start : Progress} (bytes whole : List ℕ) → IsFresh start → start.line.items ++ bytes ≡ whole → bytes ≡ whole
from-fresh bytes whole fresh is = ap (λ l. l ++ bytes) (sym fresh.line) ∙ is

-- what follows for an error, and for both facts of a success
pub err-then : {T : Type 0} (P Q : Stop → Type 0) (result : Result T Stop) → ((stop : Stop) → P stop → Q stop) → IfErr result P → IfErr result Q
err-then P Q (Ok x) then_so holds = tt
err-then P Q (Err stop) then_so holds = then_so stop holds

pub ok-then : {T : Type 0} (A B C : Type 0) (result : Result T Stop) → (A → B → C) → OnOk result A → OnOk result B → OnOk result C
ok-then A B C (Ok x) then_so one other = then_so one other
ok-then A B C (Err stop) then_so one other = tt

-- what was read is what may be taken of it, and the rest
pub split-read : (buffer : List ℕ) (n more : ℕ) → n ≤ more → take more buffer ≡ take n buffer ++ drop n (take more buffer)
split-read buffer n more less =
    sym (take-append-drop n (take more buffer)) ∙ ap (λ f. f ++ drop n (take more buffer)) (take-take n more buffer less)

module _ {parts : PresentationParts} {Answers : List ℕ → List ℕ → Type 0} where
  -- nothing was read
  pub reading-start : (start : Progress) (before : Streams) → IsFresh start → IsReading parts Answers before before start 0
  reading-start start before fresh = record {
    taken = [];
    takes = refl;
    counted = refl;
    start = start;
    fresh = fresh;
    advances = record {
      lines = [];
      whole = refl;
      each = tt;
      open_line = subst IsOneLine (sym fresh.line) tt;
      number = omega arith;
      given = [];
      answered = refl;
      pending = pending-stays start.pending.items before.output;
    };
  }

  pub reading-ready : {before now : Streams} {progress : Progress} {count : ℕ} → AreTold before → StreamsGoOn before now
      → IsReading parts Answers before now progress count → IsReady progress now.output
  reading-ready told goes_on reading = record {
    told = subst IsTrue (sym goes_on.output.told) told.output;
    open_line = reading.advances.open_line;
  }

  -- more bytes were taken
  pub reading-took : {before now next : Streams} {progress progress' : Progress} {count : ℕ} (read : List ℕ) (more : ℕ)
      → IsReading parts Answers before now progress count → now.input.left ≡ read ++ next.input.left → length read ≡ more
      → Advances parts Answers read [] progress progress' now.output next.output
      → IsReading parts Answers before next progress' (count + more)
  reading-took {next = next} read more reading moved size advances = record {
    taken = reading.taken ++ read;
    takes = reading.takes ∙ ap (λ l. reading.taken ++ l) moved ∙ sym (append_assoc reading.taken read next.input.left);
    counted = let before = reading.counted in omega (arith, before, size, length-append reading.taken read);
    start = reading.start;
    fresh = reading.fresh;
    advances = advances-append reading.advances advances;
  }

  -- ---- from the first byte

  -- all lines that ended were answered
  pub ended-answered : {bytes : List ℕ} {start progress : Progress} (before after : Streams)
      → Advances parts Answers bytes [] start progress before.output after.output → IsFresh start → progress.pending.items ≡ []
      → EndedAnswered parts Answers bytes before after
  ended-answered {bytes} {start} {progress} before after advances fresh none = record {
    lines = advances.lines;
    rest = progress.line.items;
    cuts = record {
      whole = from-fresh bytes _ fresh (advances.whole ∙ ap (λ l. ended advances.lines ++ l) (append-nil progress.line.items));
      each = advances.each;
      open_line = advances.open_line;
    };
    given = advances.given;
    answered = advances.answered;
    sent = all-sent advances.pending fresh.pending none;
  }

  -- a front of what was given was sent
  front-answered : {bytes : List ℕ} {start : Progress} (later : List ℕ) (before after : Streams) → IsFresh start
      → before.input.left ++ newline ∷ [] ≡ bytes ++ later → FrontIn parts Answers bytes start before.output after.output
      → FrontAnswered parts Answers before after
  front-answered {bytes} {start} later before after fresh input front = record {
    lines = front.lines;
    each = front.each;
    rest = front.rest ++ later;
    at_front = input ∙ ap (λ b. b ++ later) (from-fresh bytes _ fresh front.at_front) ∙ append_assoc (ended front.lines) front.rest later;
    given = front.given;
    answered = front.answered;
    sent = front.pending.sent;
    unsent = front.unsent;
    front = ap (λ p. p ++ front.given) (sym fresh.pending) ∙ front.pending.held;
    sends = front.pending.appended;
  }

  -- a line within the bytes is refused
  refused-at : {bytes : List ℕ} {start : Progress} (later taken : List ℕ) (before after : Streams) {number : ℕ} {fault : WordError} → IsFresh start
      → before.input.left ≡ bytes ++ later → length bytes ≤ length taken → length bytes ≤ most_input
      → RefusesIn parts Answers bytes start before.output after.output number fault
      → RefusedAt parts Answers number fault taken before after
  refused-at {bytes} {start} later taken before after {number} {fault} fresh input seen short refuses =
      let front : List ℕ = ended refuses.lines ++ refuses.line in
      let is : bytes ≡ front ++ newline ∷ refuses.behind = from-fresh bytes _ fresh refuses.whole in
      let size : length bytes ≡ length front + length (newline ∷ refuses.behind) = ap length is ∙ length-append front (newline ∷ refuses.behind) in
      let less : length front < length bytes = omega (arith, size) in
      record {
        refused = record {
          lines = refuses.lines;
          line = refuses.line;
          behind = newline ∷ (refuses.behind ++ later);
          whole = input ∙ ap (λ b. b ++ later) is ∙ append_assoc front (newline ∷ refuses.behind) later;
          each = refuses.each;
          one = refuses.one;
          ends = (refl, omega (arith, less, short));
          counted = let count = refuses.counted in let zero_lines = fresh.number in omega (arith, count, zero_lines);
          given = refuses.given;
          answered = refuses.answered;
          faulty = refuses.faulty;
        };
        seen = omega (arith, less, seen);
        sent = refuses.sent ∙ ap (λ p. before.output.written ++ (p ++ refuses.given)) fresh.pending;
      }

-- what a stop among the bytes means
stop-means : (parts : PresentationParts) (Answers : List ℕ → List ℕ → Type 0) {start : Progress} (bytes later taken : List ℕ)
    (before after : Streams) (stop : Stop) → IsFresh start
    → before.input.left ≡ bytes ++ later → length bytes ≤ length taken → length bytes ≤ most_input
    → StopsIn parts Answers bytes start before.output after.output stop → StopMeans parts Answers taken before after stop
stop-means parts Answers bytes later taken before after (Refused number fault) fresh input seen short stops =
    refused-at later taken before after fresh input seen short stops
stop-means parts Answers bytes later taken before after Output fresh input seen short stops =
    front-answered (later ++ newline ∷ []) before after fresh (ap (λ i. i ++ newline ∷ []) input ∙ append_assoc bytes later (newline ∷ [])) stops
stop-means parts Answers bytes later taken before after Memory fresh input seen short stops =
    front-answered (later ++ newline ∷ []) before after fresh (ap (λ i. i ++ newline ∷ []) input ∙ append_assoc bytes later (newline ∷ [])) stops
stop-means parts Answers bytes later taken before after TooLong fresh input seen short stops = absurd stops
stop-means parts Answers bytes later taken before after Input fresh input seen short stops = absurd stops

module _ {parts : PresentationParts} {Answers : List ℕ → List ℕ → Type 0} where
  -- ---- the ends of the reading

  -- memory ran out before the first read
  pub start-stops : (before : Streams) → Stops parts Answers before before Memory
  start-stops before = record {
    taken = [];
    takes = refl;
    means = record {
      lines = [];
      each = tt;
      rest = before.input.left ++ newline ∷ [];
      at_front = refl;
      given = [];
      answered = refl;
      sent = [];
      unsent = [];
      front = refl;
      sends = sym (append-nil before.output.written);
    };
  }

  -- the answers stop among the bytes that were read
  pub took-stops : {before now after : Streams} {progress : Progress} {count : ℕ} (read bytes extra : List ℕ) (stop : Stop)
      → IsReading parts Answers before now progress count → now.input.left ≡ read ++ after.input.left → read ≡ bytes ++ extra
      → count + length bytes ≤ most_input → StopsIn parts Answers bytes progress now.output after.output stop
      → Stops parts Answers before after stop
  took-stops {before} {now} {after} read bytes extra stop reading moved split short stops =
      let counted = reading.counted in
      record {
        taken = reading.taken ++ read;
        takes = reading.takes ∙ ap (λ l. reading.taken ++ l) moved ∙ sym (append_assoc reading.taken read after.input.left);
        means = stop-means parts Answers (reading.taken ++ bytes) (extra ++ after.input.left) (reading.taken ++ read) before after stop reading.fresh
            (reading.takes ∙ ap (λ l. reading.taken ++ l) (moved ∙ ap (λ r. r ++ after.input.left) split ∙ append_assoc bytes extra after.input.left)
            ∙ sym (append_assoc reading.taken bytes (extra ++ after.input.left)))
            (omega (arith, length-append reading.taken bytes, length-append reading.taken read, ap length split, length-append bytes extra))
            (omega (arith, counted, short, length-append reading.taken bytes))
            (stops-append bytes after.output stop reading.advances stops);
      }

  -- more was read than may be
  pub reading-too_long : {before now after : Streams} {progress progress' : Progress} {count : ℕ} (read bytes extra : List ℕ)
      → IsReading parts Answers before now progress count → now.input.left ≡ read ++ after.input.left → read ≡ bytes ++ extra
      → count + length bytes ≡ most_input → most_input < count + length read
      → Advances parts Answers bytes [] progress progress' now.output after.output → progress'.pending.items ≡ []
      → Stops parts Answers before after TooLong
  reading-too_long {before} {now} {after} read bytes extra reading moved split full more advances none =
      let counted = reading.counted in
      let bytes_taken : List ℕ = reading.taken ++ bytes in
      let whole : before.input.left ≡ bytes_taken ++ (extra ++ after.input.left) =
      reading.takes ∙ ap (λ l. reading.taken ++ l) (moved ∙ ap (λ r. r ++ after.input.left) split ∙ append_assoc bytes extra after.input.left)
      ∙ sym (append_assoc reading.taken bytes (extra ++ after.input.left)) in
      let size : most_input ≡ length bytes_taken = omega (arith, counted, full, length-append reading.taken bytes) in
      let most_taken : take most_input before.input.left ≡ bytes_taken =
      ap (λ n. take n before.input.left) size ∙ ap (λ b. take (length bytes_taken) b) whole ∙ take-append_seam bytes_taken (extra ++ after.input.left) in
      record {
        taken = reading.taken ++ read;
        takes = reading.takes ∙ ap (λ l. reading.taken ++ l) moved ∙ sym (append_assoc reading.taken read after.input.left);
        means = (
          omega (arith, counted, more, length-append reading.taken read),
          subst (λ b. EndedAnswered parts Answers b before after) (sym most_taken)
              (ended-answered before after (advances-append reading.advances advances) reading.fresh none),
        );
      }

  -- the input failed
  pub reading-failed : {before now : Streams} {progress : Progress} {count : ℕ} (input : SourceState)
      → IsReading parts Answers before now progress count → input.left ≡ now.input.left → count ≤ most_input → progress.pending.items ≡ []
      → Stops parts Answers before (streams input now.output) Input
  reading-failed {before} {now} input reading kept short none =
      let counted = reading.counted in
      record {
        taken = reading.taken;
        takes = reading.takes ∙ ap (λ l. reading.taken ++ l) (sym kept);
        means = (omega (arith, counted, short), ended-answered before (streams input now.output) reading.advances reading.fresh none);
      }

  -- all was read
  all-read : {before now : Streams} {progress : Progress} {count : ℕ} (reading : IsReading parts Answers before now progress count)
      → now.input.left ≡ [] → before.input.left ≡ reading.taken
  all-read reading none = reading.takes ∙ ap (λ l. reading.taken ++ l) none ∙ append-nil reading.taken

  -- all was answered
  pub reading-answered : {before now after : Streams} {progress progress' : Progress} {count : ℕ}
      → IsReading parts Answers before now progress count → now.input.left ≡ [] → after.input.left ≡ [] → count ≤ most_input
      → LineEnds parts Answers progress.line.items progress progress' now.output after.output → progress'.pending.items ≡ []
      → AllAnswered parts Answers before after
  reading-answered {before} {now} {after} {progress} reading none left short ends sent =
      let advances = reading.advances in
      let counted = reading.counted in
      let is = all-read reading none in
      record {
        ended = left;
        short = omega (arith, counted, short, ap length is);
        lines = advances.lines;
        last = progress.line.items;
        cuts = record {
          whole = is ∙ from-fresh reading.taken _ reading.fresh (advances.whole ∙ ap (λ l. ended advances.lines ++ l) (append-nil progress.line.items));
          each = advances.each;
          open_line = advances.open_line;
        };
        given = advances.given ++ ends.given;
        answered = gives-next parts Answers advances.lines progress.line.items advances.given ends.given advances.answered ends.answered;
        sent = all-sent (pending-then advances.pending ends.pending) reading.fresh.pending sent;
      }

  -- the bytes with a newline behind them, which isn't taken yet
  one-more : {bytes : List ℕ} {start progress : Progress} {a b : SinkState} → Advances parts Answers bytes [] start progress a b
      → Advances parts Answers (bytes ++ newline ∷ []) (newline ∷ []) start progress a b
  one-more {bytes} {start} {progress} advances = record {
    lines = advances.lines;
    whole = sym (append_assoc start.line.items bytes (newline ∷ [])) ∙ ap (λ w. w ++ newline ∷ []) advances.whole
        ∙ append_assoc (ended advances.lines) (progress.line.items ++ []) (newline ∷ [])
        ∙ ap (λ l. ended advances.lines ++ (l ++ newline ∷ [])) (append-nil progress.line.items);
    each = advances.each;
    open_line = advances.open_line;
    number = advances.number;
    given = advances.given;
    answered = advances.answered;
    pending = advances.pending;
  }

  last-front : {before now after : Streams} {progress : Progress} {count : ℕ} → IsReading parts Answers before now progress count
      → now.input.left ≡ [] → LineFront parts Answers progress.line.items progress.pending.items now.output after.output
      → FrontAnswered parts Answers before after
  last-front {before} {now} {after} {progress} reading none front =
      front-answered [] before after reading.fresh
      (ap (λ i. i ++ newline ∷ []) (all-read reading none) ∙ sym (append-nil (reading.taken ++ newline ∷ [])))
      (advances-line_front [] [] (one-more reading.advances) refl tt
      (subst (λ l. LineFront parts Answers l progress.pending.items now.output after.output) (sym (append-nil progress.line.items)) front))

  last-refused : {before now after : Streams} {progress : Progress} {count number : ℕ} {fault : WordError}
      → (reading : IsReading parts Answers before now progress count) → now.input.left ≡ [] → count ≤ most_input
      → LineRefused parts progress.line.items progress.number progress.pending.items now.output after.output number fault
      → RefusedAt parts Answers number fault reading.taken before after
  last-refused {before} {now} {after} {progress} reading none short refused =
      let advances = reading.advances in
      let counted = reading.counted in
      let front : List ℕ = ended advances.lines ++ progress.line.items in
      let is : reading.taken ≡ front =
      from-fresh reading.taken _ reading.fresh (advances.whole ∙ ap (λ l. ended advances.lines ++ l) (append-nil progress.line.items)) in
      let size = ap length is in
      record {
        refused = record {
          lines = advances.lines;
          line = progress.line.items;
          behind = [];
          whole = all-read reading none ∙ is ∙ sym (append-nil front);
          each = advances.each;
          one = advances.open_line;
          ends = omega (arith, counted, short, size);
          counted = let this = refused.counted in let before_it = advances.number in let zero_lines = reading.fresh.number in
              omega (arith, this, before_it, zero_lines);
          given = advances.given;
          answered = advances.answered;
          faulty = refused.faulty;
        };
        seen = omega (arith, size);
        sent = refused.sent ∙ ap (λ w. w ++ progress.pending.items) advances.pending.appended
            ∙ append_assoc before.output.written advances.pending.sent progress.pending.items
            ∙ ap (λ h. before.output.written ++ h) (sym advances.pending.held ∙ ap (λ p. p ++ advances.given) reading.fresh.pending);
      }

  last-means : {before now : Streams} {progress : Progress} {count : ℕ} (after : Streams) (stop : Stop)
      → (reading : IsReading parts Answers before now progress count) → now.input.left ≡ [] → count ≤ most_input
      → LineStops parts Answers progress.line.items progress.number progress.pending.items now.output after.output stop
      → StopMeans parts Answers reading.taken before after stop
  last-means after (Refused number fault) reading none short stops = last-refused reading none short stops
  last-means after Output reading none short stops = last-front reading none stops
  last-means after Memory reading none short stops = last-front reading none stops
  last-means after TooLong reading none short stops = absurd stops
  last-means after Input reading none short stops = absurd stops

  -- the last line stops the answers
  pub last-stops : {before now after : Streams} {progress : Progress} {count : ℕ} (stop : Stop)
      → IsReading parts Answers before now progress count → now.input.left ≡ [] → after.input.left ≡ [] → count ≤ most_input
      → LineStops parts Answers progress.line.items progress.number progress.pending.items now.output after.output stop
      → Stops parts Answers before after stop
  last-stops {before} {now} {after} stop reading none left short stops = record {
    taken = reading.taken;
    takes = reading.takes ∙ ap (λ l. reading.taken ++ l) (none ∙ sym left);
    means = last-means after stop reading none short stops;
  }
