-- What a run means, from what its parts mean.
use Rattle.std.proofs.Common.{◌≡◌, ℕ, zero, suc, ◌<◌, ◌≤◌, inl, inr, List, [], ◌∷◌, ◌++◌, length, Option, Some, None, refl, sym, ◌∙◌, ap, subst, arith, length-append}
use Rattle.std.specs.Prelude.{Bool, IsTrue}
use Rattle.kb_io.specs.Bytes.{AppendsPrefix}
use Rattle.kb_io.specs.Outside.{Outside, outside, IsUnchanged}
use Rattle.kb_io.specs.States.{ShelfState, SourceState, SinkState, SinkGoesOn}
use Rattle.kb_word.specs.Words.{Pair, OneOf}
use Rattle.kb_word.specs.WordOrders.{Below}
use Rattle.kb_word.specs.Presentations.{PresentationParts}
use Rattle.kb_word.specs.Relations.{relations_of, inverse_relations, AreOriented, Orients, none_left, equal_sides, repeated, added}
use Rattle.kb_word.proofs.PathLemmas.{congruent_covered}
use Rattle.kb_confluence.specs.Answers.{MatchVerdict}
use Rattle.kb_confluence.specs.FirstApart.{IsCounterexample}
use Rattle.kb_confluence.specs.declared.confluence.Verdict.TheVariants as verdicts
use Rattle.kb_lines.specs.Streams.{Streams, AreTold, StreamsGoOn}
use Rattle.kb_lines.specs.Answered.{AllAnswered, Stops, StopIsCounted}
use Rattle.kb_lines.specs.declared.stop.Stop.{Stop}
use Rattle.kb_lines.specs.declared.stop.Stop.TheVariants as stops
use Rattle.kb_task.specs.Lines.{LineIsWritten}
use Rattle.kb_task.specs.Runs.{FaultIsCounted, IsRun}
use Rattle.kb_task.specs.declared.status.Cert.TheVariants.{NotConfluent}
use Rattle.kb_task.specs.declared.status.Refusal.TheVariants.{Line, InputTooLong}
use Rattle.kb_task.specs.declared.status.Status.{Status}
use Rattle.kb_task.specs.declared.status.Status.TheVariants.{Yes, Refused, No, Memory, Fault}
use Rattle.kb_task.specs.declared.status.Which.TheVariants.{Input, Output}
use Rattle.kb_task.proofs.EffectLemmas.{unchanged-later, writes-later, front-later, writes-printed, front-printed, unchanged-printed}
use Rattle.kb_task.proofs.RunLemmas.{run-prints}
use Rattle.kb_task.specs.Stops.{stop_status}
use Rattle.kb_task.proofs.StopLemmas.{stop-counted}
use Rattle.kb_cmd_words.specs.Confluence.{relations, IsLeastIn, OrientedAreConfluent, OrientedAreNotConfluent, no_line}
use Rattle.kb_cmd_words.specs.ByRelations.{streams_of, AnswersMean, StoresNothing}
use Rattle.kb_cmd_words.specs.WordReduce.{MeansBy}
use Rattle.kb_cmd_words.proofs.OrientLemmas.{rules_covered}

-- ---- how many rules there may be

-- no more inverse relations than places for inverses
inverse_relations-length : (x : ℕ) (inverses : List (Option ℕ)) → length (inverse_relations x inverses) ≤ length inverses
inverse_relations-length x [] = omega arith
inverse_relations-length x (None ∷ rest) = omega (arith, inverse_relations-length (suc x) rest)
inverse_relations-length x (Some y ∷ rest) = omega (arith, inverse_relations-length (suc x) rest)

-- no more rules than relations
orients-length : {below : List ℕ → List ℕ → Type 0} {standing relations rules : List Pair} → Orients below standing relations rules → length rules ≤ length relations
orients-length none_left = omega arith
orients-length (equal_sides more) = omega (arith, orients-length more)
orients-length (repeated orientation stands more) = omega (arith, orients-length more)
orients-length (added orientation new more) = omega (arith, orients-length more)

pub rules-few : (below : List ℕ → List ℕ → Type 0) (inverses : List (Option ℕ)) (equations rules : List Pair) → AreOriented below (relations_of inverses equations) rules
    → length equations ≤ 65535 → length inverses < 65536 → length rules ≤ 2147483648
rules-few below inverses equations rules oriented few generators =
    omega (arith, orients-length oriented, length-append equations (inverse_relations 1 inverses), inverse_relations-length 1 inverses)

-- ---- confluent or not

-- what a no means of the presentation
pub no-refutes : (parts : PresentationParts) (rules : List Pair) (when_yes : Type 0) (i j place : ℕ) (u v : List ℕ)
    → AreOriented (Below parts.order) (relations parts) rules
    → MatchVerdict when_yes rules (verdicts.No i j place u v) → IsCounterexample rules u v → OrientedAreNotConfluent parts u v
no-refutes parts rules when_yes zero j place u v oriented first counterexample = absurd first
no-refutes parts rules when_yes (suc i) zero place u v oriented first counterexample = absurd first
no-refutes parts rules when_yes (suc i) (suc j) place u v oriented first counterexample = record {
  rules = rules;
  oriented = oriented;
  i = i;
  j = j;
  place = place;
  first = first;
  counterexample = counterexample;
  congruent = congruent_covered {allowed = OneOf rules} {others = OneOf (relations parts)} (rules_covered oriented) counterexample.congruent;
}

-- ---- runs

-- what a status means where nothing but loads came before
pub answers-later : (parts : PresentationParts) (one loaded : ShelfState) (input : SourceState) (output : SinkState)
    → IsUnchanged (outside one input output) (outside loaded input output) → (after : Outside) (status : Status)
    → AnswersMean parts (outside loaded input output) after status → AnswersMean parts (outside one input output) after status
answers-later parts one loaded input output same after Yes means = means
answers-later parts one loaded input output same after (No (NotConfluent u v)) means = (means.0, writes-later same means.1)
answers-later parts one loaded input output same after (Refused (Line number fault)) means = means
answers-later parts one loaded input output same after (Refused InputTooLong) means = means
answers-later parts one loaded input output same after (Fault Input) means = means
answers-later parts one loaded input output same after (Fault Output) (inl front) = inl (record {
  u = front.u;
  v = front.v;
  not_confluent = front.not_confluent;
  front = front-later same front.front;
})
answers-later parts one loaded input output same after (Fault Output) (inr stops) = inr stops
answers-later parts one loaded input output same after Memory (inl unchanged) = inl (unchanged-later same unchanged)
answers-later parts one loaded input output same after Memory (inr stops) = inr stops
answers-later parts one loaded input output same after _ means = absurd means

-- a run by what is the same
pub run-same : (by_log other : Bool) (file name : List ℕ) (before after : Outside) (status : Status) → by_log ≡ other → file ≡ name
    → IsRun (MeansBy by_log file) StoresNothing before after status → IsRun (MeansBy other name) StoresNothing before after status
run-same by_log other file name before after status is named run =
    let Named : List ℕ → Type 0 = λ f. IsRun (MeansBy other f) StoresNothing before after status in
    let By : Bool → Type 0 = λ b. IsRun (MeansBy b file) StoresNothing before after status in
    subst Named named (subst By is run)

-- memory ran out before anything was done
pub nothing-run : (parts : PresentationParts) (shelf : ShelfState) (input : SourceState) (output : SinkState)
    → IsRun (AnswersMean parts) StoresNothing (outside shelf input output) (outside shelf input output) Memory
nothing-run parts shelf input output =
    run-prints shelf input output output Memory (record { told = refl; faults = omega arith }) tt
    (λ told. inl (unchanged-printed shelf input output output refl))

-- the line was printed that shows why the rules aren't confluent
line-means : (parts : PresentationParts) (u v line : List ℕ) (shelf : ShelfState) (input : SourceState) (before after : SinkState) (status : Status)
    → OrientedAreNotConfluent parts u v → line ≡ no_line parts.names u v → LineIsWritten line (No (NotConfluent u v)) before after status
    → AnswersMean parts (outside shelf input before) (outside shelf input after) status
line-means parts u v line shelf input before after status refuted is (inl written) =
    subst (λ (s : Status). AnswersMean parts (outside shelf input before) (outside shelf input after) s) (sym written.0)
    (refuted, writes-printed shelf input before after (no_line parts.names u v) (written.1 ∙ ap (λ l. before.written ++ l) is))
line-means parts u v line shelf input before after status refuted is (inr failed) =
    subst (λ (s : Status). AnswersMean parts (outside shelf input before) (outside shelf input after) s) (sym failed.0)
    (inl (record {
      u = u;
      v = v;
      not_confluent = refuted;
      front = front-printed shelf input before after (no_line parts.names u v)
          (subst (λ (l : List ℕ). AppendsPrefix before.written after.written l) is failed.1);
    }))

pub no-run : (parts : PresentationParts) (u v line : List ℕ) (shelf : ShelfState) (input : SourceState) (before after : SinkState) (status : Status)
    → OrientedAreNotConfluent parts u v → line ≡ no_line parts.names u v
    → (IsTrue before.told → LineIsWritten line (No (NotConfluent u v)) before after status)
    → FaultIsCounted (outside shelf input before) (outside shelf input after) status → SinkGoesOn before after
    → IsRun (AnswersMean parts) StoresNothing (outside shelf input before) (outside shelf input after) status
no-run parts u v line shelf input before after status refuted is written fault goes_on =
    run-prints shelf input before after status goes_on fault
    (λ told. line-means parts u v line shelf input before after status refuted is (written told.output))

-- a run on the input and the output
streams-run : (parts : PresentationParts) (shelf : ShelfState) (before after : Streams) (status : Status) → StreamsGoOn before after
    → FaultIsCounted (outside shelf before.input before.output) (outside shelf after.input after.output) status
    → (AreTold before → AnswersMean parts (outside shelf before.input before.output) (outside shelf after.input after.output) status)
    → IsRun (AnswersMean parts) StoresNothing (outside shelf before.input before.output) (outside shelf after.input after.output) status
streams-run parts shelf before after status goes_on fault means = record {
  means = λ told. means (record { input = told.input; output = told.output });
  fault = fault;
  goes_on = record {
    shelf = record { told = refl; load_faults = omega arith; store_faults = omega arith };
    input = goes_on.input;
    output = goes_on.output;
  };
  files = λ name may_not. refl;
}

-- all lines were answered
pub answered-run : (parts : PresentationParts) (shelf : ShelfState) (before after : Streams) → OrientedAreConfluent parts
    → StreamsGoOn before after → (AreTold before → AllAnswered parts (IsLeastIn parts) before after)
    → IsRun (AnswersMean parts) StoresNothing (outside shelf before.input before.output) (outside shelf after.input after.output) Yes
answered-run parts shelf before after confluent goes_on answered =
    streams-run parts shelf before after Yes goes_on tt (λ told. (confluent, answered told))

-- the answers stopped
stop-means : (parts : PresentationParts) (before after : Outside) (stop : Stop) → OrientedAreConfluent parts
    → Stops parts (IsLeastIn parts) (streams_of before) (streams_of after) stop → AnswersMean parts before after (stop_status stop)
stop-means parts before after (stops.Refused number fault) confluent how = (confluent, how)
stop-means parts before after stops.TooLong confluent how = (confluent, how)
stop-means parts before after stops.Input confluent how = (confluent, how)
stop-means parts before after stops.Output confluent how = inr (confluent, how)
stop-means parts before after stops.Memory confluent how = inr (confluent, how)

pub stop-run : (parts : PresentationParts) (shelf : ShelfState) (before after : Streams) (stop : Stop) (status : Status)
    → status ≡ stop_status stop → OrientedAreConfluent parts → StreamsGoOn before after → StopIsCounted before after stop
    → (AreTold before → Stops parts (IsLeastIn parts) before after stop)
    → IsRun (AnswersMean parts) StoresNothing (outside shelf before.input before.output) (outside shelf after.input after.output) status
stop-run parts shelf before after stop status is confluent goes_on counted how =
    subst (λ (s : Status). IsRun (AnswersMean parts) StoresNothing (outside shelf before.input before.output) (outside shelf after.input after.output) s) (sym is)
    (streams-run parts shelf before after (stop_status stop) goes_on
    (stop-counted (outside shelf before.input before.output) (outside shelf after.input after.output) stop counted)
    (λ told. stop-means parts (outside shelf before.input before.output) (outside shelf after.input after.output) stop confluent (how told)))
