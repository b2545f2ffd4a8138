-- What a run of `ball` means, from what it means after the load of its file.
use Rattle.std.proofs.Common.{◌≡◌, ◌⊎◌, inl, inr, ℕ, List, length, refl, sym, subst, arith}
use Rattle.std.specs.Prelude.{IsTrue}
use Rattle.std.specs.List.{Contains}
use Rattle.kb_io.specs.Outside.{Outside, outside}
use Rattle.kb_io.specs.States.{ShelfState, SourceState, SinkState, SinkGoesOn}
use Rattle.kb_word.specs.Words.{Pair}
use Rattle.kb_word.specs.Presentations.{PresentationParts, parts_of}
use Rattle.kb_word.specs.Relations.{IsPresentation}
use Rattle.kb_word.specs.Rewriting.{NormalForm}
use Rattle.kb_word.specs.declared.presentation.Presentation.{Presentation}
use Rattle.kb_word.specs.declared.word_order.WordOrder.TheVariants.{ShortLex}
use Rattle.kb_fsa.specs.Language.{Automaton}
use Rattle.kb_reduced.specs.Reduced.{IsCompleteSystem}
use Rattle.kb_system.specs.Completed.{IsLeastIn, below, relations}
use Rattle.kb_system.specs.Ended.{IsCompletionWithin}
use Rattle.kb_task.specs.Loads.{OnlyLoads}
use Rattle.kb_task.specs.Presentations.{HoldsPresentation}
use Rattle.kb_task.specs.Runs.{FaultIsCounted, IsRun}
use Rattle.kb_task.specs.Stores.{Text, names_of}
use Rattle.kb_task.specs.declared.loading.LoadStop.TheVariants as load_stops
use Rattle.kb_task.specs.declared.status.Limit.{Limit}
use Rattle.kb_task.specs.declared.status.Status.{Status}
use Rattle.kb_task.specs.declared.status.Status.TheVariants.{Memory}
use Rattle.kb_task.proofs.EffectLemmas.{unchanged-printed}
use Rattle.kb_task.proofs.RunLemmas.{run-prints, run-after_loads, unchanged-loads}
use Rattle.kb_evidence.specs.Files.{rules_file, log_file}
use Rattle.kb_evidence.specs.Shown.{ShowsLimit}
use Rattle.kb_evidence.proofs.ShownLemmas.{shows_named}
use Rattle.kb_answering.specs.Answers.{AnswersMean}
use Rattle.kb_answering.specs.AnswerLaws.{answers-later}
use Rattle.kb_listing.specs.Asked.{WordsArePrinted}
use Rattle.kb_listing.proofs.PrintLemmas.{only_prints, prints-later}
use Rattle.kb_cmd_elements.specs.Ball.{BallAnswers, BallMeans, ball_may_store, ball_shows, no_files}
use Rattle.kb_cmd_elements.specs.Balls.{BallIsPrinted}
use Rattle.kb_cmd_elements.specs.Given.{BallGiven}
use Rattle.kb_cmd_elements.proofs.BallLemmas.{ball_printed, parts_present}

-- memory ran out before the file was loaded
pub run-unloaded : (given : BallGiven) (shelf : ShelfState) (input : SourceState) (output : SinkState)
    → IsRun (BallMeans given) (ball_may_store given) (outside shelf input output) (outside shelf input output) Memory
run-unloaded given shelf input output =
    run-prints shelf input output output Memory (record { told = refl; faults = omega arith }) tt
    (λ told. inl (record { stop = load_stops.Memory; is = refl; cause = tt }, unchanged-printed shelf input output output refl))

-- memory ran out before anything was printed or stored
pub run-nothing : (given : BallGiven) (parts : PresentationParts) (shelf : ShelfState) (input : SourceState) (output : SinkState)
    → IsRun (BallAnswers given parts) (ball_may_store given) (outside shelf input output) (outside shelf input output) Memory
run-nothing given parts shelf input output =
    run-prints shelf input output output Memory (record { told = refl; faults = omega arith }) tt
    (λ told. inr (inl (unchanged-printed shelf input output output refl)))

-- what is meant from the moment after the load is meant from the one before it
answers-before : (given : BallGiven) (parts : PresentationParts) (shelf loaded : ShelfState) (input : SourceState) (output : SinkState)
    → OnlyLoads shelf loaded → (after : Outside) (status : Status) → BallAnswers given parts (outside loaded input output) after status
    → BallAnswers given parts (outside shelf input output) after status
answers-before given parts shelf loaded input output loads after status (inl (completed, prints)) =
    inl (
      completed,
      prints-later (BallIsPrinted parts given.radius) (outside shelf input output) (outside loaded input output) after status
          (unchanged-loads shelf loaded input output loads) prints,
    )
answers-before given parts shelf loaded input output loads after status (inr limit) =
    inr (answers-later no_files (ball_shows given) parts shelf loaded input output (unchanged-loads shelf loaded input output loads) after status limit)

-- the file was loaded, and holds this presentation by shortlex
pub run-held : (given : BallGiven) (parts : PresentationParts) (shelf loaded : ShelfState) (input : SourceState) (output : SinkState)
    → OnlyLoads shelf loaded → (after : Outside) (status : Status)
    → (IsTrue shelf.told → HoldsPresentation shelf.holds given.file parts) → parts.order ≡ ShortLex
    → IsRun (BallAnswers given parts) (ball_may_store given) (outside loaded input output) after status
    → IsRun (BallMeans given) (ball_may_store given) (outside shelf input output) after status
run-held given parts shelf loaded input output loads after status holds shortlex run =
    run-after_loads shelf loaded input output loads {Then = BallAnswers given parts} after status run (λ name stored. stored)
    (λ told later. inr (parts, holds told.shelf, shortlex, answers-before given parts shelf loaded input output loads after status later))

-- the ball was printed
pub run-printed : (given : BallGiven) (presentation : Presentation) (parts : PresentationParts) → parts_of presentation ≡ parts
    → (rules : List Pair) (acceptor : Automaton) → IsCompletionWithin given.limits parts rules acceptor
    → IsCompleteSystem (below parts) (relations parts) rules → ((w m : List ℕ) → NormalForm rules w m → IsLeastIn parts w m)
    → parts.order ≡ ShortLex
    → (shelf : ShelfState) (input : SourceState) (before after : SinkState) (status : Status)
    → (IsTrue before.told → WordsArePrinted presentation.names acceptor 0 given.radius before.written after.written status)
    → SinkGoesOn before after → FaultIsCounted (outside shelf input before) (outside shelf input after) status
    → IsRun (BallAnswers given parts) (ball_may_store given) (outside shelf input before) (outside shelf input after) status
run-printed given presentation parts same rules acceptor completion complete normal_least shortlex shelf input before after status prints goes_on fault =
    run-prints shelf input before after status goes_on fault (λ told. inl (
      (rules, acceptor, completion),
      only_prints (BallIsPrinted parts given.radius) shelf input before after status (is_ball (prints told.output)),
    ))
  where
    is_ball : WordsArePrinted presentation.names acceptor 0 given.radius before.written after.written status
        → BallIsPrinted parts given.radius before.written after.written status
    is_ball words =
        let P : PresentationParts → Type 0 = λ p. IsPresentation (length p.names) p.order p.names p.inverses p.equations in
        let W : PresentationParts → Type 0 = λ p. WordsArePrinted p.names acceptor 0 given.radius before.written after.written status in
        ball_printed parts (subst P same (parts_present presentation)) rules acceptor completion.completion given.radius complete normal_least shortlex
        before.written after.written status (subst W same words)

-- a limit was shown
pub run-shown : (given : BallGiven) (parts : PresentationParts) (before after : Outside) (status : Status)
    → IsRun (AnswersMean no_files (ball_shows given) parts) (ball_may_store given) before after status
    → IsRun (BallAnswers given parts) (ball_may_store given) before after status
run-shown given parts before after status run = record {
  means = λ told. inr (run.means told);
  fault = run.fault;
  goes_on = run.goes_on;
  files = run.files;
}

named_may : (given : BallGiven) (name : List ℕ) → (log_file given.file ≡ name) ⊎ (rules_file given.file ≡ name) → ball_may_store given name
named_may given name (inl is) = inr (sym is)
named_may given name (inr is) = inl (sym is)

-- the command may store the files that show a limit
pub shows_may : (given : BallGiven) (parts : PresentationParts) (limit : Limit) (texts : List Text) (line : List ℕ)
    → ShowsLimit given.limits given.file parts limit texts line → (name : List ℕ) → Contains (names_of texts) name → ball_may_store given name
shows_may given parts limit texts line shows name here = named_may given name (shows_named given.limits given.file parts limit texts line shows name here)
