-- What a run of `selftest` means, from what its parts mean.
use Rattle.std.proofs.Common.{◌≡◌, inl, inr, ℕ, List, [], ◌∷◌, ◌++◌, length, refl, sym, subst, codes, decimal, append_assoc}
use Rattle.std.specs.Prelude.{IsTrue}
use Rattle.kb_io.specs.Bytes.{newline}
use Rattle.kb_io.specs.Outside.{outside}
use Rattle.kb_io.specs.States.{ShelfState, SourceState, SinkState, SinkGoesOn}
use Rattle.kb_word.specs.Words.{Pair}
use Rattle.kb_fsa.specs.Language.{Automaton}
use Rattle.kb_machine.specs.declared.line.Line.{Line}
use Rattle.kb_task.specs.Lines.{LineIsWritten}
use Rattle.kb_task.specs.Runs.{FaultIsCounted, IsRun}
use Rattle.kb_task.specs.Statuses.{IsFaultless}
use Rattle.kb_task.specs.declared.status.Construction.TheVariants.{Acceptor}
use Rattle.kb_task.specs.declared.status.Limit.TheVariants.{States}
use Rattle.kb_task.specs.declared.status.Status.{Status}
use Rattle.kb_task.specs.declared.status.Status.TheVariants.{Yes, Undecided}
use Rattle.kb_task.proofs.EffectLemmas.{writes-printed, front-printed}
use Rattle.kb_task.proofs.RunLemmas.{run-prints}
use Rattle.kb_system.specs.Ended.{IsCompletionWithin}
use Rattle.kb_system.specs.Evidence.{IsHalted, IsTooLarge}
use Rattle.kb_system.specs.declared.ending.Halted.{Halted}
use Rattle.kb_cmd_completion.specs.FreeAbelian.{free_abelian}
use Rattle.kb_cmd_completion.specs.Given.{SelfTestGiven}
use Rattle.kb_cmd_completion.specs.SelfTest.{Reports, completed, halted, too_large, IsReport, summary_line, IsCompletedReport, IsHaltedReport, IsTooLargeReport, SelfTestMeans, selftest_promise}
use Rattle.kb_cmd_completion.specs.declared.selftest.Report.{Report}

-- the line of a completion, made part by part
pub summary-made : (rank rules states r s : ℕ) (begun ranked named counted stated numbered whole : List ℕ) → begun ≡ codes "selftest "
    → r ≡ rank → ranked ≡ begun ++ decimal r → named ≡ ranked ++ codes ": rules " → counted ≡ named ++ decimal rules
    → stated ≡ counted ++ codes ", acceptor states " → s ≡ states → numbered ≡ stated ++ decimal s → whole ≡ numbered ++ newline ∷ []
    → whole ≡ summary_line rank rules states
summary-made rank rules states r s begun ranked named counted stated numbered whole is_begun is_rank is_ranked is_named is_counted is_stated is_states is_numbered is_whole =
    rw (is_whole, is_numbered, is_states, is_stated, is_counted, is_named, is_ranked, is_rank, is_begun) (simp append_assoc)

-- a report is about no failure
pub report_faultless : (given : SelfTestGiven) (status : Status) (bytes : List ℕ) → Reports given status bytes → IsFaultless status
report_faultless given status bytes (completed completion) = refl
report_faultless given status bytes (halted halts) = refl
report_faultless given status bytes (too_large large) = refl

-- ---- reports, by how the completion ended

module _ (given : SelfTestGiven) (report : Report) where
  reported : (status : Status) (bytes : List ℕ) → report.status ≡ status → report.text.items ≡ bytes → Reports given status bytes → IsReport given report
  reported status bytes is text reports =
      subst (λ s. Reports given s report.text.items) (sym is) (subst (λ b. Reports given status b) (sym text) reports)

  pub report-completed : (rank : ℕ) (rules : List Pair) (acceptor : Automaton) → given.rank ≡ rank
      → IsCompletionWithin given.limits (free_abelian rank) rules acceptor
      → IsCompletedReport rank (length rules) (length acceptor.table.rows) report → IsReport given report
  report-completed rank rules acceptor same completion is =
      let own : IsCompletionWithin given.limits (free_abelian given.rank) rules acceptor =
      subst (λ n. IsCompletionWithin given.limits (free_abelian n) rules acceptor) (sym same) completion in
      let own_is : IsCompletedReport given.rank (length rules) (length acceptor.table.rows) report =
      subst (λ n. IsCompletedReport n (length rules) (length acceptor.table.rows) report) (sym same) is in
      reported Yes _ own_is.status own_is.text (completed own)

  pub report-halted : (rank : ℕ) (names : List (List ℕ)) (shown : Halted) → given.rank ≡ rank → names ≡ (free_abelian rank).names
      → IsHalted given.limits (free_abelian rank) shown.lines.items shown.waiting shown.rules.rules shown.reached
      → IsHaltedReport names shown report → IsReport given report
  report-halted rank names shown same named halts is =
      let own : IsHalted given.limits (free_abelian given.rank) shown.lines.items shown.waiting shown.rules.rules shown.reached =
      subst (λ n. IsHalted given.limits (free_abelian n) shown.lines.items shown.waiting shown.rules.rules shown.reached) (sym same) halts in
      let renamed : IsHaltedReport (free_abelian rank).names shown report = subst (λ l. IsHaltedReport l shown report) named is in
      let own_is : IsHaltedReport (free_abelian given.rank).names shown report =
      subst (λ n. IsHaltedReport (free_abelian n).names shown report) (sym same) renamed in
      reported _ _ own_is.status own_is.text (halted own)

  pub report-too_large : (rank : ℕ) (names : List (List ℕ)) (lines : List Line) (rules : List Pair) → given.rank ≡ rank
      → names ≡ (free_abelian rank).names → IsTooLarge given.limits (free_abelian rank) lines rules → IsTooLargeReport names report
      → IsReport given report
  report-too_large rank names lines rules same named large is =
      let own : IsTooLarge given.limits (free_abelian given.rank) lines rules =
      subst (λ n. IsTooLarge given.limits (free_abelian n) lines rules) (sym same) large in
      let renamed : IsTooLargeReport (free_abelian rank).names report = subst (λ l. IsTooLargeReport l report) named is in
      let own_is : IsTooLargeReport (free_abelian given.rank).names report =
      subst (λ n. IsTooLargeReport (free_abelian n).names report) (sym same) renamed in
      reported (Undecided (States Acceptor)) _ own_is.status own_is.text (too_large own)

-- ---- runs

module _ (given : SelfTestGiven) (shelf : ShelfState) (input : SourceState) (before after : SinkState) where
  wrote-means : (status : Status) (bytes : List ℕ) → Reports given status bytes → after.written ≡ before.written ++ bytes
      → SelfTestMeans given (outside shelf input before) (outside shelf input after) status
  wrote-means status bytes (completed completion) written =
      (bytes, completed completion, writes-printed shelf input before after bytes written)
  wrote-means status bytes (halted halts) written = (bytes, halted halts, writes-printed shelf input before after bytes written)
  wrote-means status bytes (too_large large) written = (bytes, too_large large, writes-printed shelf input before after bytes written)

  report-means : (about : Status) (bytes : List ℕ) → Reports given about bytes → (status : Status) → LineIsWritten bytes about before after status
      → SelfTestMeans given (outside shelf input before) (outside shelf input after) status
  report-means about bytes reports status (inl written) =
      subst (λ s. SelfTestMeans given (outside shelf input before) (outside shelf input after) s) (sym written.0) (wrote-means about bytes reports written.1)
  report-means about bytes reports status (inr front) =
      subst (λ s. SelfTestMeans given (outside shelf input before) (outside shelf input after) s) (sym front.0)
      (about, bytes, reports, front-printed shelf input before after bytes front.1)

  -- the report is printed
  pub run-report : (about : Status) (bytes : List ℕ) → Reports given about bytes → (status : Status)
      → (IsTrue before.told → LineIsWritten bytes about before after status)
      → FaultIsCounted (outside shelf input before) (outside shelf input after) status → SinkGoesOn before after
      → IsRun (SelfTestMeans given) (selftest_promise given).may_store (outside shelf input before) (outside shelf input after) status
  run-report about bytes reports status written fault goes_on =
      run-prints {Means = SelfTestMeans given} {MayStore = (selftest_promise given).may_store} shelf input before after status goes_on fault
      (λ told. report-means about bytes reports status (written told.output))
