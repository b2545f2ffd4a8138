-- What a run of `selftest` means by its status.
use Rattle.std.specs.Prelude.{◌≡◌, ℕ, ◌⊎◌, List, [], ◌∷◌, ◌++◌, length, codes, decimal, Some}
use Rattle.kb_io.specs.Bytes.{newline}
use Rattle.kb_io.specs.Outside.{Outside, IsUnchanged}
use Rattle.kb_word.specs.Words.{Pair}
use Rattle.kb_machine.specs.declared.line.Line.{Line}
use Rattle.kb_fsa.specs.Language.{Automaton}
use Rattle.kb_task.specs.Effects.{Writes, WritesFront}
use Rattle.kb_task.specs.Limits.{undecided_line, undecided_words_line}
use Rattle.kb_task.specs.Promises.{Promise}
use Rattle.kb_task.specs.Statuses.{AnswersYesOrLimit}
use Rattle.kb_task.specs.declared.status.Construction.TheVariants.{Acceptor}
use Rattle.kb_task.specs.declared.status.Limit.TheVariants.{States}
use Rattle.kb_task.specs.declared.status.Status.{Status}
use Rattle.kb_task.specs.declared.status.Status.TheVariants.{Yes, Undecided, Memory, Fault}
use Rattle.kb_task.specs.declared.status.Which.TheVariants.{Output}
use Rattle.kb_system.specs.Ended.{IsCompletionWithin}
use Rattle.kb_system.specs.Evidence.{IsHalted, IsTooLarge}
use Rattle.kb_system.specs.declared.ending.Halted.{Halted}
use Rattle.kb_system.specs.declared.ending.Reached.{Reached}
use Rattle.kb_evidence.specs.Files.{log_text, limit_of}
use Rattle.kb_evidence.specs.Settled.{IsYesOrStates}
use Rattle.kb_cmd_completion.specs.FreeAbelian.{free_abelian}
use Rattle.kb_cmd_completion.specs.Given.{SelfTestGiven}
use Rattle.kb_cmd_completion.specs.declared.selftest.Report.{Report}

-- `selftest N: rules R, acceptor states S`
abbrev pub summary_line : ℕ → ℕ → ℕ → List ℕ
summary_line rank rules states =
    codes "selftest "
    ++ (decimal rank ++ (codes ": rules " ++ (decimal rules ++ (codes ", acceptor states "
    ++ (decimal states ++ newline ∷ [])))))

-- what is written about the free abelian group of the rank, by how its completion ended
pub data Reports (given : SelfTestGiven) : Status → List ℕ → Type 0 where
  completed : {rules : List Pair} {acceptor : Automaton}
      → IsCompletionWithin given.limits (free_abelian given.rank) rules acceptor
      → Reports given Yes (summary_line given.rank (length rules) (length acceptor.table.rows))
  halted : {lines : List Line} {waiting : Line} {rules : List Pair} {reached : Reached}
      → IsHalted given.limits (free_abelian given.rank) lines waiting rules reached
      → Reports given (Undecided (limit_of reached))
      (log_text (free_abelian given.rank).names lines (Some waiting)
      ++ undecided_words_line (free_abelian given.rank).names (limit_of reached)
      waiting.left waiting.right)
  too_large : {lines : List Line} {rules : List Pair}
      → IsTooLarge given.limits (free_abelian given.rank) lines rules
      → Reports given (Undecided (States Acceptor))
      (undecided_line (free_abelian given.rank).names (States Acceptor))

-- the report of a completion that was asked for
abbrev pub IsReport : SelfTestGiven → Report → Type 0
IsReport given report = Reports given report.status report.text.items

-- the report of a completion with so many rules and states
pub record IsCompletedReport (rank rules states : ℕ) (report : Report) : Type 0 where
  pub status : report.status ≡ Yes
  pub text : report.text.items ≡ summary_line rank rules states

-- the report of a completion that halted: its log, and the line of the limit with the words that wait
pub record IsHaltedReport (names : List (List ℕ)) (halted : Halted)
    (report : Report) : Type 0 where
  pub status : report.status ≡ Undecided (limit_of halted.reached)
  pub text : report.text.items ≡ log_text names halted.lines.items (Some halted.waiting)
      ++ undecided_words_line names (limit_of halted.reached) halted.waiting.left
      halted.waiting.right

-- the report of a completion whose acceptor would be too large
pub record IsTooLargeReport (names : List (List ℕ)) (report : Report) : Type 0 where
  pub status : report.status ≡ Undecided (States Acceptor)
  pub text : report.text.items ≡ undecided_line names (States Acceptor)

-- What each status means: what it reports was written; or the output failed after a front of a report.
abbrev pub SelfTestMeans : SelfTestGiven → Outside → Outside → Status → Type 0
SelfTestMeans given before after Yes =
    (bytes : List ℕ) × Reports given Yes bytes × Writes bytes before after
SelfTestMeans given before after (Undecided limit) =
    (bytes : List ℕ) × Reports given (Undecided limit) bytes × Writes bytes before after
SelfTestMeans given before after (Fault Output) =
    (status : Status) × (bytes : List ℕ) × Reports given status bytes
    × WritesFront bytes before after
SelfTestMeans given before after Memory =
    IsUnchanged before after
    ⊎ ((status : Status) × (bytes : List ℕ) × Reports given status bytes
    × WritesFront bytes before after)
SelfTestMeans given before after _ = ⊥

-- Nothing is stored or read. Another of the same rank is the same but for its workers and its limits.
abbrev pub selftest_promise : SelfTestGiven → Promise SelfTestGiven
selftest_promise given = record {
  means = SelfTestMeans given;
  may_store = λ name. ⊥;
  settled_stores = λ name. ⊥;
  reads = λ name. ⊥;
  refuses = λ before name fault. ⊥;
  is_unrefused = λ before. Unit {0};
  answers = AnswersYesOrLimit;
  settles = IsYesOrStates;
  differs_in_options = λ other. given.rank ≡ other.rank;
}
