-- The laws of `selftest`.
use Rattle.std.proofs.Common.{◌≡◌, ◌∙◌, ℕ, List, ◌++◌, length, refl, sym, ap, subst}
use Rattle.kb_io.specs.Outside.{Outside}
use Rattle.kb_word.specs.Words.{Pair}
use Rattle.kb_fsa.specs.Language.{Automaton}
use Rattle.kb_task.specs.Promises.{IsLawful}
use Rattle.kb_task.specs.Runs.{HasSameEffect}
use Rattle.kb_task.specs.Statuses.{AnswersYesOrLimit, IsFaultless, IsYes}
use Rattle.kb_task.specs.declared.status.Status.{Status}
use Rattle.kb_task.specs.declared.status.Status.TheVariants.{Yes, Refused, Undecided, No, Memory, Fault, Usage}
use Rattle.kb_evidence.specs.Settled.{IsYesOrStates, CompletesAs, within_limits, too_many_states}
use Rattle.kb_evidence.specs.SettledLaws.{log-no_states, one_end, states-conclusive}
use Rattle.kb_system.specs.Completed.{IsCompletion}
use Rattle.kb_system.specs.OneCompletion.{one_acceptor, one_rules}
use Rattle.kb_cmd_completion.specs.FreeAbelian.{free_abelian}
use Rattle.kb_cmd_completion.specs.Given.{SelfTestGiven}
use Rattle.kb_cmd_completion.specs.SelfTest.{Reports, completed, halted, too_large, summary_line, SelfTestMeans, selftest_promise}

answers : (given : SelfTestGiven) (before after : Outside) (status : Status)
    → SelfTestMeans given before after status
    → (selftest_promise given).is_unrefused before → IsFaultless status → AnswersYesOrLimit status
answers given before after Yes means unrefused faultless = tt
answers given before after (Undecided limit) means unrefused faultless = tt
answers given before after Memory means unrefused faultless = tt
answers given before after (Refused refusal) means unrefused faultless = means
answers given before after (No cert) means unrefused faultless = means
answers given before after (Fault which) means unrefused faultless = cc
answers given before after (Usage kind) means unrefused faultless = means

-- ---- settled

-- a status that is settled is that of a completion that came to its end
reports-complete : (given : SelfTestGiven) (status : Status) (bytes : List ℕ)
    → IsYesOrStates status → Reports given status bytes
    → CompletesAs given.limits (free_abelian given.rank) status
reports-complete given status bytes settled (completed completion) = within_limits completion
reports-complete given status bytes settled (halted {reached = reached} halts) =
    absurd (log-no_states reached settled)
reports-complete given status bytes settled (too_large large) = too_many_states large

completes : (given : SelfTestGiven) (before after : Outside) (status : Status)
    → IsYesOrStates status → SelfTestMeans given before after status
    → CompletesAs given.limits (free_abelian given.rank) status
completes given before after Yes settled means =
    reports-complete given Yes means.0 settled means.1
completes given before after (Undecided limit) settled means =
    reports-complete given (Undecided limit) means.0 settled means.1
completes given before after _ settled means = absurd settled

-- ---- one line

-- the completion that a yes counted
record Counts (rank : ℕ) (bytes : List ℕ) : Type 0 where
  rules : List Pair
  acceptor : Automaton
  completion : IsCompletion (free_abelian rank) rules acceptor
  line : bytes ≡ summary_line rank (length rules) (length acceptor.table.rows)

counts : (given : SelfTestGiven) (status : Status) (bytes : List ℕ) → IsYes status
    → Reports given status bytes → Counts given.rank bytes
counts given status bytes is_yes (completed {rules = rules} {acceptor = acceptor} completion) =
    record { rules = rules; acceptor = acceptor; completion = completion.completion; line = refl }
counts given status bytes is_yes (halted halts) = absurd is_yes
counts given status bytes is_yes (too_large large) = absurd is_yes

-- two completions of one presentation have the same counts
one_line : (rank : ℕ) (bytes others : List ℕ) → Counts rank bytes → Counts rank others
    → bytes ≡ others
one_line rank bytes others one other =
    let rules = one_rules (free_abelian rank) one.completion other.completion in
    let acceptor = one_acceptor (free_abelian rank) one.completion other.completion in
    one.line ∙ ap
    (λ (list : List Pair). summary_line rank (length list) (length one.acceptor.table.rows))
    rules
    ∙ ap (λ (automaton : Automaton).
    summary_line rank (length other.rules) (length automaton.table.rows))
    acceptor ∙ sym other.line

-- what a yes wrote
record Wrote (rank : ℕ) (before after : Outside) : Type 0 where
  bytes : List ℕ
  counted : Counts rank bytes
  written : after.output.written ≡ before.output.written ++ bytes

wrote : (given : SelfTestGiven) (before after : Outside) (status : Status) → IsYes status
    → SelfTestMeans given before after status
    → Wrote given.rank before after
wrote given before after Yes is_yes means =
    record {
      bytes = means.0;
      counted = counts given Yes means.0 tt means.1;
      written =
          means.2.written;
    }
wrote given before after _ is_yes means = absurd is_yes

same_effect : (given : SelfTestGiven) (rank : ℕ) (before after other_before other_after : Outside)
    → Wrote rank before after → Wrote rank other_before other_after
    → HasSameEffect (selftest_promise given).may_store before after other_before other_after
same_effect given rank before after other_before other_after one other =
    record {
      bytes = one.bytes;
      written = one.written;
      other_written = other.written
          ∙ ap (λ bytes. other_before.output.written ++ bytes)
          (one_line rank other.bytes one.bytes other.counted one.counted);
      stored = λ name none. absurd none;
    }

pub selftest_lawful : (given : SelfTestGiven) → IsLawful selftest_promise (selftest_promise given)
selftest_lawful given = record {
  complete = answers given;
  memory = tt;
  refused = λ before after name fault means at_load. means;
  exact = λ have before after status name fault means never faultless. absurd never;
  settled = λ before after other_before other_after status other means others same one also.
      one_end (completes given before after status one means)
      (completes given other_before other_after other also others);
  conclusive = states-conclusive;
  one_function = λ other_given before after other_before other_after status other means others
      is_yes also rank same input.
      same_effect given given.rank before after other_before other_after
      (wrote given before after status is_yes means)
      (subst (λ n. Wrote n other_before other_after) (sym rank)
      (wrote other_given other_before other_after other also others));
}
