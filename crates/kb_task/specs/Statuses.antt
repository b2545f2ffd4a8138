-- How a run ends.
use Rattle.std.specs.Prelude.{◌≡◌, ℕ, Option, Some, None}
use Rattle.kb_task.specs.declared.status.Status.{Status}
use Rattle.kb_task.specs.declared.status.Status.TheVariants.{Yes, Refused, Undecided, No, Memory, Fault, Usage}
use Rattle.kb_task.specs.declared.status.Which.{Which}

-- the exit status of the program
abbrev pub exit_of : Status → ℕ
exit_of Yes = 0
exit_of (Refused refusal) = 1
exit_of (Undecided limit) = 2
exit_of (No cert) = 3
exit_of Memory = 4
exit_of (Fault which) = 5
exit_of (Usage kind) = 6

-- the device whose failure ended the run
abbrev pub fault_of : Status → Option Which
fault_of (Fault which) = Some which
fault_of _ = None

-- no failure of a device ended the run
abbrev pub IsFaultless : Status → Type 0
IsFaultless status = fault_of status ≡ None

-- the run answered yes
abbrev pub IsYes : Status → Type 0
IsYes Yes = Unit {0}
IsYes _ = ⊥

-- the run answered yes or no, or reached a limit
abbrev pub IsConclusive : Status → Type 0
IsConclusive Yes = Unit {0}
IsConclusive (No cert) = Unit {0}
IsConclusive (Undecided limit) = Unit {0}
IsConclusive _ = ⊥

-- The answers that a command may have, beside want of memory: yes alone, yes or a limit, yes or no, or all three.
abbrev pub AnswersYes : Status → Type 0
AnswersYes Yes = Unit {0}
AnswersYes Memory = Unit {0}
AnswersYes _ = ⊥

abbrev pub AnswersYesOrLimit : Status → Type 0
AnswersYesOrLimit Yes = Unit {0}
AnswersYesOrLimit (Undecided limit) = Unit {0}
AnswersYesOrLimit Memory = Unit {0}
AnswersYesOrLimit _ = ⊥

abbrev pub AnswersYesOrNo : Status → Type 0
AnswersYesOrNo Yes = Unit {0}
AnswersYesOrNo (No cert) = Unit {0}
AnswersYesOrNo Memory = Unit {0}
AnswersYesOrNo _ = ⊥

abbrev pub IsAnswer : Status → Type 0
IsAnswer Yes = Unit {0}
IsAnswer (No cert) = Unit {0}
IsAnswer (Undecided limit) = Unit {0}
IsAnswer Memory = Unit {0}
IsAnswer _ = ⊥
