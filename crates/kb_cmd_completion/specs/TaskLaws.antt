-- The laws of the commands of completion, from those of each.
use Rattle.kb_task.specs.PromiseLaws.{in_family-lawful}
use Rattle.kb_task.specs.Promises.{IsLawful}
use Rattle.kb_cmd_completion.specs.KbprogLaws.{kbprog_lawful}
use Rattle.kb_cmd_completion.specs.LogreadLaws.{logread_lawful}
use Rattle.kb_cmd_completion.specs.SelfTestLaws.{selftest_lawful}
use Rattle.kb_cmd_completion.specs.Tasks.{completion_promise}
use Rattle.kb_cmd_completion.specs.declared.task.CompletionTask.{CompletionTask}
use Rattle.kb_cmd_completion.specs.declared.task.CompletionTask.TheVariants as tasks

pub completion_lawful : (task : CompletionTask)
    → IsLawful completion_promise (completion_promise task)
completion_lawful (tasks.Kbprog task) =
    in_family-lawful tasks.Kbprog (λ t b a s means. means) (kbprog_lawful task)
completion_lawful (tasks.Logread task) =
    in_family-lawful tasks.Logread (λ t b a s means. means) (logread_lawful task)
completion_lawful (tasks.SelfTest task) =
    in_family-lawful tasks.SelfTest (λ t b a s means. means) (selftest_lawful task)
