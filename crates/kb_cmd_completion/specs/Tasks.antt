-- What each command of completion promises.
use Rattle.kb_task.specs.Promises.{Promise, in_family}
use Rattle.kb_cmd_completion.specs.Kbprog.{kbprog_promise}
use Rattle.kb_cmd_completion.specs.Logread.{logread_promise}
use Rattle.kb_cmd_completion.specs.SelfTest.{selftest_promise}
use Rattle.kb_cmd_completion.specs.declared.task.CompletionTask.{CompletionTask}
use Rattle.kb_cmd_completion.specs.declared.task.CompletionTask.TheVariants.{Kbprog, Logread, SelfTest}

abbrev pub completion_promise : CompletionTask → Promise CompletionTask
completion_promise (Kbprog task) = in_family Kbprog (kbprog_promise task)
completion_promise (Logread task) = in_family Logread (logread_promise task)
completion_promise (SelfTest task) = in_family SelfTest (selftest_promise task)
