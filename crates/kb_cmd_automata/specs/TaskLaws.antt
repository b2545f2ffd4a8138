-- The laws of the commands on automata, from those of each.
use Rattle.kb_task.specs.PromiseLaws.{in_family-lawful}
use Rattle.kb_task.specs.Promises.{IsLawful}
use Rattle.kb_cmd_automata.specs.CompareLaws.{compare_lawful}
use Rattle.kb_cmd_automata.specs.CountedLaws.{count_lawful}
use Rattle.kb_cmd_automata.specs.EnumerateLaws.{enumerate_lawful}
use Rattle.kb_cmd_automata.specs.MakeLaws.{combine_lawful, transform_lawful, minimise_lawful}
use Rattle.kb_cmd_automata.specs.Tasks.{automata_promise}
use Rattle.kb_cmd_automata.specs.declared.task.AutomataTask.{AutomataTask}
use Rattle.kb_cmd_automata.specs.declared.task.AutomataTask.TheVariants as tasks

pub automata_lawful : (task : AutomataTask) → IsLawful automata_promise (automata_promise task)
automata_lawful (tasks.Combine task) =
    in_family-lawful tasks.Combine (λ t b a s means. means) (combine_lawful task)
automata_lawful (tasks.Transform task) =
    in_family-lawful tasks.Transform (λ t b a s means. means) (transform_lawful task)
automata_lawful (tasks.Minimise task) =
    in_family-lawful tasks.Minimise (λ t b a s means. means) (minimise_lawful task)
automata_lawful (tasks.Compare task) =
    in_family-lawful tasks.Compare (λ t b a s means. means) (compare_lawful task)
automata_lawful (tasks.Enumerate task) =
    in_family-lawful tasks.Enumerate (λ t b a s means. means) (enumerate_lawful task)
automata_lawful (tasks.CountAccepted task) =
    in_family-lawful tasks.CountAccepted (λ t b a s means. means) (count_lawful task)
