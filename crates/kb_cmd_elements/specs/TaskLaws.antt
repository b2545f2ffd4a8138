-- The laws of the commands of the family, from those of each.
use Rattle.kb_task.specs.PromiseLaws.{in_family-lawful}
use Rattle.kb_task.specs.Promises.{IsLawful}
use Rattle.kb_cmd_elements.specs.BallLaws.{ball_lawful}
use Rattle.kb_cmd_elements.specs.KbcosLaws.{kbcos_lawful}
use Rattle.kb_cmd_elements.specs.Tasks.{elements_promise}
use Rattle.kb_cmd_elements.specs.declared.task.ElementsTask.{ElementsTask}
use Rattle.kb_cmd_elements.specs.declared.task.ElementsTask.TheVariants as tasks

pub elements_lawful : (task : ElementsTask)
    → IsLawful elements_promise (elements_promise task)
elements_lawful (tasks.Ball task) =
    in_family-lawful tasks.Ball (λ it before after status means. means) (ball_lawful task)
elements_lawful (tasks.Kbcos task) =
    in_family-lawful tasks.Kbcos (λ it before after status means. means) (kbcos_lawful task)
