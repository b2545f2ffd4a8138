-- What each command of the family promises.
use Rattle.kb_task.specs.Promises.{Promise, in_family}
use Rattle.kb_cmd_elements.specs.Ball.{ball_promise}
use Rattle.kb_cmd_elements.specs.Kbcos.{kbcos_promise}
use Rattle.kb_cmd_elements.specs.declared.task.ElementsTask.{ElementsTask}
use Rattle.kb_cmd_elements.specs.declared.task.ElementsTask.TheVariants.{Ball, Kbcos}

abbrev pub elements_promise : ElementsTask → Promise ElementsTask
elements_promise (Ball task) = in_family Ball (ball_promise task)
elements_promise (Kbcos task) = in_family Kbcos (kbcos_promise task)
