-- The laws of the commands on automatic structures, from those of each.
use Rattle.kb_task.specs.PromiseLaws.{in_family-lawful}
use Rattle.kb_task.specs.Promises.{IsLawful}
use Rattle.kb_cmd_structures.specs.AutgroupLaws.{autgroup_lawful}
use Rattle.kb_cmd_structures.specs.GpaxiomsLaws.{gpaxioms_lawful}
use Rattle.kb_cmd_structures.specs.GpminkbLaws.{gpminkb_lawful}
use Rattle.kb_cmd_structures.specs.Tasks.{structures_promise}
use Rattle.kb_cmd_structures.specs.declared.task.StructuresTask.{StructuresTask}
use Rattle.kb_cmd_structures.specs.declared.task.StructuresTask.TheVariants as tasks

pub structures_lawful : (task : StructuresTask)
    → IsLawful structures_promise (structures_promise task)
structures_lawful (tasks.Autgroup task) =
    in_family-lawful tasks.Autgroup (λ t b a s means. means) (autgroup_lawful task)
structures_lawful (tasks.Gpaxioms task) =
    in_family-lawful tasks.Gpaxioms (λ t b a s means. means) (gpaxioms_lawful task)
structures_lawful (tasks.Gpminkb task) =
    in_family-lawful tasks.Gpminkb (λ t b a s means. means) (gpminkb_lawful task)
