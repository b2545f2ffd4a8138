-- What each command on automatic structures promises.
use Rattle.kb_task.specs.Promises.{Promise, in_family}
use Rattle.kb_cmd_structures.specs.Autgroup.{autgroup_promise}
use Rattle.kb_cmd_structures.specs.GpaxiomsPromise.{gpaxioms_promise}
use Rattle.kb_cmd_structures.specs.Gpminkb.{gpminkb_promise}
use Rattle.kb_cmd_structures.specs.declared.task.StructuresTask.{StructuresTask}
use Rattle.kb_cmd_structures.specs.declared.task.StructuresTask.TheVariants.{Autgroup, Gpaxioms, Gpminkb}

abbrev pub structures_promise : StructuresTask → Promise StructuresTask
structures_promise (Autgroup task) = in_family Autgroup (autgroup_promise task)
structures_promise (Gpaxioms task) = in_family Gpaxioms (gpaxioms_promise task)
structures_promise (Gpminkb task) = in_family Gpminkb (gpminkb_promise task)
