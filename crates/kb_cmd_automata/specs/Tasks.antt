-- What each command on automata promises.
use Rattle.kb_task.specs.Promises.{Promise, in_family}
use Rattle.kb_cmd_automata.specs.Compare.{compare_promise}
use Rattle.kb_cmd_automata.specs.Counted.{count_promise}
use Rattle.kb_cmd_automata.specs.Enumerate.{enumerate_promise}
use Rattle.kb_cmd_automata.specs.Make.{combine_promise, transform_promise, minimise_promise}
use Rattle.kb_cmd_automata.specs.declared.task.AutomataTask.{AutomataTask}
use Rattle.kb_cmd_automata.specs.declared.task.AutomataTask.TheVariants.{Combine, Transform, Minimise, Compare, Enumerate, CountAccepted}

abbrev pub automata_promise : AutomataTask → Promise AutomataTask
automata_promise (Combine task) = in_family Combine (combine_promise task)
automata_promise (Transform task) = in_family Transform (transform_promise task)
automata_promise (Minimise task) = in_family Minimise (minimise_promise task)
automata_promise (Compare task) = in_family Compare (compare_promise task)
automata_promise (Enumerate task) = in_family Enumerate (enumerate_promise task)
automata_promise (CountAccepted task) = in_family CountAccepted (count_promise task)
