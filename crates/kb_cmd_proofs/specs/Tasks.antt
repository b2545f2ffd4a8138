-- What each command about proofs promises.
use Rattle.kb_task.specs.Promises.{Promise, in_family}
use Rattle.kb_cmd_proofs.specs.Kbcertify.{kbcertify_promise}
use Rattle.kb_cmd_proofs.specs.Kbverify.{kbverify_promise}
use Rattle.kb_cmd_proofs.specs.declared.task.ProofsTask.{ProofsTask}
use Rattle.kb_cmd_proofs.specs.declared.task.ProofsTask.TheVariants.{Kbcertify, Kbverify}

abbrev pub proofs_promise : ProofsTask → Promise ProofsTask
proofs_promise (Kbverify task) = in_family Kbverify (kbverify_promise task)
proofs_promise (Kbcertify task) = in_family Kbcertify (kbcertify_promise task)
