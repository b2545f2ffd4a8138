-- The laws of the commands about proofs, from those of each.
use Rattle.kb_task.specs.PromiseLaws.{in_family-lawful}
use Rattle.kb_task.specs.Promises.{IsLawful}
use Rattle.kb_cmd_proofs.specs.KbcertifyLaws.{kbcertify_lawful}
use Rattle.kb_cmd_proofs.specs.KbverifyLaws.{kbverify_lawful}
use Rattle.kb_cmd_proofs.specs.Tasks.{proofs_promise}
use Rattle.kb_cmd_proofs.specs.declared.task.ProofsTask.{ProofsTask}
use Rattle.kb_cmd_proofs.specs.declared.task.ProofsTask.TheVariants as tasks

pub proofs_lawful : (task : ProofsTask) → IsLawful proofs_promise (proofs_promise task)
proofs_lawful (tasks.Kbverify task) =
    in_family-lawful tasks.Kbverify (λ t b a s means. means) (kbverify_lawful task)
proofs_lawful (tasks.Kbcertify task) =
    in_family-lawful tasks.Kbcertify (λ t b a s means. means) (kbcertify_lawful task)
