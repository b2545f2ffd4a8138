use Rattle.kb_task.proofs.StoredLogs.{parts_present, stored_read}
use Rattle.kb_task.proofs.loading.logs.stored_logs_are_read.Goals as goal

pub returns : goal.returns
returns c files file name parts lines waiting stores =
    let says = stores.presents.says in
    let presents = parts_present says.text.fields parts says.holds in
    let printable = c.a_presentation_that_is_read_can_be_written.ensures.printable stores.presents.bytes parts parts.equations says presents in
    stored_read files file name parts lines waiting stores printable.names
