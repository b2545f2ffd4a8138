use Rattle.kb_proof.proofs.TextLengths.{few_read}
use Rattle.kb_proof.proofs.reader.read_log.Goals as goal

pub returns-clause-few : goal.returns-clause-few
returns-clause-few c =
    few_read c.in_ok-version.version c.args.presentation.now.names c.args.bytes.now c.in_ok-version.body.now c.read_body.result
    c.in_ok-version.ensures.header c.read_body.ensures.read
