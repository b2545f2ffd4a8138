use Rattle.kb_presprint.proofs.ReadPresentations.{read_printable}
use Rattle.kb_presprint.proofs.laws.a_presentation_that_is_read_can_be_written.Goals as goal

pub returns-clause-printable : goal.returns-clause-printable
returns-clause-printable c bytes parts rules says presents =
    let printed = c.what_is_read_can_be_printed.ensures bytes says.text says.formed in
    read_printable says.text.fields parts rules printed.2 says.holds presents

pub returns-clause-names : goal.returns-clause-names
returns-clause-names c bytes parts says = says.holds.names
