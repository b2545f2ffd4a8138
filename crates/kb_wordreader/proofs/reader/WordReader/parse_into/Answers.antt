use Rattle.kb_wordreader.proofs.reader.WordReader.parse_into.Goals as goal

pub returns-in-Err-clause-fault : goal.returns-in-Err-clause-fault
returns-in-Err-clause-fault c = c.in-Err.ensures.fault c.args.self.now.presentation.inv
