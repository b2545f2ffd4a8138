use Rattle.kb_fsafile.proofs.TextLemmas.{plain_automaton}
use Rattle.kb_fsafile.proofs.reader.automaton_table.Goals as goal

pub returns-in-Plain-clause-automaton : goal.returns-in-Plain-clause-automaton
returns-in-Plain-clause-automaton c =
    plain_automaton c.in-Plain.field-0 c.args.alphabet c.args.read c.in-Plain.is c.requires.generators c.requires.table c.requires.symbols
