-- Files of the same bytes hold logs that say the same.
use Rattle.std.proofs.Common.{◌≡◌, ◌∙◌, ℕ, List, sym}
use Rattle.kb_word.specs.Names.{AreApart}
use Rattle.kb_proof.specs.Printed.{text_of_log}
use Rattle.kb_proof.specs.Same.{AreSameLogs}
use Rattle.kb_proof.specs.declared.log.Log.{Log}
use Rattle.kb_proof.proofs.SameLemmas.{logs_same}
use Rattle.kb_task.specs.Loads.{Files}
use Rattle.kb_task.specs.Logs.{HoldsLog}
use Rattle.kb_task.proofs.LoadEnds.{same_bytes}

pub one_log_held : {files others : Files} {name : List ℕ} {names : List (List ℕ)} {log other : Log} → AreApart names → files name ≡ others name
    → HoldsLog files name names log → HoldsLog others name names other → AreSameLogs log other
one_log_held {names = names} {log = log} {other = other} apart same first second =
    let texts : text_of_log names log ≡ text_of_log names other = sym first.says ∙ same_bytes same first.held second.held ∙ second.says in
    logs_same names log other first.readable apart first.printable second.printable texts
