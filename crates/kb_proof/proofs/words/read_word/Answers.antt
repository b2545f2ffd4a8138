use Rattle.std.proofs.Common.{rules, ◌≢◌, length}
use Rattle.std.specs.Prelude.{codes}
use Rattle.kb_word.specs.Printed.{letter_name, text_of_word}
use Rattle.kb_word.specs.Relations.{IsOver}
use Rattle.kb_proof.specs.Reading.{Reads, ReadsJoined}
use Rattle.kb_proof.proofs.PartLemmas.{if_ok}
use Rattle.kb_proof.proofs.TextLemmas.{IsLetter, word_read}
use Rattle.kb_proof.proofs.words.read_word.Goals as goal

pub returns : goal.returns
returns c =
    let names = c.args.names.now in
    let bytes = c.args.bytes.now in
    let other : c.args.bytes.now ≢ codes "IdWord" = search rules in
    if_ok (ReadsJoined 42 (letter_name names) (IsLetter (length names)) bytes) (Reads (text_of_word names) (IsOver (length names)) bytes)
    c.read_product.result c.read_product.ensures (λ found read. word_read names bytes found other read)
