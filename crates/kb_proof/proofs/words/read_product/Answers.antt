use Rattle.std.proofs.Common.{[], ℕ, List, length, sym, subst, Some}
use Rattle.kb_word.specs.Printed.{letter_name}
use Rattle.kb_proof.specs.Reading.{ReadsJoined, parts}
use Rattle.kb_proof.proofs.PartLemmas.{parted_stuck, parted_end}
use Rattle.kb_proof.proofs.TextLemmas.{IsLetter, word_parts}
use Rattle.kb_proof.proofs.words.read_product.Goals as goal

pub returns-in_default-letter_named : goal.returns-in_default-letter_named
returns-in_default-letter_named c =
    let names = c.args.names.now in
    parted_stuck 42 (letter_name names) (IsLetter (length names)) c.args.bytes.now c.loop-name.word c.loop-name.rest.now c.in-Some.name.now (parts 42 c.in-Some.behind.now)
    c.loop-name.invariant (c.in-Some.ensures.cut).first c.in_default-letter_named.ensures (word_parts names c.requires)

pub returns-in_default-letter_named-2 : goal.returns-in_default-letter_named-2
returns-in_default-letter_named-2 c =
    let names = c.args.names.now in
    parted_stuck 42 (letter_name names) (IsLetter (length names)) c.args.bytes.now c.loop-name.word c.loop-name.rest.now c.loop-name.rest.now []
    c.loop-name.invariant c.in_default.ensures.none c.in_default-letter_named-2.ensures (word_parts names c.requires)

pub returns : goal.returns
returns c =
    let names = c.args.names.now in
    let read = c.in-Some-letter_named-2.ensures in
    let P : List ℕ → Type 0 = λ word. ReadsJoined 42 (letter_name names) (IsLetter (length names)) c.args.bytes.now (Some word) in
    subst P (sym c.in_ok-push-2.ensures.ok)
    (parted_end 42 (letter_name names) (IsLetter (length names)) c.args.bytes.now c.loop-name.word c.loop-name.rest.now c.in-Some-letter_named-2.letter
    c.loop-name.invariant c.in_default.ensures.none read.0 read.1)
