use Rattle.std.proofs.Common.{◌≡◌, ◌∙◌, ◌++◌, ◌∷◌, [], ℕ, ◌<◌, ◌^◌, List, decimal, sym, true≢false, arith}
use Rattle.std.specs.List.{join_with_byte}
use Rattle.kb_machine.specs.declared.line.Line.{Line}
use Rattle.kb_proof.specs.Printable.{AreReadableNames, IsPrintableLine}
use Rattle.kb_proof.specs.Printed.{field_texts, listed, text_of_fields}
use Rattle.kb_proof.specs.declared.log.Version.{Version}
use Rattle.kb_proof.proofs.Bytes.{from_weaker}
use Rattle.kb_proof.proofs.TextLemmas.{decimal_from}
use Rattle.kb_proof.proofs.LineLemmas.{LineCut, line_cut, no_field, no_newline, reads_no, same_line}
use Rattle.kb_proof.proofs.line.read_line.Goals as goal

cut_of : (version : Version) (names : List (List ℕ)) (k : ℕ) (bytes : List ℕ) (line : Line) (rest : List ℕ) → k < 2 ^ 64 → AreReadableNames names
    → IsPrintableLine version names line → bytes ≡ join_with_byte 32 (decimal k ∷ listed version (45 ∷ 62 ∷ []) (field_texts names line)) ++ 10 ∷ rest
    → LineCut version names (45 ∷ 62 ∷ []) (decimal k) bytes line rest
cut_of version names k bytes line rest small are h e =
    line_cut version names (45 ∷ 62 ∷ []) (decimal k) bytes line rest are h.fits (omega arith, (omega arith, tt))
    (from_weaker 33 48 (decimal k) (omega arith) (decimal_from k small)) e

pub returns-in_default-clause-none : goal.returns-in_default-clause-none
returns-in_default-clause-none c = λ line rest h e.
    no_newline c.args.version c.args.names.now (45 ∷ 62 ∷ []) (decimal c.args.number) c.args.bytes.now line rest
    (cut_of c.args.version c.args.names.now c.args.number c.args.bytes.now line rest (omega (arith, c.ranges.number)) c.requires h e) c.in_default.ensures.none

pub returns-in_default-cut_at-clause-none : goal.returns-in_default-cut_at-clause-none
returns-in_default-cut_at-clause-none c = λ line rest h e.
    no_field c.args.version c.args.names.now (45 ∷ 62 ∷ []) (decimal c.args.number) c.args.bytes.now c.in-Some.text.now c.in-Some.rest.now line rest
    (cut_of c.args.version c.args.names.now c.args.number c.args.bytes.now line rest (omega (arith, c.ranges.number)) c.requires h e)
    (c.in-Some.ensures.cut).first c.in_default-cut_at.ensures.none

pub returns-then-not-is_text_of-clause-none : goal.returns-then-not-is_text_of-clause-none
returns-then-not-is_text_of-clause-none c = λ line rest h e.
    let same = same_line c.args.version c.args.names.now (45 ∷ 62 ∷ []) (decimal c.args.number) c.args.bytes.now c.in-Some.text.now c.in-Some.rest.now
    c.in-Some-cut_at.digits.now c.in-Some-cut_at.fields.now line rest
    (cut_of c.args.version c.args.names.now c.args.number c.args.bytes.now line rest (omega (arith, c.ranges.number)) c.requires h e)
    (c.in-Some.ensures.cut).first (c.in-Some-cut_at.ensures.cut).first in
    true≢false (sym (c.is_text_of.ensures.1 same.0) ∙ c.if-not-is_text_of.true)

pub returns-in_default-2-clause-none : goal.returns-in_default-2-clause-none
returns-in_default-2-clause-none c = λ line rest h e.
    let same = same_line c.args.version c.args.names.now (45 ∷ 62 ∷ []) (decimal c.args.number) c.args.bytes.now c.in-Some.text.now c.in-Some.rest.now
    c.in-Some-cut_at.digits.now c.in-Some-cut_at.fields.now line rest
    (cut_of c.args.version c.args.names.now c.args.number c.args.bytes.now line rest (omega (arith, c.ranges.number)) c.requires h e)
    (c.in-Some.ensures.cut).first (c.in-Some-cut_at.ensures.cut).first in
    reads_no (text_of_fields c.args.version c.args.names.now (45 ∷ 62 ∷ [])) (IsPrintableLine c.args.version c.args.names.now) c.in-Some-cut_at.fields.now
    c.in_ok-line.field-0 c.in_ok-line.ensures c.in_default-2.is line h same.1
