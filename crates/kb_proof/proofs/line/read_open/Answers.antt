use Rattle.std.proofs.Common.{◌≡◌, ◌++◌, ◌∷◌, [], ℕ, List, arith}
use Rattle.std.specs.Prelude.{codes}
use Rattle.std.specs.List.{join_with_byte}
use Rattle.kb_machine.specs.declared.line.Line.{Line}
use Rattle.kb_proof.specs.Printable.{AreReadableNames, IsPrintableLine}
use Rattle.kb_proof.specs.Printed.{field_texts, listed, text_of_fields}
use Rattle.kb_proof.specs.declared.log.Version.{Version}
use Rattle.kb_proof.proofs.LineLemmas.{LineCut, line_cut, no_newline, reads_no, same_line}
use Rattle.kb_proof.proofs.line.read_open.Goals as goal

cut_of : (version : Version) (names : List (List ℕ)) (bytes : List ℕ) (line : Line) (rest : List ℕ) → AreReadableNames names
    → IsPrintableLine version names line → bytes ≡ join_with_byte 32 (codes "open" ∷ listed version (60 ∷ 62 ∷ []) (field_texts names line)) ++ 10 ∷ rest
    → LineCut version names (60 ∷ 62 ∷ []) (codes "open") bytes line rest
cut_of version names bytes line rest are h e =
    line_cut version names (60 ∷ 62 ∷ []) (codes "open") bytes line rest are h.fits (omega arith, (omega arith, tt))
    (omega arith, (omega arith, (omega arith, (omega arith, tt)))) e

pub returns-in_default-clause-none : goal.returns-in_default-clause-none
returns-in_default-clause-none c = λ line rest h e.
    no_newline c.args.version c.args.names.now (60 ∷ 62 ∷ []) (codes "open") c.args.bytes.now line rest
    (cut_of c.args.version c.args.names.now c.args.bytes.now line rest c.requires h e) c.in_default.ensures.none

pub returns-in_default-2-clause-none : goal.returns-in_default-2-clause-none
returns-in_default-2-clause-none c = λ line rest h e.
    let same = same_line c.args.version c.args.names.now (60 ∷ 62 ∷ []) (codes "open") c.args.bytes.now c.in-Some.text.now c.in-Some.rest.now
    c.in-Some-cut_at.word.now c.in-Some-cut_at.fields.now line rest
    (cut_of c.args.version c.args.names.now c.args.bytes.now line rest c.requires h e)
    (c.in-Some.ensures.cut).first (c.in-Some-cut_at.ensures.cut).first in
    reads_no (text_of_fields c.args.version c.args.names.now (60 ∷ 62 ∷ [])) (IsPrintableLine c.args.version c.args.names.now) c.in-Some-cut_at.fields.now
    c.in_ok-line.field-0 c.in_ok-line.ensures c.in_default-2.is line h same.1
