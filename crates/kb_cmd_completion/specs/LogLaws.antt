-- What `logread` says of the logs that a file holds.
use Rattle.std.proofs.Common.{◌≡◌, ◌∙◌, ℕ, inl, inr, Option, Some, None, List, [], ◌∷◌, ◌++◌, length, decimal, refl, sym, ap, codes}
use Rattle.std.proofs.lemmas.Bool.{cases_order}
use Rattle.std.proofs.lemmas.Slice.Zip.{AllZip-long}
use Rattle.kb_io.specs.Bytes.{newline}
use Rattle.kb_word.specs.Names.{AreApart}
use Rattle.kb_machine.specs.declared.line.Line.{Line}
use Rattle.kb_fields.specs.Generators.{AreGeneratorNames}
use Rattle.kb_proof.specs.Printed.{text_of_log, text_of_origin}
use Rattle.kb_proof.specs.Same.{AreSameLines, WaitSame}
use Rattle.kb_proof.specs.declared.log.Log.{Log}
use Rattle.kb_proof.proofs.SameLemmas.{logs_same}
use Rattle.kb_task.specs.Loads.{Files}
use Rattle.kb_task.specs.Logs.{HoldsLog}
use Rattle.kb_task.proofs.LoadEnds.{same_bytes}
use Rattle.kb_cmd_completion.specs.Logread.{logread_line, open_text, version_number}

-- names that generators can have differ
pub names_apart : (names : List (List ℕ)) → AreGeneratorNames names → AreApart names
names_apart names generators place other name at_place at_other = elim (cases_order place other) [
  | inl same ↦ same
  | inr (inl before) ↦ absurd (generators.free name
      (inl (record {
        first = place;
        again = other;
        later = before;
        at_first = at_place;
        at_again =
            at_other;
      })))
  | inr (inr after) ↦ absurd (generators.free name
      (inl (record {
        first = other;
        again = place;
        later = after;
        at_first = at_other;
        at_again =
            at_place;
      })))
]

-- what waits alike is called alike
opens_same : (one other : Option Line) → WaitSame one other → open_text one ≡ open_text other
opens_same None None same = refl
opens_same (Some one) (Some other) same =
    ap (λ origin. codes "open " ++ text_of_origin origin) same.origin
opens_same None (Some other) same = absurd same
opens_same (Some one) None same = absurd same

line_of : ℕ → ℕ → List ℕ → List ℕ
line_of version lines opens =
    codes "log " ++ (decimal
    version ++ (codes ": lines " ++ (decimal lines ++ (codes ", " ++ (opens ++ newline ∷ [])))))

-- files of the same bytes hold logs of which the same is said
pub one_logread : {files others : Files} {name : List ℕ} {names : List (List ℕ)} {log other : Log}
    → AreApart names → files name ≡ others name
    → HoldsLog files name names log → HoldsLog others name names other
    → logread_line log ≡ logread_line other
unfolding line_of
one_logread {names = names} {log = log} {other = other} apart same first second =
    let texts : text_of_log names log ≡ text_of_log names other =
    sym first.says ∙ same_bytes same first.held second.held ∙ second.says in
    let logs = logs_same names log other first.readable apart first.printable
    second.printable texts in
    let count : length log.lines.items ≡ length other.lines.items =
    sym (AllZip-long AreSameLines log.lines.items other.lines.items logs.lines) in
    ap (λ version.
    line_of (version_number version) (length log.lines.items) (open_text log.waiting))
    logs.version
    ∙ ap (λ lines. line_of (version_number other.version) lines (open_text log.waiting)) count
    ∙ ap (λ opens. line_of (version_number other.version) (length other.lines.items) opens)
    (opens_same log.waiting other.waiting logs.waiting)
