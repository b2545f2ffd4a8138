-- Lines of logs, and logs.
use Rattle.std.proofs.Common.{◌≡◌, ◌≢◌, ◌∙◌, ℕ, ◌+◌, ◌^◌, ◌<◌, List, [], ◌∷◌, ◌++◌, length, inl, inr, refl, sym, ap, subst, append_assoc, arith}
use Rattle.std.specs.Prelude.{All, Option, Some, None, IfSome, IfErr, Result, Ok, Err}
use Rattle.kb_machine.specs.declared.line.Line.{Line}
use Rattle.kb_proof.specs.Faults.{HasBodyFault, HasHeaderFault, HasLogFault, IsWrongBody}
use Rattle.kb_proof.specs.Printable.{IsPrintableLine}
use Rattle.kb_proof.specs.Printed.{header, text_of_body, text_of_line, text_of_lines, text_of_log, text_of_open, text_of_waiting}
use Rattle.kb_proof.specs.Reading.{IsLogOf, NoneStandsFirst, StandsFirst}
use Rattle.kb_proof.specs.declared.error.LogError.{LogError}
use Rattle.kb_proof.specs.declared.error.LogError.TheVariants as errors
use Rattle.kb_proof.specs.declared.log.Log.{Log}
use Rattle.kb_proof.specs.declared.log.Version.{Version}
use Rattle.kb_proof.proofs.PrintLemmas.{lines_more}

-- one more line was read
pub lines_read : (version : Version) (names : List (List ℕ)) (body : List ℕ) (lines : List Line) (rest behind : List ℕ) (line : Line) (k : ℕ)
    → body ≡ text_of_lines version names 1 lines ++ rest → StandsFirst version names (text_of_line version names k) rest line behind → k ≡ length lines + 1
    → body ≡ text_of_lines version names 1 (lines ++ line ∷ []) ++ behind
lines_read version names body lines rest behind line k whole first is =
    let text = text_of_lines version names 1 lines in
    let number : 1 + length lines ≡ k = omega (arith, is) in
    let more : text_of_lines version names 1 (lines ++ line ∷ []) ≡ text ++ (text_of_line version names k line ++ 10 ∷ []) =
    lines_more version names 1 lines line ∙ ap (λ m. text ++ (text_of_line version names m line ++ 10 ∷ [])) number in
    whole ∙ (ap (λ l. text ++ l) (first.whole ∙ sym (append_assoc (text_of_line version names k line) (10 ∷ []) behind))
    ∙ (sym (append_assoc text (text_of_line version names k line ++ 10 ∷ []) behind) ∙ ap (λ l. l ++ behind) (sym more)))

if_none_waits : (names : List (List ℕ)) (log : Log) → log.waiting ≡ None → IfSome log.waiting (IsPrintableLine log.version names)
if_none_waits names log none = let P : Option Line → Type 0 = λ o. IfSome o (IsPrintableLine log.version names) in subst P (sym none) tt

-- lines alone are a log
pub log_of_lines : (names : List (List ℕ)) (log : Log) (rest : List ℕ) → log.waiting ≡ None → rest ≡ [] → All (IsPrintableLine log.version names) log.lines.items
    → length log.lines.items < 2 ^ 64 → IsLogOf log.version names (text_of_lines log.version names 1 log.lines.items ++ rest) log
log_of_lines names log rest none empty all few = record {
  same = refl;
  whole = ap (λ l. text_of_lines log.version names 1 log.lines.items ++ l)
      (empty ∙ sym (ap (text_of_waiting log.version names) none));
  printable = record { lines = all; few = few; waiting = if_none_waits names log none };
}

-- lines and a pair that waits are a log
pub log_waits : (names : List (List ℕ)) (log : Log) (rest behind : List ℕ) (line : Line) → log.waiting ≡ Some line
    → StandsFirst log.version names (text_of_open log.version names) rest line behind → behind ≡ [] → All (IsPrintableLine log.version names) log.lines.items
    → length log.lines.items < 2 ^ 64 → IsLogOf log.version names (text_of_lines log.version names 1 log.lines.items ++ rest) log
log_waits names log rest behind line some first empty all few =
    let P : Option Line → Type 0 = λ o. IfSome o (IsPrintableLine log.version names) in record {
      same = refl;
      whole = ap (λ l. text_of_lines log.version names 1 log.lines.items ++ l)
          (first.whole ∙ (ap (λ l. text_of_open log.version names line ++ 10 ∷ l) empty ∙ sym (ap (text_of_waiting log.version names) some)));
      printable = record { lines = all; few = few; waiting = subst P (sym some) first.printable };
    }

-- the next line is wrong
pub wrong_first : (version : Version) (names : List (List ℕ)) (lines : List Line) (rest : List ℕ) (number : ℕ) → All (IsPrintableLine version names) lines → rest ≢ []
    → NoneStandsFirst version names (text_of_line version names (length lines + 1)) rest → NoneStandsFirst version names (text_of_open version names) rest
    → number ≡ length lines + 2 → IsWrongBody version names (text_of_lines version names 1 lines ++ rest) number
wrong_first version names lines rest number all some no_line no_open is = record {
  lines = lines;
  rest = rest;
  printable = all;
  whole = refl;
  wrong = inl (record { some = some; no_line = no_line; no_open = no_open }, is);
}

-- what stands behind the line of a pair that waits is wrong
pub wrong_past : (version : Version) (names : List (List ℕ)) (lines : List Line) (rest behind : List ℕ) (line : Line) (number : ℕ) → All (IsPrintableLine version names) lines
    → StandsFirst version names (text_of_open version names) rest line behind → behind ≢ [] → number ≡ length lines + 3
    → IsWrongBody version names (text_of_lines version names 1 lines ++ rest) number
wrong_past version names lines rest behind line number all first some is = record {
  lines = lines;
  rest = rest;
  printable = all;
  whole = refl;
  wrong = inr (record { line = line; more = behind; printable = first.printable; is_open = first.whole; some = some }, is);
}

-- a header and a body
pub log_whole : (names : List (List ℕ)) (bytes : List ℕ) (version : Version) (body : List ℕ) (log : Log) → bytes ≡ header version ++ body
    → IsLogOf version names body log → bytes ≡ text_of_log names log
log_whole names bytes version body log e h =
    e ∙ (ap (λ b. header version ++ b) h.whole ∙ ap (λ v. header v ++ text_of_body v names log.lines.items log.waiting) (sym h.same))

pub header_fault : (names : List (List ℕ)) (bytes : List ℕ) (error : LogError) → HasHeaderFault bytes error → HasLogFault names bytes error
header_fault names bytes errors.Version h = h
header_fault names bytes (errors.Syntax line) h = inl h
header_fault names bytes errors.Memory h = tt

pub body_fault : (names : List (List ℕ)) (bytes : List ℕ) (version : Version) (body : List ℕ) (error : LogError) → bytes ≡ header version ++ body
    → HasBodyFault version names body error → HasLogFault names bytes error
body_fault names bytes version body errors.Version e h = absurd h
body_fault names bytes version body (errors.Syntax line) e h = inr (version, body, e, h)
body_fault names bytes version body errors.Memory e h = tt

pub if_err : {T E : Type 0} (P Q : E → Type 0) (answer : Result T E) → IfErr answer P → ((x : E) → P x → Q x) → IfErr answer Q
if_err P Q (Ok x) p then = tt
if_err P Q (Err e) p then = then e p
