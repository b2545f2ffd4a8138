-- The first fault of a log, and logs without any.
use Rattle.std.proofs.Common.{◌≡◌, ℕ, suc, ◌+◌, ◌<◌, ◌≤◌, List, [], ◌∷◌, ◌++◌, length, get_or, take, Some, refl, sym, ap, ◌∙◌, subst, arith}
use Rattle.std.specs.Prelude.{slice_get, option_to_list}
use Rattle.std.proofs.lemmas.Option.{slice_get_read, slice_get_within, same_Some}
use Rattle.std.proofs.Math.Seq.{take-length}
use Rattle.kb_word.specs.Words.{Pair}
use Rattle.kb_machine.specs.Justified.{IsJustified}
use Rattle.kb_machine.specs.declared.line.Line.{Line}
use Rattle.kb_proof.specs.Completions.{all_lines}
use Rattle.kb_proof.specs.Checking.{MayStand, MayWait}
use Rattle.kb_proof.specs.Verifying.{HasFault, HasWaitingFault, HasFaultAt, IsFirst, IsFirstFault, IsVerified}
use Rattle.kb_proof.specs.Verifying.HasFaultAt.{of_line, of_waiting}
use Rattle.kb_proof.specs.declared.log.Log.{Log}
use Rattle.kb_proof.specs.declared.verified.Why.{Why}
use Rattle.kb_proof.proofs.Listed.{slice_get_take, take_take, take_with}
use Rattle.kb_proof.proofs.Standing.{justified_with, no_fault, stands_at_index}

-- the fault of a line at an index is that of the one line there
fault_of_line : {below : List ℕ → List ℕ → Type 0} {relations : List Pair} {log : Log} {index : ℕ} {why : Why}
    (line : Line) → slice_get log.lines.items index ≡ Some line → HasFaultAt below relations log index why
    → HasFault below relations (take index log.lines.items) line why
fault_of_line {below = below} {relations = relations} {log = log} {index = index} {why = why} line at (of_line other there fault) =
    let P : Line → Type 0 = λ one. HasFault below relations (take index log.lines.items) one why in
    subst P (same_Some other line (sym there ∙ at)) fault
fault_of_line {log = log} {index = index} line at (of_waiting other end waits fault) =
    let within = slice_get_within log.lines.items index line at in absurd (omega arith)

-- behind the lines the fault is that of the pair that waits
fault_of_waiting : {below : List ℕ → List ℕ → Type 0} {relations : List Pair} {log : Log} {index : ℕ} {why : Why}
    (line : Line) → index ≡ length log.lines.items → log.waiting ≡ Some line
    → HasFaultAt below relations log index why
    → HasWaitingFault below relations log.lines.items line why
fault_of_waiting {log = log} {index = index} line end waits (of_line other there fault) =
    let within = slice_get_within log.lines.items index other there in absurd (omega arith)
fault_of_waiting {below = below} {relations = relations} {log = log} {why = why} line end waits (of_waiting other there is fault) =
    let P : Line → Type 0 = λ one. HasWaitingFault below relations log.lines.items one why in
    subst P (same_Some other line (sym is ∙ waits)) fault

-- no line of a justified front has a fault
no_fault_before : {below : List ℕ → List ℕ → Type 0} {relations : List Pair} {log : Log} {before : ℕ} {why : Why}
    (index : ℕ) → index ≤ length log.lines.items → IsJustified below relations (take index log.lines.items) → before < index
    → HasFaultAt below relations log before why
    → ⊥
no_fault_before {below = below} {relations = relations} {log = log} {before = before} {why = why} index within justified less (of_line line at fault) =
    let lines = log.lines.items in
    let stands = stands_at_index justified before line (slice_get_take lines index before line less at) in
    let P : List Line → Type 0 = λ earlier. MayStand below relations earlier line in
    no_fault (subst P (take_take lines before index (omega arith)) stands) why fault
no_fault_before {before = before} index within justified less (of_waiting line end waits fault) = absurd (omega arith)

-- a line behind a justified front has the first fault of the log
pub line_is_first : {below : List ℕ → List ℕ → Type 0} {relations : List Pair} (log : Log) (index number : ℕ) (line : Line)
    {why : Why}
    → number ≡ suc index → slice_get log.lines.items index ≡ Some line
    → IsJustified below relations (take index log.lines.items)
    → IsFirst (HasFault below relations (take index log.lines.items) line) why
    → IsFirstFault below relations log number why
line_is_first log index number line is at justified first =
    let within = slice_get_within log.lines.items index line at in
    record {
      index = index;
      is_number = is;
      first = record {
        it_holds = of_line line at first.it_holds;
        none_before = λ other less fault. first.none_before other less (fault_of_line line at fault);
      };
      least = λ before other less fault. no_fault_before index (omega arith) justified less fault;
    }

-- so has the pair that waits behind justified lines
pub waiting_is_first : {below : List ℕ → List ℕ → Type 0} {relations : List Pair} (log : Log) (number : ℕ) (line : Line)
    {why : Why}
    → number ≡ suc (length log.lines.items) → log.waiting ≡ Some line
    → IsJustified below relations log.lines.items
    → IsFirst (HasWaitingFault below relations log.lines.items line) why
    → IsFirstFault below relations log number why
waiting_is_first {below = below} {relations = relations} log number line is waits justified first =
    let lines = log.lines.items in
    let P : List Line → Type 0 = λ front. IsJustified below relations front in
    let front = subst P (sym (take-length lines)) justified in
    record {
      index = length lines;
      is_number = is;
      first = record {
        it_holds = of_waiting line refl waits first.it_holds;
        none_before = λ other less fault. first.none_before other less (fault_of_waiting line refl waits fault);
      };
      least = λ before other less fault. no_fault_before (length lines) (omega arith) front less fault;
    }

-- ---- as the check meets them, in a list that is the log's

pub line_found : {below : List ℕ → List ℕ → Type 0} {relations : List Pair} (log : Log) (lines : List Line) (index : ℕ)
    (line : Line) (why : Why)
    → lines ≡ log.lines.items → index < length lines → line ≡ get_or lines index line
    → IsJustified below relations (take index lines) → IsFirst (HasFault below relations (take index lines) line) why
    → IsFirstFault below relations log (index + 1) why
line_found {below = below} {relations = relations} log lines index line why same within is justified first =
    let P : List Line → Type 0 = λ all. slice_get all index ≡ Some line in
    let Q : List Line → Type 0 = λ all. IsJustified below relations (take index all) in
    let R : List Line → Type 0 = λ all. IsFirst (HasFault below relations (take index all) line) why in
    line_is_first log index (index + 1) line (omega arith) (subst P same (slice_get_read lines (length lines) index line refl within is))
    (subst Q same justified) (subst R same first)

-- with a line that may stand, one more is justified
pub justified_next : {below : List ℕ → List ℕ → Type 0} {relations : List Pair} (lines : List Line) (index : ℕ) (line : Line)
    → index < length lines → line ≡ get_or lines index line → IsJustified below relations (take index lines)
    → MayStand below relations (take index lines) line
    → IsJustified below relations (take (index + 1) lines)
justified_next {below = below} {relations = relations} lines index line within is justified may =
    let there = slice_get_read lines (length lines) index line refl within is in
    let P : List Line → Type 0 = λ front. IsJustified below relations front in
    subst P (sym (take_with lines index line within there)) (justified_with justified may)

-- all are, once the last is reached
justified_all : {below : List ℕ → List ℕ → Type 0} {relations : List Pair} (log : Log) (lines : List Line) (index : ℕ)
    → lines ≡ log.lines.items → index ≡ length lines → IsJustified below relations (take index lines)
    → IsJustified below relations log.lines.items
justified_all {below = below} {relations = relations} log lines index same end justified =
    let P : List Line → Type 0 = λ all. IsJustified below relations all in
    let whole : take index lines ≡ log.lines.items = ap (λ n. take n lines) end ∙ take-length lines ∙ same in
    subst P whole justified

pub waiting_found : {below : List ℕ → List ℕ → Type 0} {relations : List Pair} (log : Log) (lines : List Line) (index : ℕ)
    (line : Line) (why : Why)
    → lines ≡ log.lines.items → index ≡ length lines → log.waiting ≡ Some line
    → IsJustified below relations (take index lines) → IsFirst (HasWaitingFault below relations lines line) why
    → IsFirstFault below relations log (length lines + 1) why
waiting_found {below = below} {relations = relations} log lines index line why same end waits justified first =
    let P : List Line → Type 0 = λ all. IsFirst (HasWaitingFault below relations all line) why in
    let long : length lines ≡ length log.lines.items = ap length same in
    waiting_is_first log (length lines + 1) line (omega arith) waits (justified_all log lines index same end justified)
    (subst P same first)

-- justified lines, behind which a pair may wait
pub verified_waiting : {below : List ℕ → List ℕ → Type 0} {relations : List Pair} (log : Log) (line : Line)
    → log.waiting ≡ Some line → IsJustified below relations log.lines.items
    → MayWait below relations log.lines.items line
    → IsVerified below relations log
verified_waiting {below = below} {relations = relations} log line waits justified may =
    let lines = log.lines.items in
    let P : List Line → Type 0 = λ all. IsJustified below relations all in
    let same : all_lines log ≡ lines ++ line ∷ [] = ap (λ waiting. lines ++ option_to_list waiting) waits in
    let Q : Line → Type 0 = λ one. MayWait below relations lines one in
    record {
      justified = subst P (sym same) (justified_with justified may.stands);
      not_shortened = λ other is. let it = subst Q (same_Some line other (sym waits ∙ is)) may in it.not_shortened;
      irreducible = λ other is. let it = subst Q (same_Some line other (sym waits ∙ is)) may in it.irreducible;
    }

pub waiting_verified : {below : List ℕ → List ℕ → Type 0} {relations : List Pair} (log : Log) (lines : List Line) (index : ℕ)
    (line : Line)
    → lines ≡ log.lines.items → index ≡ length lines → log.waiting ≡ Some line
    → IsJustified below relations (take index lines) → MayWait below relations lines line
    → IsVerified below relations log
waiting_verified {below = below} {relations = relations} log lines index line same end waits justified may =
    let P : List Line → Type 0 = λ all. MayWait below relations all line in
    verified_waiting log line waits (justified_all log lines index same end justified) (subst P same may)
