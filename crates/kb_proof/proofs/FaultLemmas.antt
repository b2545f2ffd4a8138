-- A printed log has no fault.
use Rattle.std.proofs.Common.{◌≡◌, ◌≢◌, ◌∙◌, ℕ, ◌+◌, ◌^◌, ◌<◌, ◌≤◌, inl, inr, List, [], ◌∷◌, ◌++◌, length, decimal, refl, sym, ap, subst, append_assoc, arith}
use Rattle.std.specs.Prelude.{All, IfSome, Option, None, Some, codes}
use Rattle.std.proofs.lemmas.List.{append_cancel_left}
use Rattle.std.proofs.lemmas.List.Elements.{All-from_recursion, All-head, All-tail}
use Rattle.std.specs.List.{AllByRecursion}
use Rattle.kb_machine.specs.declared.line.Line.{Line}
use Rattle.kb_proof.specs.Faults.{BeginsWrong, GoesOnPastOpen, HasLogFault, IsFirstLine, IsOtherVersion, IsWrongBehind, IsWrongBody, NamesOtherVersion}
use Rattle.kb_proof.specs.Printable.{AreReadableNames, IsPrintable, IsPrintableLine}
use Rattle.kb_proof.specs.Printed.{header, text_of_body, text_of_line, text_of_lines, text_of_log, text_of_open, text_of_waiting}
use Rattle.kb_proof.specs.declared.error.LogError.{LogError}
use Rattle.kb_proof.specs.declared.error.LogError.TheVariants as errors
use Rattle.kb_proof.specs.declared.log.Log.{Log}
use Rattle.kb_proof.specs.declared.log.Version.{Version}
use Rattle.kb_proof.specs.declared.log.Version.TheVariants.{One, Two}
use Rattle.kb_proof.proofs.HeaderLemmas.{same_first_line, version_positive}
use Rattle.kb_proof.proofs.TextLemmas.{head_same}
use Rattle.kb_proof.proofs.SameLemmas.{front_same, no_line, not_open, not_waiting, numbered_cut, open_cut, version_same}

-- behind lines that stand at the front of others stand the rest of those
record Behind (version : Version) (names : List (List ℕ)) (k : ℕ) (v : Option Line) (rest : List ℕ) : Type 0 where
  lines : List Line
  printable : All (IsPrintableLine version names) lines
  whole : rest ≡ text_of_lines version names k lines ++ text_of_waiting version names v
  few : k + length lines ≤ 2 ^ 64

moved : (version : Version) (names : List (List ℕ)) (m n : ℕ) (v : Option Line) (rest : List ℕ) → m ≡ n → Behind version names m v rest
    → Behind version names n v rest
moved version names m n v rest e h = let P : ℕ → Type 0 = λ l. Behind version names l v rest in subst P e h

behind : (version : Version) (names : List (List ℕ)) (k : ℕ) (xs ys : List Line) (v : Option Line) (rest : List ℕ) → AreReadableNames names
    → All (IsPrintableLine version names) xs → All (IsPrintableLine version names) ys → IfSome v (IsPrintableLine version names) → k + length ys ≤ 2 ^ 64
    → text_of_lines version names k xs ++ rest ≡ text_of_lines version names k ys ++ text_of_waiting version names v
    → Behind version names (k + length xs) v rest
behind version names k [] ys v rest are a b p few e =
    let same : k ≡ k + length {A = Line} [] = omega arith in
    moved version names k (k + length {A = Line} []) v rest same (record { lines = ys; printable = b; whole = e; few = few })
behind version names k (x ∷ xs) [] v rest are a b p few e =
    let small : k ≤ 2 ^ 64 = omega arith in
    absurd (not_waiting version names v k x (text_of_lines version names (k + 1) xs ++ rest) are small p (All-head (IsPrintableLine version names) x xs a)
    (sym e ∙ append_assoc (text_of_line version names k x) (10 ∷ text_of_lines version names (k + 1) xs) rest))
behind version names k (x ∷ xs) (y ∷ ys) v rest are a b p few e =
    let small : k ≤ 2 ^ 64 = omega arith in
    let one = text_of_lines version names (k + 1) xs ++ rest in
    let two = text_of_lines version names (k + 1) ys ++ text_of_waiting version names v in
    let bytes = text_of_line version names k x ++ 10 ∷ one in
    let again : text_of_line version names k x ++ 10 ∷ one ≡ text_of_line version names k y ++ 10 ∷ two =
    sym (append_assoc (text_of_line version names k x) (10 ∷ text_of_lines version names (k + 1) xs) rest)
    ∙ (e ∙ append_assoc (text_of_line version names k y) (10 ∷ text_of_lines version names (k + 1) ys) (text_of_waiting version names v)) in
    let same = front_same version names (codes "->") (decimal k) (codes "->") (decimal k) bytes x one y two
    (numbered_cut version names k bytes x one are small (All-head (IsPrintableLine version names) x xs a) refl)
    (numbered_cut version names k bytes y two are small (All-head (IsPrintableLine version names) y ys b) again) in
    let number : k + 1 + length xs ≡ k + length (x ∷ xs) = omega arith in
    moved version names (k + 1 + length xs) (k + length (x ∷ xs)) v rest number
    (behind version names (k + 1) xs ys v rest are (All-tail (IsPrintableLine version names) x xs a) (All-tail (IsPrintableLine version names) y ys b) p
    (omega arith) same.rest_same)

-- what is printed does not begin wrong
right_first : (version : Version) (names : List (List ℕ)) (k : ℕ) (xs : List Line) (v : Option Line) (rest : List ℕ) → All (IsPrintableLine version names) xs
    → IfSome v (IsPrintableLine version names) → rest ≡ text_of_lines version names k xs ++ text_of_waiting version names v → ¬ BeginsWrong version names k rest
right_first version names k [] None rest a p e h = h.some e
right_first version names k [] (Some line) rest a p e h = h.no_open line [] p e
right_first version names k (x ∷ xs) v rest a p e h =
    h.no_line x (text_of_lines version names (k + 1) xs ++ text_of_waiting version names v) (All-head (IsPrintableLine version names) x xs a)
    (e ∙ append_assoc (text_of_line version names k x) (10 ∷ text_of_lines version names (k + 1) xs) (text_of_waiting version names v))

-- nor does it go on behind the line of a pair that waits
right_past : (version : Version) (names : List (List ℕ)) (k : ℕ) (xs : List Line) (v : Option Line) (rest : List ℕ) → AreReadableNames names
    → All (IsPrintableLine version names) xs → IfSome v (IsPrintableLine version names) → k + length xs ≤ 2 ^ 64
    → rest ≡ text_of_lines version names k xs ++ text_of_waiting version names v → ¬ GoesOnPastOpen version names rest
right_past version names k [] None rest are a p few e h = no_line (text_of_open version names h.line) h.more (sym e ∙ h.is_open)
right_past version names k [] (Some line) rest are a p few e h =
    let same = front_same version names (codes "<>") (codes "open") (codes "<>") (codes "open") rest h.line h.more line []
    (open_cut version names rest h.line h.more are h.printable h.is_open) (open_cut version names rest line [] are p e) in
    h.some same.rest_same
right_past version names k (x ∷ xs) v rest are a p few e h =
    let small : k ≤ 2 ^ 64 = omega arith in
    let two = text_of_lines version names (k + 1) xs ++ text_of_waiting version names v in
    let same = front_same version names (codes "<>") (codes "open") (codes "->") (decimal k) rest h.line h.more x two
    (open_cut version names rest h.line h.more are h.printable h.is_open)
    (numbered_cut version names k rest x two are small (All-head (IsPrintableLine version names) x xs a)
    (e ∙ append_assoc (text_of_line version names k x) (10 ∷ text_of_lines version names (k + 1) xs) (text_of_waiting version names v))) in
    not_open k small same.first_same

right_behind : (version : Version) (names : List (List ℕ)) (lines : List Line) (v : Option Line) (rest : List ℕ) (number : ℕ) → AreReadableNames names
    → IfSome v (IsPrintableLine version names) → Behind version names (length lines + 1) v rest → ¬ IsWrongBehind version names lines rest number
right_behind version names lines v rest number are p h (inl wrong) =
    right_first version names (length lines + 1) h.lines v rest h.printable p h.whole wrong.0
right_behind version names lines v rest number are p h (inr wrong) =
    right_past version names (length lines + 1) h.lines v rest are h.printable p h.few h.whole wrong.0

body_right : (version : Version) (names : List (List ℕ)) (lines : List Line) (v : Option Line) (number : ℕ) → AreReadableNames names
    → All (IsPrintableLine version names) lines → IfSome v (IsPrintableLine version names) → length lines < 2 ^ 64
    → ¬ IsWrongBody version names (text_of_body version names lines v) number
body_right version names lines v number are a p few h =
    let count : 1 + length h.lines ≡ length h.lines + 1 = omega arith in
    right_behind version names h.lines v h.rest number are p
    (moved version names (1 + length h.lines) (length h.lines + 1) v h.rest count
    (behind version names 1 h.lines lines v h.rest are h.printable a p (omega arith) (sym h.whole))) h.wrong

-- the header's version is one that there is
no_newline : (digit : ℕ) → digit ≢ 10 → AllByRecursion (λ b. b ≢ 10) (107 ∷ 98 ∷ 108 ∷ 111 ∷ 103 ∷ 32 ∷ digit ∷ [])
no_newline digit other = ((λ e. omega (arith, e)), ((λ e. omega (arith, e)), ((λ e. omega (arith, e)), ((λ e. omega (arith, e)), ((λ e. omega (arith, e)), ((λ e. omega (arith, e)), (other, tt)))))))

first_header : (digit : ℕ) (body : List ℕ) → digit ≢ 10 → IsFirstLine ((107 ∷ 98 ∷ 108 ∷ 111 ∷ 103 ∷ 32 ∷ digit ∷ []) ++ 10 ∷ body) (107 ∷ 98 ∷ 108 ∷ 111 ∷ 103 ∷ 32 ∷ digit ∷ [])
first_header digit body other = record {
  whole = All-from_recursion (λ b. b ≢ 10) (107 ∷ 98 ∷ 108 ∷ 111 ∷ 103 ∷ 32 ∷ digit ∷ []) (no_newline digit other);
  ends = inr (body, refl);
}

no_sign : (digit : ℕ) → digit ≢ 45 → (others : List ℕ) → digit ∷ [] ≢ 45 ∷ others
no_sign digit other others e = other (head_same digit 45 [] others e)

pub header_right : (version : Version) (body : List ℕ) → ¬ NamesOtherVersion (header version ++ body)
header_right One body h =
    let line : codes "kblog " ++ h.0 ≡ codes "kblog 1" =
    same_first_line (header One ++ body) (codes "kblog " ++ h.0) (codes "kblog 1") h.1 (first_header 49 body (λ e. omega (arith, e))) in
    let P : List ℕ → Type 0 = λ l. IsOtherVersion l in
    let other = version_positive (49 ∷ []) (no_sign 49 (λ e. omega (arith, e))) (subst P (append_cancel_left (codes "kblog ") h.0 (49 ∷ []) line) h.2) in
    other.1 refl
header_right Two body h =
    let line : codes "kblog " ++ h.0 ≡ codes "kblog 2" =
    same_first_line (header Two ++ body) (codes "kblog " ++ h.0) (codes "kblog 2") h.1 (first_header 50 body (λ e. omega (arith, e))) in
    let P : List ℕ → Type 0 = λ l. IsOtherVersion l in
    let other = version_positive (50 ∷ []) (no_sign 50 (λ e. omega (arith, e))) (subst P (append_cancel_left (codes "kblog ") h.0 (50 ∷ []) line) h.2) in
    other.2 refl

-- a printed text is refused for want of memory only
pub text_right : (names : List (List ℕ)) (version : Version) (lines : List Line) (waiting : Option Line) (error : LogError) → AreReadableNames names
    → All (IsPrintableLine version names) lines → IfSome waiting (IsPrintableLine version names) → length lines < 2 ^ 64
    → HasLogFault names (header version ++ text_of_body version names lines waiting) error → error ≡ errors.Memory
text_right names version lines waiting errors.Memory are a p few h = refl
text_right names version lines waiting errors.Version are a p few h = absurd (header_right version (text_of_body version names lines waiting) h)
text_right names version lines waiting (errors.Syntax line) are a p few (inl h) =
    absurd ((h.0).no_header version (text_of_body version names lines waiting) refl)
text_right names version lines waiting (errors.Syntax line) are a p few (inr h) =
    let body = text_of_body version names lines waiting in
    let same : version ≡ h.0 = version_same version h.0 body h.1 h.2 in
    let again : header h.0 ++ body ≡ header h.0 ++ h.1 = ap (λ v. header v ++ body) (sym same) ∙ h.2 in
    let bodies : h.1 ≡ body = sym (append_cancel_left (header h.0) body h.1 again) in
    let P : Version → Type 0 = λ v. IsWrongBody v names h.1 line in
    let Q : List ℕ → Type 0 = λ l. IsWrongBody version names l line in
    absurd (body_right version names lines waiting line are a p few (subst Q bodies (subst P (sym same) h.3)))

-- so is a printed log
pub log_right : (names : List (List ℕ)) (log : Log) (error : LogError) → AreReadableNames names → IsPrintable names log → HasLogFault names (text_of_log names log) error
    → error ≡ errors.Memory
log_right names log error are a h = text_right names log.version log.lines.items log.waiting error are a.lines a.waiting a.few h
