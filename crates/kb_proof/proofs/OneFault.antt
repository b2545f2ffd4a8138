-- Bytes have one fault at most as the text of a log, want of memory aside.
use Rattle.std.proofs.Common.{◌≡◌, ◌≢◌, ◌∙◌, ◌⊎◌, ℕ, ◌+◌, ◌^◌, ◌<◌, ◌≤◌, inl, inr, List, [], ◌∷◌, ◌++◌, length, decimal, refl, sym, ap, subst, append_assoc, length-append, arith}
use Rattle.std.specs.Prelude.{All, codes}
use Rattle.std.proofs.lemmas.List.{append_cancel_left}
use Rattle.std.proofs.lemmas.List.Elements.{All-head, All-tail}
use Rattle.kb_machine.specs.declared.line.Line.{Line}
use Rattle.kb_proof.specs.Faults.{BeginsWrong, GoesOnPastOpen, HasLogFault, IsWrongBehind, IsWrongBody, NamesOtherVersion}
use Rattle.kb_proof.specs.Printable.{AreReadableNames, IsPrintableLine}
use Rattle.kb_proof.specs.Printed.{header, text_of_line, text_of_lines}
use Rattle.kb_proof.specs.declared.error.LogError.{LogError}
use Rattle.kb_proof.specs.declared.error.LogError.TheVariants as errors
use Rattle.kb_proof.specs.declared.log.Version.{Version}
use Rattle.kb_proof.proofs.FaultLemmas.{header_right}
use Rattle.kb_proof.proofs.SameLemmas.{front_same, not_open, numbered_cut, open_cut, version_same}

module _ (version : Version) (names : List (List ℕ)) (are : AreReadableNames names) where
  -- from line k on something is wrong, at the line with this number in the file
  abbrev IsWrongFrom : ℕ → List ℕ → ℕ → Type 0
  IsWrongFrom k rest number =
      (BeginsWrong version names k rest × (number ≡ k + 1)) ⊎ (GoesOnPastOpen version names rest × (number ≡ k + 2))

  wrong_later : (j k : ℕ) (rest : List ℕ) (number : ℕ) → j ≡ k → IsWrongFrom j rest number → IsWrongFrom k rest number
  wrong_later j k rest number same wrong = let P : ℕ → Type 0 = λ l. IsWrongFrom l rest number in subst P same wrong

  -- then no printed line stands there
  not_a_line : (k : ℕ) (rest : List ℕ) (number : ℕ) (line : Line) (more : List ℕ) → k ≤ 2 ^ 64 → IsPrintableLine version names line
      → rest ≡ text_of_line version names k line ++ 10 ∷ more → ¬ IsWrongFrom k rest number
  not_a_line k rest number line more small printable is (inl wrong) = (wrong.0).no_line line more printable is
  not_a_line k rest number line more small printable is (inr wrong) =
      let past = wrong.0 in
      let same = front_same version names (codes "<>") (codes "open") (codes "->") (decimal k) rest past.line past.more line more
      (open_cut version names rest past.line past.more are past.printable past.is_open)
      (numbered_cut version names k rest line more are small printable is) in
      not_open k small same.first_same

  one_number : (k : ℕ) (rest : List ℕ) (m n : ℕ) → IsWrongFrom k rest m → IsWrongFrom k rest n → m ≡ n
  one_number k rest m n (inl a) (inl b) = a.1 ∙ sym b.1
  one_number k rest m n (inr a) (inr b) = a.1 ∙ sym b.1
  one_number k rest m n (inl a) (inr b) = absurd ((a.0).no_open (b.0).line (b.0).more (b.0).printable (b.0).is_open)
  one_number k rest m n (inr a) (inl b) = absurd ((b.0).no_open (a.0).line (a.0).more (a.0).printable (a.0).is_open)

  -- behind printed lines the first wrong one is where it is, however the lines are told
  one_wrong : (k : ℕ) (xs ys : List Line) (r s : List ℕ) (m n : ℕ) → All (IsPrintableLine version names) xs
      → All (IsPrintableLine version names) ys → k + length xs ≤ 2 ^ 64 → k + length ys ≤ 2 ^ 64
      → text_of_lines version names k xs ++ r ≡ text_of_lines version names k ys ++ s
      → IsWrongFrom (k + length xs) r m → IsWrongFrom (k + length ys) s n → m ≡ n
  one_wrong k [] [] r s m n p q few few' e a b =
      let P : List ℕ → Type 0 = λ l. IsWrongFrom (k + length {A = Line} []) l n in
      one_number (k + length {A = Line} []) r m n a (subst P (sym e) b)
  one_wrong k [] (y ∷ ys) r s m n p q few few' e a b =
      let here : k + length {A = Line} [] ≡ k = omega arith in
      absurd (not_a_line k r m y (text_of_lines version names (k + 1) ys ++ s) (omega (arith, few)) (All-head (IsPrintableLine version names) y ys q)
      (e ∙ append_assoc (text_of_line version names k y) (10 ∷ text_of_lines version names (k + 1) ys) s)
      (wrong_later (k + length {A = Line} []) k r m here a))
  one_wrong k (x ∷ xs) [] r s m n p q few few' e a b =
      let here : k + length {A = Line} [] ≡ k = omega arith in
      absurd (not_a_line k s n x (text_of_lines version names (k + 1) xs ++ r) (omega (arith, few')) (All-head (IsPrintableLine version names) x xs p)
      (sym e ∙ append_assoc (text_of_line version names k x) (10 ∷ text_of_lines version names (k + 1) xs) r)
      (wrong_later (k + length {A = Line} []) k s n here b))
  one_wrong k (x ∷ xs) (y ∷ ys) r s m n p q few few' e a b =
      let one = text_of_lines version names (k + 1) xs ++ r in
      let two = text_of_lines version names (k + 1) ys ++ s in
      let bytes = text_of_line version names k x ++ 10 ∷ one in
      let again : text_of_line version names k x ++ 10 ∷ one ≡ text_of_line version names k y ++ 10 ∷ two =
      sym (append_assoc (text_of_line version names k x) (10 ∷ text_of_lines version names (k + 1) xs) r)
      ∙ (e ∙ append_assoc (text_of_line version names k y) (10 ∷ text_of_lines version names (k + 1) ys) s) in
      let small : k ≤ 2 ^ 64 = omega (arith, few) in
      let same = front_same version names (codes "->") (decimal k) (codes "->") (decimal k) bytes x one y two
      (numbered_cut version names k bytes x one are small (All-head (IsPrintableLine version names) x xs p) refl)
      (numbered_cut version names k bytes y two are small (All-head (IsPrintableLine version names) y ys q) again) in
      let more : k + length (x ∷ xs) ≡ k + 1 + length xs = omega arith in
      let more' : k + length (y ∷ ys) ≡ k + 1 + length ys = omega arith in
      one_wrong (k + 1) xs ys r s m n (All-tail (IsPrintableLine version names) x xs p) (All-tail (IsPrintableLine version names) y ys q)
      (omega (arith, few, more)) (omega (arith, few', more')) same.rest_same
      (wrong_later (k + length (x ∷ xs)) (k + 1 + length xs) r m more a) (wrong_later (k + length (y ∷ ys)) (k + 1 + length ys) s n more' b)

  -- each line is a byte at least
  lines_short : (k : ℕ) (xs : List Line) → length xs ≤ length (text_of_lines version names k xs)
  lines_short k [] = omega arith
  lines_short k (x ∷ xs) =
      let rest = lines_short (k + 1) xs in
      let long = length-append (text_of_line version names k x) (10 ∷ text_of_lines version names (k + 1) xs) in
      omega (arith, rest, long)

  wrong_behind : (lines : List Line) (rest : List ℕ) (number : ℕ) → IsWrongBehind version names lines rest number
      → IsWrongFrom (1 + length lines) rest number
  wrong_behind lines rest number (inl wrong) =
      let is = wrong.1 in
      let here : length lines + 1 ≡ 1 + length lines = omega arith in
      wrong_later (length lines + 1) (1 + length lines) rest number here (inl (wrong.0, omega (arith, is)))
  wrong_behind lines rest number (inr wrong) =
      let is = wrong.1 in
      let here : length lines + 1 ≡ 1 + length lines = omega arith in
      wrong_later (length lines + 1) (1 + length lines) rest number here (inr (wrong.0, omega (arith, is)))

  few_lines : (body rest : List ℕ) (lines : List Line) → body ≡ text_of_lines version names 1 lines ++ rest → length body < 2 ^ 64
      → 1 + length lines ≤ 2 ^ 64
  few_lines body rest lines whole few =
      let long : length body ≡ length (text_of_lines version names 1 lines) + length rest =
      ap length whole ∙ length-append (text_of_lines version names 1 lines) rest in
      let short = lines_short 1 lines in
      omega (arith, few, long, short)

  one_body : (body : List ℕ) (m n : ℕ) → length body < 2 ^ 64 → IsWrongBody version names body m → IsWrongBody version names body n → m ≡ n
  one_body body m n few a b =
      one_wrong 1 a.lines b.lines a.rest b.rest m n a.printable b.printable (few_lines body a.rest a.lines a.whole few)
      (few_lines body b.rest b.lines b.whole few) (sym a.whole ∙ b.whole) (wrong_behind a.lines a.rest m a.wrong)
      (wrong_behind b.lines b.rest n b.wrong)

-- the same of whole texts
pub one_fault : (names : List (List ℕ)) (bytes : List ℕ) (one other : LogError) → AreReadableNames names → length bytes < 2 ^ 64
    → one ≢ errors.Memory → other ≢ errors.Memory → HasLogFault names bytes one → HasLogFault names bytes other → one ≡ other
one_fault names bytes errors.Memory other are few some some' a b = absurd (some refl)
one_fault names bytes one errors.Memory are few some some' a b = absurd (some' refl)
one_fault names bytes errors.Version errors.Version are few some some' a b = refl
one_fault names bytes errors.Version (errors.Syntax n) are few some some' a (inl b) = absurd ((b.0).no_other a)
one_fault names bytes errors.Version (errors.Syntax n) are few some some' a (inr b) =
    absurd (header_right b.0 b.1 (subst NamesOtherVersion b.2 a))
one_fault names bytes (errors.Syntax m) errors.Version are few some some' (inl a) b = absurd ((a.0).no_other b)
one_fault names bytes (errors.Syntax m) errors.Version are few some some' (inr a) b =
    absurd (header_right a.0 a.1 (subst NamesOtherVersion a.2 b))
one_fault names bytes (errors.Syntax m) (errors.Syntax n) are few some some' (inl a) (inl b) = ap errors.Syntax (a.1 ∙ sym b.1)
one_fault names bytes (errors.Syntax m) (errors.Syntax n) are few some some' (inl a) (inr b) = absurd ((a.0).no_header b.0 b.1 b.2)
one_fault names bytes (errors.Syntax m) (errors.Syntax n) are few some some' (inr a) (inl b) = absurd ((b.0).no_header a.0 a.1 a.2)
one_fault names bytes (errors.Syntax m) (errors.Syntax n) are few some some' (inr a) (inr b) =
    let same : a.0 ≡ b.0 = version_same a.0 b.0 a.1 b.1 (sym a.2 ∙ b.2) in
    let again : header b.0 ++ a.1 ≡ header b.0 ++ b.1 = ap (λ v. header v ++ a.1) (sym same) ∙ (sym a.2 ∙ b.2) in
    let bodies : a.1 ≡ b.1 = append_cancel_left (header b.0) a.1 b.1 again in
    let P : Version → Type 0 = λ v. IsWrongBody v names a.1 m in
    let Q : List ℕ → Type 0 = λ l. IsWrongBody b.0 names l m in
    let long : length bytes ≡ length (header b.0) + length b.1 = ap length b.2 ∙ length-append (header b.0) b.1 in
    ap errors.Syntax (one_body b.0 names are b.1 m n (omega (arith, few, long)) (subst Q bodies (subst P same a.3)) b.3)
