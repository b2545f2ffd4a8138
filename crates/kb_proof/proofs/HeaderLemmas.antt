-- First lines, and the numbers of versions.
use Rattle.std.proofs.Common.{◌≡◌, ◌≢◌, ◌∙◌, ℕ, zero, suc, Bool, true, false, eqb, ne_eqb, eq-eqb, inl, inr, ℤ, pos, List, [], ◌∷◌, ◌++◌, refl, sym, ap, subst, arith}
use Rattle.std.proofs.lemmas.Bool.{eqb-false, false≢true}
use Rattle.std.specs.Prelude.{All, IsTrue, codes, not, ◌⊎◌}
use Rattle.std.specs.List.{AllByRecursion, onto_first}
use Rattle.std.proofs.lemmas.List.{append_cancel_left}
use Rattle.std.proofs.lemmas.List.Elements.{All-cons, All-weaker}
use Rattle.std.proofs.lemmas.List.Splits.{slice_split_none, slice_split_at, slice_split-cons_yes, slice_split-cons_no}
use Rattle.kb_lexing.specs.Spelling.{AreDigits, IsDigit, IsNumber, opposite, value_after}
use Rattle.kb_proof.specs.Faults.{AreFewDigits, IsFirstLine, IsOtherVersion, NamesOtherVersion}
use Rattle.kb_proof.specs.Reading.{CutAt, parts}
use Rattle.kb_proof.proofs.PartLemmas.{parts_some}

onto_one : (b : ℕ) (bs : List ℕ) (list : List (List ℕ)) → list ≢ [] → onto_first b list ≡ (b ∷ bs) ∷ [] → list ≡ bs ∷ []
onto_one b bs [] some e = absurd (some refl)
onto_one b bs (part ∷ others) some e = cc

one_by : (c b : ℕ) (bs : List ℕ) (test : Bool) → eqb b c ≡ test → parts c (b ∷ bs) ≡ (b ∷ bs) ∷ [] → (parts c bs ≡ bs ∷ [] → All (λ x. x ≢ c) bs)
    → All (λ x. x ≢ c) (b ∷ bs)
one_by c b bs true is e rest = let one = slice_split-cons_yes (λ y. eqb y c) b bs is in absurd cc
one_by c b bs false is e rest =
    let one = slice_split-cons_no (λ y. eqb y c) b bs is in
    All-cons (λ x. x ≢ c) b bs (eqb-false b c is) (rest (onto_one b bs (parts c bs) (parts_some c bs) (sym one ∙ e)))

-- bytes that are their one part have no separator
pub no_byte : (c : ℕ) (xs : List ℕ) → parts c xs ≡ xs ∷ [] → All (λ b. b ≢ c) xs
no_byte c [] e = λ k d h. absurd (omega (arith, h))
no_byte c (b ∷ bs) e = one_by c b bs (eqb b c) refl e (no_byte c bs)

by_end : (bytes line : List ℕ) → All (λ b. eqb b 10 ≡ false) line → (bytes ≡ line) ⊎ ((rest : List ℕ) × (bytes ≡ line ++ 10 ∷ rest))
    → (others : List (List ℕ)) × (parts 10 bytes ≡ line ∷ others)
by_end bytes line all (inl e) = ([], ap (parts 10) e ∙ slice_split_none (λ b. eqb b 10) line all)
by_end bytes line all (inr e) = (parts 10 e.0, ap (parts 10) e.1 ∙ slice_split_at (λ b. eqb b 10) line 10 e.0 all (eq-eqb 10 10 refl))

-- the first line is the first part between newlines
first_of_parts : (bytes line : List ℕ) → IsFirstLine bytes line → (others : List (List ℕ)) × (parts 10 bytes ≡ line ∷ others)
first_of_parts bytes line h = by_end bytes line (All-weaker (λ b. b ≢ 10) (λ b. eqb b 10 ≡ false) (λ b ne. ne_eqb b 10 ne) line h.whole) h.ends

pub same_first_line : (bytes one other : List ℕ) → IsFirstLine bytes one → IsFirstLine bytes other → one ≡ other
same_first_line bytes one other a b =
    let first = (first_of_parts bytes one a).1 in
    let second = (first_of_parts bytes other b).1 in
    cc

pub first_line_cut : (bytes line back : List ℕ) → CutAt 10 bytes line back → IsFirstLine bytes line
first_line_cut bytes line back cut = record { whole = no_byte 10 line cut.alone; ends = inr (back, cut.whole) }

pub first_line_all : (bytes : List ℕ) → parts 10 bytes ≡ bytes ∷ [] → IsFirstLine bytes bytes
first_line_all bytes none = record { whole = no_byte 10 bytes none; ends = inl refl }

-- the first line names a version exactly where what stands behind `kblog` does
pub names_version : (bytes line number : List ℕ) → IsFirstLine bytes line → line ≡ codes "kblog " ++ number → IsOtherVersion number → NamesOtherVersion bytes
names_version bytes line number first e other = let P : List ℕ → Type 0 = λ l. IsFirstLine bytes l in (number, subst P e first, other)

pub version_named : (bytes line number : List ℕ) → IsFirstLine bytes line → line ≡ codes "kblog " ++ number → NamesOtherVersion bytes → IsOtherVersion number
version_named bytes line number first e named =
    let P : List ℕ → Type 0 = λ l. IsOtherVersion l in
    subst P (append_cancel_left (codes "kblog ") named.0 number (sym (same_first_line bytes line (codes "kblog " ++ named.0) first named.1) ∙ e)) named.2

pub none_named : (bytes line : List ℕ) → IsFirstLine bytes line → ((rest : List ℕ) → line ≢ codes "kblog " ++ rest) → ¬ NamesOtherVersion bytes
none_named bytes line first none named = none named.0 (same_first_line bytes line (codes "kblog " ++ named.0) first named.1)

-- numbers of other versions
pos_same : (m n : ℕ) → pos m ≡ pos n → m ≡ n
pos_same m n e = cc

opposite_not : (n : ℕ) → (opposite n ≢ pos 1) × (opposite n ≢ pos 2)
opposite_not zero = ((λ e. absurd (omega (arith, pos_same 0 1 e))), (λ e. absurd (omega (arith, pos_same 0 2 e))))
opposite_not (suc n) = ((λ e. absurd cc), (λ e. absurd cc))

are_digits : (digits : List ℕ) → AreFewDigits digits → AreDigits digits (value_after 0 digits)
are_digits digits h = record { some = h.some; few = h.few; each = h.each; worth = refl }

few_digits : (digits : List ℕ) (n : ℕ) → AreDigits digits n → AreFewDigits digits
few_digits digits n h = record { some = h.some; few = h.few; each = h.each }

pub negative_version : (digits : List ℕ) → AreFewDigits digits → IsOtherVersion (45 ∷ digits)
negative_version digits h = record {
  value = opposite (value_after 0 digits);
  spelled = inr (value_after 0 digits, digits, are_digits digits h, refl, refl);
  not_one = (opposite_not (value_after 0 digits)).0;
  not_two = (opposite_not (value_after 0 digits)).1;
}

no_minus : (digits : List ℕ) → ¬ AllByRecursion IsDigit (45 ∷ digits)
no_minus digits h = omega (arith, h.0)

tail_same : (b : ℕ) (xs ys : List ℕ) → b ∷ xs ≡ b ∷ ys → ys ≡ xs
tail_same b xs ys e = cc

number_negative : (digits : List ℕ) (z : ℤ) → IsNumber (45 ∷ digits) z → AreFewDigits digits
number_negative digits z (inl h) = absurd (no_minus digits (h.1).each)
number_negative digits z (inr h) =
    let same : h.1 ≡ digits = tail_same 45 digits h.1 h.3 in
    let P : List ℕ → Type 0 = λ l. AreFewDigits l in
    subst P same (few_digits h.1 h.0 h.2)

pub version_negative : (digits : List ℕ) → IsOtherVersion (45 ∷ digits) → AreFewDigits digits
version_negative digits h = number_negative digits h.value h.spelled

pub positive_version : (digits : List ℕ) → AreFewDigits digits → value_after 0 digits ≢ 1 → value_after 0 digits ≢ 2 → IsOtherVersion digits
positive_version digits h one two = record {
  value = pos (value_after 0 digits);
  spelled = inl (value_after 0 digits, are_digits digits h, refl);
  not_one = λ e. one (pos_same (value_after 0 digits) 1 e);
  not_two = λ e. two (pos_same (value_after 0 digits) 2 e);
}

number_positive : (digits : List ℕ) (z : ℤ) → ((others : List ℕ) → digits ≢ 45 ∷ others) → IsNumber digits z → AreFewDigits digits × (z ≡ pos (value_after 0 digits))
number_positive digits z none (inl h) = (few_digits digits h.0 h.1, h.2 ∙ ap pos (h.1).worth)
number_positive digits z none (inr h) = absurd (none h.1 h.3)

pub version_positive : (digits : List ℕ) → ((others : List ℕ) → digits ≢ 45 ∷ others) → IsOtherVersion digits
    → AreFewDigits digits × (value_after 0 digits ≢ 1) × (value_after 0 digits ≢ 2)
version_positive digits none h =
    let is = number_positive digits h.value none h.spelled in
    (is.0, (λ e. h.not_one (is.1 ∙ ap pos e)), (λ e. h.not_two (is.1 ∙ ap pos e)))

one_of : {A B C : Type 0} → A ⊎ B → C × (¬ A) × (¬ B) → ⊥
one_of (inl a) h = h.1 a
one_of (inr b) h = h.2 b

-- digits are the number of another version where their value is neither 1 nor 2
pub other_iff : (digits : List ℕ) (r : Bool) → AreFewDigits digits → ((others : List ℕ) → digits ≢ 45 ∷ others)
    → (IsTrue r → (value_after 0 digits ≡ 1) ⊎ (value_after 0 digits ≡ 2)) → ((value_after 0 digits ≡ 1) ⊎ (value_after 0 digits ≡ 2) → IsTrue r)
    → (IsTrue (not r) → IsOtherVersion digits) × (IsOtherVersion digits → IsTrue (not r))
other_iff digits true few none to from = ((λ e. absurd cc), (λ h. absurd (one_of (to refl) (version_positive digits none h))))
other_iff digits false few none to from =
    ((λ e. positive_version digits few (λ v. false≢true (from (inl v))) (λ v. false≢true (from (inr v)))), (λ h. refl))
