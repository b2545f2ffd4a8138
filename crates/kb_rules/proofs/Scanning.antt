-- Reading a letter that a left side ends: the left side is cut off, and the right side is put back.
use Rattle.std.proofs.Common.{◌≡◌, ◌≢◌, ℕ, ◌-◌, List, [], ◌∷◌, ◌++◌, All, length, take, sym, ap, ◌∙◌, subst, arith, append_assoc, length-append}
use Rattle.std.proofs.lemmas.List.{append-nil, take_at}
use Rattle.std.proofs.lemmas.List.Elements.{All-append}
use Rattle.kb_word.specs.Words.{Pair, OneOf}
use Rattle.kb_word.specs.Rewriting.{IsIrreducible}
use Rattle.kb_rules.specs.Ending.{IsFirstEnding}
use Rattle.kb_rules.specs.Steps.{IsFirstStep}
use Rattle.kb_rules.proofs.Lists.{from_end, All-front, All-rest}
use Rattle.kb_rules.proofs.Endings.{proper, first_step_at}

-- what is left of a word once a left side is cut off its end
pub record IsCut (w left : List ℕ) (place : ℕ) (w' : List ℕ) : Type 0 where
  pub at : place ≡ length w - length left
  pub is : w' ≡ take place w

-- the cut is made by the lengths that are read
pub is_cut : {w whole left own front' : List ℕ} {n m : ℕ} → w ≡ whole → own ≡ left → n ≡ length w → m ≡ length own
    → front' ≡ take (n - m) w → IsCut whole left (n - m) front'
is_cut {n = n} {m = m} same side long short cut =
    record { at = cc (long, ap length same, short, ap length side); is = cut ∙ ap (take (n - m)) same }

-- it is what stands before the left side
pub cut_before : {rules : List Pair} {w : List ℕ} {index : ℕ} {rule : Pair} {place : ℕ} {w' : List ℕ}
    → IsCut w rule.0 place w' → (f : IsFirstEnding rules w index rule) → (length f.ends.0 ≡ place) × (w' ≡ f.ends.0)
cut_before {w = w} {rule = rule} {place = place} cut f =
    let at : length f.ends.0 ≡ place = omega (arith, cut.at, ap length f.ends.1, length-append f.ends.0 rule.0) in
    (at, cut.is ∙ ap (take place) f.ends.1 ∙ take_at f.ends.0 rule.0 place at)

-- it is irreducible, where the left side ends at the first letter at which one does
pub cut_irreducible : {rules : List Pair} {index : ℕ} {rule : Pair} {place : ℕ} {front' : List ℕ} (front : List ℕ) (x : ℕ)
    → IsIrreducible (OneOf rules) front
    → IsFirstEnding rules (front ++ x ∷ []) index rule
    → IsCut (front ++ x ∷ []) rule.0 place front' → IsIrreducible (OneOf rules) front'
cut_irreducible {rules = rules} {index = index} {rule = rule} front x irreducible f cut =
    let some : rule.0 ≢ [] = λ none.
    irreducible front rule [] (index, f.is_rule) (sym (append-nil (front ++ rule.0) ∙ ap (λ l. front ++ l) none ∙ append-nil front)) in
    let P : List ℕ → Type 0 = λ w. IsIrreducible (OneOf rules) w in
    subst P (sym (cut_before cut f).1) (proper rules front x irreducible f.ends.0 rule.0 f.ends.1 (from_end rule.0) some)

-- with the right side put back the step is made
pub cut_step : {rules : List Pair} {index : ℕ} {rule : Pair} {place : ℕ} {front' : List ℕ} (front : List ℕ) (x : ℕ) (rest rest' : List ℕ)
    → IsIrreducible (OneOf rules) front
    → IsFirstEnding rules (front ++ x ∷ []) index rule
    → IsCut (front ++ x ∷ []) rule.0 place front'
    → rest' ≡ rule.1 ++ rest → IsFirstStep rules (front ++ x ∷ rest) (record { place = place; rule = index }) (front' ++ rest')
cut_step {rules = rules} {index = index} {rule = rule} {place = place} {front' = front'} front x rest rest' irreducible f cut back =
    let before = cut_before cut f in
    let same : f.ends.0 ++ rule.1 ++ rest ≡ front' ++ rest' = append_assoc f.ends.0 rule.1 rest ∙ cc (before.1, back) in
    let P : List ℕ → Type 0 = λ v. IsFirstStep rules (front ++ x ∷ rest) (record { place = place; rule = index }) v in
    subst P same (first_step_at rules front x rest index rule place irreducible f before.0)

-- what holds of each letter of the word and of the right side holds of each letter then
pub cut_range : {rules : List Pair} {index : ℕ} {rule : Pair} {place : ℕ} {front' : List ℕ} (P : ℕ → Type 0)
    (front : List ℕ) (x : ℕ) (rest rest' : List ℕ)
    → IsFirstEnding rules (front ++ x ∷ []) index rule
    → IsCut (front ++ x ∷ []) rule.0 place front'
    → rest' ≡ rule.1 ++ rest → All P (front ++ x ∷ rest) → All P rule.1 → All P (front' ++ rest')
cut_range {rule = rule} P front x rest rest' f cut back all right =
    let before = cut_before cut f in
    let whole : front ++ x ∷ rest ≡ f.ends.0 ++ (rule.0 ++ rest) =
    sym (append_assoc front (x ∷ []) rest) ∙ ap (λ w. w ++ rest) f.ends.1 ∙ append_assoc f.ends.0 rule.0 rest in
    let first : All P f.ends.0 = All-front P f.ends.0 (front ++ x ∷ rest) (rule.0 ++ rest) whole all in
    let last : All P rest = All-rest P rest (front ++ x ∷ rest) (front ++ x ∷ []) (sym (append_assoc front (x ∷ []) rest)) all in
    let Q : List ℕ → Type 0 = λ w. All P w in
    subst Q (cc (before.1, back)) (All-append P f.ends.0 (rule.1 ++ rest) first (All-append P rule.1 rest right last))
