-- The tokens of a word are read as that word, unless it nests too deep.
use Rattle.std.proofs.Common.{◌≡◌, ℕ, zero, suc, ◌<◌, max, ℤ, List, [], ◌∷◌, ◌++◌, length, Option, Some, None, refl, ap, subst, arith, append_assoc, append-nil}
use Rattle.std.proofs.lemmas.List.{length-append}
use Rattle.kb_lexing.specs.Token.{Token, close_round, star}
use Rattle.kb_lexing.specs.declared.place.Expected.TheVariants as wanted
use Rattle.kb_record.specs.Tree.{Factor, named, grouped, Factors, no_factors, factor}
use Rattle.kb_record.specs.Grammar.{power_tokens, word_tokens, factor_tokens, IsWord, IsFactorTree, AreFactorTrees}
use Rattle.kb_record.specs.Nesting.{word_nesting, factor_nesting}
use Rattle.kb_record.specs.View.{factors_of}
use Rattle.kb_record.specs.Reading.{read, reading_map, joined, row, behind, past, passes, passes_to, power_behind, read_power, read_factor, read_group, read_word}
use Rattle.kb_record.specs.declared.cursor.Mark.TheVariants.{Star, Caret, CloseRound}
use Rattle.kb_record.proofs.Depths.{read_word_is}
use Rattle.kb_record.proofs.Finds.{Finds, found_as, found_then, found_map, last_found, more_found}

-- what a word may stand before
pub record Ends (rest : List Token) : Type 0 where
  pub no_star : behind Star rest ≡ None
  pub no_power : behind Caret rest ≡ None

abbrev pub list_of : Factors → List Factor
list_of no_factors = []
list_of (factor f fs) = f ∷ list_of fs

pub list_of-is : (fs : Factors) → factors_of (list_of fs) ≡ fs
list_of-is no_factors = refl
list_of-is (factor f fs) = ap (factor f) (list_of-is fs)

power_found : (power : Option ℤ) (d : ℕ) (rest : List Token) → behind Caret rest ≡ None → Finds d 0 power rest (read_power (power_tokens power ++ rest))
power_found None d rest e = found_as d 0 None rest _ _ (ap (power_behind rest) e) (refl, refl)
power_found (Some z) d rest e = (refl, refl)

group_found : (fs : Factors) (d : ℕ) (rest : List Token) → ((d' : ℕ) → Finds d' (word_nesting fs) fs (close_round ∷ rest) (read_word d' (word_tokens fs ++ close_round ∷ rest)))
    → Finds d (suc (word_nesting fs)) fs rest (read_group d (word_tokens fs ++ close_round ∷ rest))
group_found fs zero rest h = omega arith
group_found fs (suc d) rest h =
    found_then d (word_nesting fs) (suc d) (suc (word_nesting fs)) fs fs (close_round ∷ rest) rest (read_word d (word_tokens fs ++ close_round ∷ rest)) (λ factors left. past wanted.Mark left (behind CloseRound left) (read factors)) (λ x. omega arith) (h d) (refl, refl)

grouped_found : (fs : Factors) (power : Option ℤ) (d : ℕ) (rest : List Token) → behind Caret rest ≡ None → Finds d (suc (word_nesting fs)) fs (power_tokens power ++ rest) (read_group d (word_tokens fs ++ close_round ∷ (power_tokens power ++ rest)))
    → Finds d (suc (word_nesting fs)) (grouped fs power) rest (read_factor d (factor_tokens (grouped fs power) ++ rest))
grouped_found fs power d rest e h =
    found_then d (suc (word_nesting fs)) d (suc (word_nesting fs)) fs (grouped fs power) (power_tokens power ++ rest) rest
    (read_group d ((word_tokens fs ++ close_round ∷ power_tokens power) ++ rest)) (λ factors left. reading_map (grouped factors) (read_power left)) (λ x. x)
    (found_as d _ fs _ _ _ (ap (read_group d) (append_assoc (word_tokens fs) (close_round ∷ power_tokens power) rest)) h)
    (found_map d 0 d (suc (word_nesting fs)) power (grouped fs power) rest (read_power (power_tokens power ++ rest)) (grouped fs) (λ x. omega arith) refl (power_found power d rest e))

-- one factor, and then the others
row_found : (f : Factor) (others : Factors) (d n : ℕ) (rest : List Token) → Ends rest → AreFactorTrees others → length (word_tokens (factor f others) ++ rest) < n
    → ((middle : List Token) → behind Caret middle ≡ None → Finds d (factor_nesting f) f middle (read_factor d (factor_tokens f ++ middle)))
    → ((k : ℕ) → IsWord others → length (word_tokens others ++ rest) < k → Finds d (word_nesting others) (list_of others) rest (joined (read_factor d) (passes Star) k (word_tokens others ++ rest)))
    → Finds d (word_nesting (factor f others)) (list_of (factor f others)) rest (joined (read_factor d) (passes Star) n (word_tokens (factor f others) ++ rest))
row_found f no_factors d n rest ends good few first more =
    let here : Finds d (max (factor_nesting f) 0) f rest (read_factor d ((factor_tokens f ++ []) ++ rest)) =
    found_as d _ f rest _ _ (ap (λ ts. read_factor d (ts ++ rest)) (append-nil (factor_tokens f)))
    (let P : ℕ → Type 0 = λ k. Finds d k f rest (read_factor d (factor_tokens f ++ rest)) in let same : factor_nesting f ≡ max (factor_nesting f) 0 = omega arith in subst P same (first rest ends.no_power)) in
    last_found (read_factor d) (passes Star) d (max (factor_nesting f) 0) n f ((factor_tokens f ++ []) ++ rest) rest rest (omega arith) here (ap (passes_to rest) ends.no_star)
row_found f (factor g gs) d zero rest ends good few first more = let never : ⊥ = omega arith in absurd never
row_found f (factor g gs) d (suc n) rest ends good few first more =
    let others = word_tokens (factor g gs) ++ rest in
    let split : (factor_tokens f ++ star ∷ word_tokens (factor g gs)) ++ rest ≡ factor_tokens f ++ star ∷ others = append_assoc (factor_tokens f) (star ∷ word_tokens (factor g gs)) rest in
    let fewer : length others < n = omega (arith, ap length split, length-append (factor_tokens f) (star ∷ others)) in
    more_found (read_factor d) (passes Star) d (factor_nesting f) (word_nesting (factor g gs)) (word_nesting (factor f (factor g gs))) n f (list_of (factor g gs)) _ (star ∷ others) others rest (omega arith) (omega arith)
    (found_as d _ f _ _ _ (ap (read_factor d) split) (first (star ∷ others) refl)) refl (more n good fewer)

word_of_row : (fs : Factors) (d : ℕ) (rest : List Token) → Finds d (word_nesting fs) (list_of fs) rest (row (read_factor d) (passes Star) (word_tokens fs ++ rest)) → Finds d (word_nesting fs) fs rest (read_word d (word_tokens fs ++ rest))
word_of_row fs d rest h =
    found_as d _ fs rest _ _ (read_word_is d (word_tokens fs ++ rest)) (found_map d (word_nesting fs) d (word_nesting fs) (list_of fs) fs rest _ factors_of (λ x. x) (list_of-is fs) h)

mutual
  pub factor_found : (f : Factor) → IsFactorTree f → (d : ℕ) (rest : List Token) → behind Caret rest ≡ None → Finds d (factor_nesting f) f rest (read_factor d (factor_tokens f ++ rest))
  factor_found (named text power) good d rest e = found_map d 0 d 0 power (named text power) rest (read_power (power_tokens power ++ rest)) (named text) (λ x. x) refl (power_found power d rest e)
  factor_found (grouped fs power) good d rest e =
      grouped_found fs power d rest e (group_found fs d (power_tokens power ++ rest) (λ d'. word_of_row fs d' _ (factors_found fs good d' _ _ (record { no_star = refl; no_power = refl }) (omega arith))))

  factors_found : (fs : Factors) → IsWord fs → (d n : ℕ) (rest : List Token) → Ends rest → length (word_tokens fs ++ rest) < n
      → Finds d (word_nesting fs) (list_of fs) rest (joined (read_factor d) (passes Star) n (word_tokens fs ++ rest))
  factors_found no_factors good d n rest ends few = absurd good
  factors_found (factor f others) good d n rest ends few =
      row_found f others d n rest ends good.1 few (factor_found f good.0 d) (λ k good' few'. factors_found others good' d k rest ends few')

pub word_found : (fs : Factors) → IsWord fs → (d : ℕ) (rest : List Token) → Ends rest → Finds d (word_nesting fs) fs rest (read_word d (word_tokens fs ++ rest))
word_found fs good d rest ends = word_of_row fs d rest (factors_found fs good d _ rest ends (omega arith))
