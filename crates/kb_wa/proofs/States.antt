-- The state after a word: that of its longest suffix for which some state stands.
use Rattle.std.proofs.Common.{◌≡◌, ◌≢◌, ℕ, zero, suc, ◌<◌, Bool, true, false, nat_eq, if◌then◌else◌, List, [], ◌∷◌, length, Option, Some, None, refl, sym, ap, ◌∙◌, subst, inl, inr, arith}
use Rattle.std.specs.Cmp.Lexicographic.{pointwise}
use Rattle.std.specs.Option.{unwrap_or}
use Rattle.std.proofs.lemmas.Bool.{cases_lt, true≢false}
use Rattle.kb_word.specs.Words.{EndsWith}
use Rattle.kb_word.specs.Comparison.{same_from_pointwise, pointwise_from_same}
use Rattle.kb_trie.specs.States.{AreWords, HasWord, word}
use Rattle.kb_trie.specs.Steps.{IsLongestSuffix}
use Rattle.kb_trie.proofs.Longest.{longest_nil}
use Rattle.kb_trie.proofs.Suffixes.{ends_all, ends_shorter, same_ends}
use Rattle.kb_wa.specs.Dictionary.{state_of, state_after}

-- the state's word is the longest suffix of w that is a state's word
pub record StandsFor (words : List (List ℕ)) (w : List ℕ) (state : ℕ) : Type 0 where
  pub within : state < length words
  pub longest : IsLongestSuffix words w (word words state)

-- what the search among so many states finds
data Found (words : List (List ℕ)) (count : ℕ) (w : List ℕ) : Option ℕ → Type 0 where
  found : {state : ℕ} → state < count → word words state ≡ w → Found words count w (Some state)
  missing : ((state : ℕ) → state < count → word words state ≢ w) → Found words count w None

found_later : (words : List (List ℕ)) (count : ℕ) (w : List ℕ) (rest : Option ℕ) → word words count ≢ w → Found words count w rest
    → Found words (suc count) w rest
found_later words count w (Some state) apart (found within is) = found (omega arith) is
found_later words count w None apart (missing none) =
    missing (λ state within same.
    elim (cases_lt state count) [
      | inl earlier ↦ none state earlier same
      | inr late ↦ let here : count ≡ state = omega arith in apart (ap (word words) here ∙ same)
    ])

found_if : (words : List (List ℕ)) (count : ℕ) (w : List ℕ) (test : Bool) (rest : Option ℕ) → pointwise nat_eq (word words count) w ≡ test
    → Found words count w rest → Found words (suc count) w (if test then Some count else rest)
found_if words count w true rest same searched = found (omega arith) (same_from_pointwise (word words count) w same)
found_if words count w false rest differ searched =
    found_later words count w rest (λ same. true≢false (sym (pointwise_from_same (word words count) w same) ∙ differ)) searched

found_of : (words : List (List ℕ)) (count : ℕ) (w : List ℕ) → Found words count w (state_of words count w)
found_of words zero w = missing (λ state within. absurd (omega arith))
found_of words (suc count) w =
    found_if words count w (pointwise nat_eq (word words count) w) (state_of words count w) refl (found_of words count w)

stands_or : (words : List (List ℕ)) (x : ℕ) (w : List ℕ) (searched : Option ℕ) (rest : ℕ) → Found words (length words) (x ∷ w) searched
    → StandsFor words w rest → StandsFor words (x ∷ w) (unwrap_or searched rest)
stands_or words x w (Some state) rest (found within is) stands =
    let P : List ℕ → Type 0 = λ u. IsLongestSuffix words (x ∷ w) u in
    record {
      within = within;
      longest = subst P (sym is) (record { ends = ends_all (x ∷ w); longest = λ other in_words ends. ends });
    }
stands_or words x w None rest (missing none) stands =
    record {
      within = stands.within;
      longest = record {
        ends = let ends = stands.longest.ends in (x ∷ ends.0, ap (λ u. x ∷ u) ends.1);
        longest = λ other in_words ends.
            elim (ends_shorter (x ∷ w) (word words other) ends) [
              | inl same ↦ absurd (none other in_words same)
              | inr shorter ↦ stands.longest.longest other in_words shorter
            ];
      };
    }

pub stands_after : (words : List (List ℕ)) → AreWords words → (w : List ℕ) → StandsFor words w (state_after words w)
stands_after words are [] = record { within = are.some; longest = longest_nil words are }
stands_after words are (x ∷ w) =
    stands_or words x w (state_of words (length words) (x ∷ w)) (state_after words w) (found_of words (length words) (x ∷ w))
    (stands_after words are w)

-- one state stands for the longest suffix
pub one_stands : (words : List (List ℕ)) → AreWords words → (w : List ℕ) (state other : ℕ) → StandsFor words w state → StandsFor words w other
    → state ≡ other
one_stands words are w state other one two =
    are.apart state other one.within two.within
    (same_ends (word words state) (word words other) (one.longest.longest other two.within two.longest.ends)
    (two.longest.longest state one.within one.longest.ends))

-- where some state's word is the whole word, the state of the longest suffix has that word
pub stands_for_all : (words : List (List ℕ)) (w : List ℕ) (state own : ℕ) → StandsFor words w state → HasWord words w own
    → word words state ≡ w
stands_for_all words w state own stands has =
    let P : List ℕ → Type 0 = λ u. EndsWith w u in
    let Q : List ℕ → Type 0 = λ u. EndsWith (word words state) u in
    sym (same_ends w (word words state) stands.longest.ends
    (subst Q has.is (stands.longest.longest own has.within (subst P (sym has.is) (ends_all w)))))
