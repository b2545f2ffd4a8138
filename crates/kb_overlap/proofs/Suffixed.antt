-- The left sides as words of states, and what ends with them.
use Rattle.std.proofs.Common.{◌≡◌, ℕ, ◌+◌, ◌<◌, ◌≤◌, List, [], ◌∷◌, ◌++◌, length, get_or, take, sym, ap, ◌∙◌, subst, inl, inr, arith}
use Rattle.std.specs.Option.{option_map}
use Rattle.std.specs.Prelude.{slice_get, Some}
use Rattle.std.proofs.lemmas.Bool.{cases_lt}
use Rattle.std.proofs.lemmas.List.{length-map, take_more}
use Rattle.std.proofs.lemmas.Option.{same_Some, slice_get-get_or, slice_get-map, get_or_from_slice_get, slice_get_within}
use Rattle.kb_word.specs.Words.{Pair, OneOf, EndsWith}
use Rattle.kb_word.specs.Rewriting.{IsIrreducible}
use Rattle.kb_rules.specs.Ending.{NoneEnds}
use Rattle.kb_rules.proofs.Lists.{empty_middle}
use Rattle.kb_trie.specs.States.{word}
use Rattle.kb_trie.specs.Steps.{IsStep}
use Rattle.kb_trie.proofs.Longest.{depth_below, longest_more}
use Rattle.kb_trie.proofs.Suffixes.{ends_of_nil}
use Rattle.kb_index.specs.Automata.{HaveLefts, StandsFor}
use Rattle.kb_index.specs.Lefts.{IsLongestLeft, StandsAt, left_at, lefts_of}
use Rattle.kb_overlap.specs.Prefixes.{AreWordsOf}

abbrev pub no_rule : Pair
no_rule = ([], [])

-- the left side at an index is the rule's
pub left_of : (rules : List Pair) (index : ℕ) (rule : Pair) → slice_get rules index ≡ Some rule → left_at rules index ≡ rule.0
left_of rules index rule at = ap (λ (r : Pair). r.0) (get_or_from_slice_get rules index rule no_rule at)

-- the left side at an index stands there among the left sides
pub left_stands : (rules : List Pair) (place : ℕ) → place < length rules → StandsAt (lefts_of rules) (left_at rules place) place
left_stands rules place within =
    slice_get-map (λ (rule : Pair). rule.0) rules place
    ∙ ap (option_map (λ (rule : Pair). rule.0)) (slice_get-get_or rules place no_rule within)

-- the rule at the place has the left side
pub record IsLeft (rules : List Pair) (left : List ℕ) (place : ℕ) : Type 0 where
  pub within : place < length rules
  pub is : left_at rules place ≡ left

pub stands_left : (rules : List Pair) (left : List ℕ) (place : ℕ) → StandsAt (lefts_of rules) left place → IsLeft rules left place
stands_left rules left place stands =
    let in_lefts : place < length (lefts_of rules) = slice_get_within (lefts_of rules) place left stands in
    let within : place < length rules = omega (arith, length-map rules (λ (rule : Pair). rule.0)) in
    record {
      within = within;
      is = same_Some (left_at rules place) left (sym (left_stands rules place within) ∙ stands);
    }

-- a letter more of those that are read
pub read_more : (letters : List ℕ) (i x : ℕ) → i < length letters → x ≡ get_or letters i 0 → take i letters ++ x ∷ [] ≡ take (i + 1) letters
read_more letters i x within is = ap (λ (y : ℕ). take i letters ++ y ∷ []) is ∙ sym (take_more letters i 0 within)

-- no left side ends a word that none ends by its index
pub none_ends : (rules : List Pair) (w : List ℕ) → ((place : ℕ) → place < length rules → ¬ EndsWith w (left_at rules place)) → NoneEnds rules w
none_ends rules w none pair one ends =
    let P : List ℕ → Type 0 = λ v. EndsWith w v in
    none one.0 (slice_get_within rules one.0 pair one.1) (subst P (sym (left_of rules one.0 pair one.1)) ends)

pub ends_some : (rules : List Pair) (w : List ℕ) (place : ℕ) → place < length rules → EndsWith w (left_at rules place) → ¬ NoneEnds rules w
ends_some rules w place within ends none =
    none (get_or rules place no_rule) (place, slice_get-get_or rules place no_rule within) ends

module _ {rules : List Pair} {words : List (List ℕ)} (known : AreWordsOf rules words) where
  pub have_lefts : HaveLefts rules
  have_lefts place within none =
      let P : List ℕ → Type 0 = λ left. StandsAt (lefts_of rules) left place in
      known.lefts.some place (subst P none (left_stands rules place within))

  -- a left side that ends what is read ends the state's word
  pub left_to_state : (w : List ℕ) (state place : ℕ) → StandsFor words w state → place < length rules
      → EndsWith w (left_at rules place) → EndsWith (word words state) (left_at rules place)
  left_to_state w state place stands within ends =
      let has = known.lefts.states place (left_at rules place) (left_stands rules place within) in
      let P : List ℕ → Type 0 = λ v. EndsWith w v in
      let Q : List ℕ → Type 0 = λ v. EndsWith (word words state) v in
      subst Q has.1.is (stands.longest.longest has.0 has.1.within (subst P (sym has.1.is) ends))

  -- a left side is shorter than there are states
  pub left_short : (place : ℕ) → place < length rules → length (left_at rules place) < length words
  left_short place within =
      let has = known.lefts.states place (left_at rules place) (left_stands rules place within) in
      omega (arith, ap length has.1.is, depth_below words known.are has.0 has.1.within, has.1.within)

  pub stands_step : (w : List ℕ) (x state next : ℕ) → StandsFor words w state → IsStep words state x next → StandsFor words (w ++ x ∷ []) next
  stands_step w x state next stands step =
      record {
        within = step.within;
        longest = longest_more words known.are w (word words state) (word words next) x stands.longest step.longest;
      }

  -- a state whose word is longer than a number isn't state 0
  pub longer_some : (state beyond : ℕ) → beyond < length (word words state) → 0 < state
  longer_some state beyond longer =
      elim (cases_lt 0 state) [
        | inl some ↦ some
        | inr none ↦
            let root : state ≡ 0 = omega arith in
            absurd (let no : ⊥ = omega (arith, ap length (ap (word words) root ∙ known.are.root)) in no)
      ]

  -- no left side ends the word of state 0
  none_at_root : (place : ℕ) → place < length rules → ¬ EndsWith (word words 0) (left_at rules place)
  none_at_root place within ends =
      let P : List ℕ → Type 0 = λ w. EndsWith w (left_at rules place) in
      have_lefts place within (ends_of_nil (left_at rules place) (subst P known.are.root ends))

  -- where a longest left side ends the state's word, a left side does
  pub ended_some : (state end : ℕ) → IsLongestLeft words (lefts_of rules) state end → 0 < end → ¬ NoneEnds rules (word words state)
  ended_some state end is some =
      let left = is.left some in
      let at = stands_left rules (word words end) left.0 left.1 in
      let P : List ℕ → Type 0 = λ v. EndsWith (word words state) v in
      ends_some rules (word words state) left.0 at.within (subst P (sym at.is) is.ends)

  pub ended_none : (state end : ℕ) → IsLongestLeft words (lefts_of rules) state end → end ≤ 0 → NoneEnds rules (word words state)
  ended_none state end is none =
      none_ends rules (word words state) (λ place within ends.
      let root : end ≡ 0 = omega arith in
      let P : ℕ → Type 0 = λ s. EndsWith (word words s) (left_at rules place) in
      none_at_root place within
      (subst P root (is.longest place (left_at rules place) (left_stands rules place within) ends)))

  -- where the state's word has no left side at its end, neither has what is read
  pub none_of_state : (w : List ℕ) (state : ℕ) → StandsFor words w state → NoneEnds rules (word words state) → NoneEnds rules w
  none_of_state w state stands none =
      none_ends rules w (λ place within ends.
      ends_some rules (word words state) place within (left_to_state w state place stands within ends) none)

  -- no left side stands in the empty word
  pub nothing_irreducible : IsIrreducible (OneOf rules) []
  nothing_irreducible before pair after one whole =
      have_lefts one.0 (slice_get_within rules one.0 pair one.1) (left_of rules one.0 pair one.1 ∙ empty_middle before pair.0 after whole)
