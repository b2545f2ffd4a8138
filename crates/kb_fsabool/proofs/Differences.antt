-- What an exploration of the symmetric difference says of two languages.
use Rattle.std.proofs.Common.{◌≡◌, ◌↔◌, ℕ, suc, Bool, true, false, IsTrue, List, [], ◌∷◌, ◌++◌, Some, refl, sym, ap, ◌∙◌, subst, inl, inr, arith}
use Rattle.std.proofs.lemmas.Bool.{true≢false, cases_order, false_from_ne_true}
use Rattle.std.proofs.lemmas.Option.{same_Some}
use Rattle.kb_word.specs.Words.{Less}
use Rattle.kb_word.specs.ShortlexLaws.{shortlex_transitive}
use Rattle.kb_fsa.specs.Table.{Table, state_after, is_accepting, AcceptsFrom}
use Rattle.kb_fsa.specs.Language.{Automaton, SameLanguage}
use Rattle.kb_fsa.proofs.Lookups.{accepting_positive, accepting_within}
use Rattle.kb_explore.specs.Machine.{MachineAccepts}
use Rattle.kb_explore.specs.Exploration.{numbered, IsTraced, IsExploration}
use Rattle.kb_explore.specs.Exploration.IsTraced.{at_start, along}
use Rattle.kb_explore.proofs.ExplorationLemmas.{numbered_within, accepts_same}
use Rattle.kb_fsabool.specs.declared.connective.Connective.TheVariants.{Xor}
use Rattle.kb_fsabool.specs.declared.connective.StatePair.{StatePair}
use Rattle.kb_fsabool.specs.Products.{holds, product, IsCombination, IsFirstAccepting, NoneAccepts}
use Rattle.kb_fsabool.specs.Answers.{IsInOne, IsLeastDifference, IsSymmetricDifference}
use Rattle.kb_fsabool.proofs.ProductLemmas.{xor_cases, xor_from, product_accepts}

-- ---- texts by origins

-- one text leads to a state by the origins
pub traced_once : {origins : List (ℕ × ℕ)} {state : ℕ} {text other : List ℕ} → IsTraced origins state text → IsTraced origins state other
    → text ≡ other
traced_once (at_start one) (at_start two) = refl
traced_once (at_start one) (along {parent = parent} {symbol = symbol} two rest) =
    absurd (let e = ap (λ (p : ℕ × ℕ). p.0) (same_Some _ _ (sym one ∙ two)) in let no : ⊥ = omega arith in no)
traced_once (along {parent = parent} {symbol = symbol} one rest) (at_start two) =
    absurd (let e = ap (λ (p : ℕ × ℕ). p.0) (same_Some _ _ (sym one ∙ two)) in let no : ⊥ = omega arith in no)
traced_once {origins} (along {parent = parent} {symbol = symbol} {text = text} one rest) (along {parent = other} {symbol = letter} {text = word} two more) =
    let e = same_Some _ _ (sym one ∙ two) in
    let numbers = ap (λ (p : ℕ × ℕ). p.0) e in
    let parents : parent ≡ other = omega arith in
    let P : ℕ → Type 0 = λ p. IsTraced origins (suc p) word in
    ap (λ t. t ++ symbol ∷ []) (traced_once rest (subst P (sym parents) more)) ∙ ap (λ x. word ++ x ∷ []) (ap (λ (p : ℕ × ℕ). p.1) e)

-- ---- one of the two accepts

-- exactly one of the two answers is yes
in_one_answers : (one two : Automaton) (text : List ℕ) → IsInOne one two text
    ↔ IsTrue (holds Xor (is_accepting one.table (state_after one.table text)) (is_accepting two.table (state_after two.table text)))
in_one_answers one two text =
    let first = is_accepting one.table (state_after one.table text) in
    let second = is_accepting two.table (state_after two.table text) in
    let back : IsTrue (holds Xor first second) → IsInOne one two text = λ h. elim (xor_cases first second h) [
      | inl parts ↦ inl (parts.0, λ yes. true≢false (sym yes ∙ parts.1))
      | inr parts ↦ inr (parts.0, λ yes. true≢false (sym yes ∙ parts.1))
    ] in
    let forth : IsInOne one two text → IsTrue (holds Xor first second) = λ h. xor_from first second (elim h [
      | inl parts ↦ inl (parts.0, false_from_ne_true second parts.1)
      | inr parts ↦ inr (parts.0, false_from_ne_true first parts.1)
    ]) in
    (forth, back)

-- the product accepts what is in exactly one
in_one : (one two : Automaton) (text : List ℕ) → IsInOne one two text ↔ MachineAccepts (product Xor one.table two.table) text
in_one one two text =
    let means = product_accepts Xor one.table two.table text in
    let answers = in_one_answers one two text in
    (λ h. means.1 (answers.0 h), λ accepts. answers.1 (means.0 accepts))

-- an automaton of the texts for which exactly one answer is yes
pub is_symmetric_difference : (one two difference : Automaton) → IsCombination Xor one two difference → IsSymmetricDifference one two difference
is_symmetric_difference one two difference is text =
    let answers = in_one_answers one two text in
    let accepted = is text in
    (λ accepts. answers.1 (accepted.0 accepts), λ h. accepted.1 (answers.0 h))

module _ (one two : Automaton) {table : Table} {states : List StatePair} {origins : List (ℕ × ℕ)}
    (explored : IsExploration (product Xor one.table two.table) table states origins) where
  in_one_accepted : (text : List ℕ) → IsInOne one two text ↔ AcceptsFrom table table.initial text
  in_one_accepted text =
      let same = accepts_same explored text in
      let in_it = in_one one two text in
      (λ h. same.1 (in_it.0 h), λ h. in_it.1 (same.0 h))

  -- where no state accepts, the languages are the same
  pub same_language : NoneAccepts table → SameLanguage one two
  same_language none text = (
    λ first. true_from (is_accepting two.table (state_after two.table text))
        (λ no_second. none (state_after table text) ((in_one_accepted text).0 (inl (first, λ second. true≢false (sym second ∙ no_second))))),
    λ second. true_from (is_accepting one.table (state_after one.table text))
        (λ no_first. none (state_after table text) ((in_one_accepted text).0 (inr (second, λ first. true≢false (sym first ∙ no_first))))),
  )
    where
      true_from : (b : Bool) → ¬ (b ≡ false) → b ≡ true
      true_from true differs = refl
      true_from false differs = absurd (differs refl)

  -- the least text of an accepting state
  text_of : (state : ℕ) → IsTrue (is_accepting table state) → (text : List ℕ) × (numbered explored.words state ≡ Some text)
  text_of state accepts =
      let count = explored.one_word_each in
      let within = accepting_within table state explored.is_table accepts in
      numbered_within explored.words state (accepting_positive table state accepts) (omega arith)

  pub is_traced : (state : ℕ) → IsTrue (is_accepting table state) → (text : List ℕ) × IsTraced origins state text
  is_traced state accepts = let text = text_of state accepts in (text.0, explored.traced state text.0 text.1)

  -- the text by which the first accepting state was first seen is the least difference
  pub least_difference : (state : ℕ) (text : List ℕ) → IsFirstAccepting table state → IsTraced origins state text → IsLeastDifference one two text
  least_difference state text is traced =
      let word = text_of state is.accepts in
      let same : word.0 ≡ text = traced_once (explored.traced state word.0 word.1) traced in
      let P : List ℕ → Type 0 = λ w. IsLeastDifference one two w in
      subst P same (record {
        differs =
            let A : ℕ → Type 0 = λ s. IsTrue (is_accepting table s) in
            (in_one_accepted word.0).1 (subst A (sym (explored.least state word.0 word.1).leads) is.accepts);
        least = λ other differs less.
            let accepts = (in_one_accepted other).0 differs in
            let later = state_after table other in
            let its = text_of later accepts in
            let below : ¬ Less other its.0 = (explored.least later its.0 its.1).least other refl in
            elim (cases_order state later) [
              | inl equal ↦ (explored.least state word.0 word.1).least other (sym equal) less
              | inr apart ↦ elim apart [
                | inl more ↦ below (shortlex_transitive other word.0 its.0 less (explored.ascending state later word.0 its.0 more word.1 its.1))
                | inr fewer ↦ is.first later fewer accepts
              ]
            ];
      })
