-- Second words that are other ones make unequal pairs.
use Rattle.std.proofs.Common.{◌≡◌, ℕ, List, [], ◌∷◌, ◌++◌, Option, Some, None, Result, IfOk, IfSome, IfNone, sym, ◌∙◌, subst}
use Rattle.std.proofs.lemmas.Result.{IfOk-weaker}
use Rattle.kb_word.specs.Words.{Pair}
use Rattle.kb_word.specs.Relations.{IsOver}
use Rattle.kb_word.specs.Rewriting.{NormalForm}
use Rattle.kb_rules.proofs.Unique.{normal_form_unique}
use Rattle.kb_fsa.specs.Language.{Automaton, generators}
use Rattle.kb_labels.specs.Unequal.{IsUnequalPair, IsLeastUnequalSecond, IsOther, IsLeastOther}

module _ (rules : List Pair) (pairs : Automaton) (x : ℕ) (first target : List ℕ) (over : IsOver (generators pairs.alphabet) first)
    (normal : NormalForm rules (first ++ x ∷ []) target) where
  abbrev Other : List ℕ → Type 0
  Other second = IsOther (generators pairs.alphabet) rules pairs.table pairs.table.initial first [] target second

  unequal_of_other : (second : List ℕ) → Other second → IsUnequalPair rules pairs x first second
  unequal_of_other second other = record {
    first_over = over;
    second_over = other.over;
    accepted = other.accepted;
    product = target;
    other = other.normal;
    product_normal = normal;
    other_normal = other.is_normal;
    different = λ same. other.different (sym same);
  }

  other_of_unequal : (second : List ℕ) → IsUnequalPair rules pairs x first second → Other second
  other_of_unequal second unequal = record {
    over = unequal.second_over;
    accepted = unequal.accepted;
    normal = unequal.other;
    is_normal = unequal.other_normal;
    different = λ same. unequal.different (normal_form_unique unequal.product_normal normal ∙ sym same);
  }

  pub least_unequal : (second : List ℕ) → IsLeastOther (generators pairs.alphabet) rules pairs.table pairs.table.initial first [] target second
      → IsLeastUnequalSecond rules pairs x first second
  least_unequal second least = record {
    unequal = unequal_of_other second least.other;
    least = λ other unequal less. least.least other (other_of_unequal other unequal) less;
  }

  pub none_unequal : ((second : List ℕ) → ¬ Other second) → (second : List ℕ) → ¬ IsUnequalPair rules pairs x first second
  none_unequal none second unequal = none second (other_of_unequal second unequal)

  some_unequal : (found : Option (List ℕ)) → IfSome found (IsLeastOther (generators pairs.alphabet) rules pairs.table pairs.table.initial first [] target)
      → IfSome found (IsLeastUnequalSecond rules pairs x first)
  some_unequal None least = least
  some_unequal (Some second) least = least_unequal second least

  none_there : (found : Option (List ℕ)) → IfNone found ((second : List ℕ) → ¬ Other second)
      → IfNone found ((second : List ℕ) → ¬ IsUnequalPair rules pairs x first second)
  none_there None none = none_unequal none
  none_there (Some second) none = none

  -- the answer of the search from the initial state
  module _ {E : Type 0} (r : Result (Option (List ℕ)) E) (n state : ℕ) (word : List ℕ) (number : n ≡ generators pairs.alphabet)
      (initial : state ≡ pairs.table.initial) (empty : word ≡ []) where
    pub answer_found : IfOk r (λ found. IfSome found (IsLeastOther n rules pairs.table state first word target))
        → IfOk r (λ found. IfSome found (IsLeastUnequalSecond rules pairs x first))
    answer_found is =
        let P : ℕ → Type 0 = λ k. IfOk r (λ found. IfSome found (IsLeastOther k rules pairs.table state first word target)) in
        let Q : ℕ → Type 0 =
        λ s. IfOk r (λ found. IfSome found (IsLeastOther (generators pairs.alphabet) rules pairs.table s first word target)) in
        let R : List ℕ → Type 0 =
        λ w. IfOk r (λ found. IfSome found
        (IsLeastOther (generators pairs.alphabet) rules pairs.table pairs.table.initial first w target)) in
        IfOk-weaker r (λ found. IfSome found (IsLeastOther (generators pairs.alphabet) rules pairs.table pairs.table.initial first [] target))
        (λ found. IfSome found (IsLeastUnequalSecond rules pairs x first)) some_unequal
        (subst R empty (subst Q initial (subst P number is)))

    pub answer_none : IfOk r (λ found. IfNone found ((second : List ℕ) → ¬ IsOther n rules pairs.table state first word target second))
        → IfOk r (λ found. IfNone found ((second : List ℕ) → ¬ IsUnequalPair rules pairs x first second))
    answer_none is =
        let P : ℕ → Type 0 =
        λ k. IfOk r (λ found. IfNone found ((second : List ℕ) → ¬ IsOther k rules pairs.table state first word target second)) in
        let Q : ℕ → Type 0 =
        λ s. IfOk r (λ found. IfNone found
        ((second : List ℕ) → ¬ IsOther (generators pairs.alphabet) rules pairs.table s first word target second)) in
        let R : List ℕ → Type 0 =
        λ w. IfOk r (λ found. IfNone found
        ((second : List ℕ) → ¬ IsOther (generators pairs.alphabet) rules pairs.table pairs.table.initial first w target second)) in
        IfOk-weaker r (λ found. IfNone found ((second : List ℕ) → ¬ Other second))
        (λ found. IfNone found ((second : List ℕ) → ¬ IsUnequalPair rules pairs x first second)) none_there
        (subst R empty (subst Q initial (subst P number is)))
