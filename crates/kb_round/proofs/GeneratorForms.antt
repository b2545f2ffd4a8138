-- The normal forms of the generators are among the differences of the rules of a reduced complete system.
use Rattle.std.proofs.Common.{◌≡◌, ℕ, ◌<◌, ◌≤◌, List, [], ◌∷◌, ◌++◌, length, sym, subst, inl, inr, arith}
use Rattle.std.specs.List.{Contains}
use Rattle.std.proofs.lemmas.Bool.{cases_lt}
use Rattle.kb_word.specs.Words.{Pair, OneOf, shorter}
use Rattle.kb_word.specs.WordOrders.{Below}
use Rattle.kb_word.specs.WordOrderLaws.{word_orders}
use Rattle.kb_word.specs.Relations.{IsOver}
use Rattle.kb_word.specs.Rewriting.{IsIrreducible, NormalForm}
use Rattle.kb_word.specs.declared.presentation.Presentation.{Presentation}
use Rattle.kb_word.specs.declared.word_order.WordOrder.{WordOrder}
use Rattle.kb_word.specs.declared.word_order.WordOrder.TheVariants.{ShortLex}
use Rattle.kb_word.proofs.PathLemmas.{congruent_symmetric, congruent_transitive}
use Rattle.kb_rules.proofs.Exists.{nothing_below_empty}
use Rattle.kb_diff.specs.Groups.{group_of}
use Rattle.kb_diff.specs.Differences.{HaveDifferences}
use Rattle.kb_diff.proofs.GroupLemmas.{empty_is_irreducible}
use Rattle.kb_diff.proofs.OverGenerators.{invert_within}
use Rattle.kb_reduced.specs.Reduced.{IsReducedComplete}
use Rattle.kb_structure.proofs.Letters.{over_append, over_empty, over_first, over_last}
use Rattle.kb_structure.proofs.Words.{congruent_before}
use Rattle.kb_structure.proofs.InverseRelations.{letter_cancels}
use Rattle.kb_round.proofs.Elements.{AreSame, IsCompleteGroup, has_normal, least_of_irreducible, one_irreducible, relations, same_as_normal, same_over}
use Rattle.kb_round.proofs.KeptDifferences.{kept_of_differences}

module _ (presentation : Presentation) (rules : List Pair) (is : IsCompleteGroup presentation rules)
    (shortlex : presentation.order ≡ ShortLex) where
  -- a shorter word is below
  shorter_below : (u v : List ℕ) → length u < length v → Below presentation.order u v
  shorter_below u v less = let P : WordOrder → Type 0 = λ order. Below order u v in subst P (sym shortlex) (shorter less)

  -- an irreducible word is no longer than another of its element
  no_longer : (w m : List ℕ) → AreSame presentation w m → IsIrreducible (OneOf rules) m → length m ≤ length w
  no_longer w m same irreducible = elim (cases_lt (length w) (length m)) [
    | inl less ↦
        let least = least_of_irreducible presentation rules is m irreducible in
        absurd (least.least w (congruent_symmetric same) (shorter_below w m less))
    | inr within ↦ within
  ]

  empty : IsIrreducible (OneOf rules) []
  empty = empty_is_irreducible presentation.order rules is.complete.decreasing

  module _ (reduced : IsReducedComplete (Below presentation.order) (relations presentation) rules) (words : List (List ℕ))
      (has_empty : Contains words [])
      (kept : (rule : Pair) → OneOf rules rule → HaveDifferences (group_of presentation rules) words rule.0 rule.1) where
    -- two irreducible letters that cancel are the left side of a rule
    cancelling_rule : (y z : ℕ) → IsIrreducible (OneOf rules) (y ∷ []) → IsIrreducible (OneOf rules) (z ∷ [])
        → AreSame presentation (y ∷ z ∷ []) [] → OneOf rules (y ∷ z ∷ [], [])
    cancelling_rule y z first second same =
        let order = word_orders presentation.order in
        reduced.all (y ∷ z ∷ [], []) (record {
          not_least = λ least. least.least [] same (shorter_below [] (y ∷ z ∷ []) (omega arith));
          behind_first = least_of_irreducible presentation rules is (z ∷ []) second;
          before_last = least_of_irreducible presentation rules is (y ∷ []) first;
          least = record { congruent = same; least = λ v also. nothing_below_empty order v };
        })

    -- the second of them is the difference behind the first
    second_kept : (y z : ℕ) → IsOver presentation.n (y ∷ z ∷ []) → IsIrreducible (OneOf rules) (y ∷ []) → IsIrreducible (OneOf rules) (z ∷ [])
        → AreSame presentation (y ∷ z ∷ []) [] → Contains words (z ∷ [])
    second_kept y z over first second same =
        let one = cancelling_rule y z first second same in
        kept_of_differences presentation rules is words (y ∷ z ∷ []) [] over (kept (y ∷ z ∷ [], []) one) 1 (z ∷ []) (omega arith) second same

    -- so an irreducible generator is kept, where an irreducible word is its inverse
    beside_inverse : (z : ℕ) (inverse : List ℕ) → IsOver presentation.n (z ∷ []) → IsOver presentation.n inverse → length inverse ≤ 1
        → IsIrreducible (OneOf rules) (z ∷ []) → IsIrreducible (OneOf rules) inverse → AreSame presentation (inverse ++ z ∷ []) []
        → Contains words (z ∷ [])
    beside_inverse z [] over also short second first same =
        absurd (let none = one_irreducible presentation rules is (z ∷ []) [] same second empty in cc none)
    beside_inverse z (y ∷ []) over also short second first same =
        second_kept y z (over_append presentation.n (y ∷ []) (z ∷ []) also over) first second same
    beside_inverse z (y ∷ x ∷ rest) over also short second first same = absurd (let no : ⊥ = omega arith in no)

    irreducible_kept : (z : ℕ) → IsOver presentation.n (z ∷ []) → IsIrreducible (OneOf rules) (z ∷ []) → Contains words (z ∷ [])
    irreducible_kept z over irreducible =
        let n = presentation.n in
        let given = presentation.is_presentation in
        let letter = over_first n z [] over in
        let inverse = is.each z letter.0 letter.1 in
        let within = invert_within n presentation.order presentation.names presentation.inv presentation.eqs given z inverse.0 inverse.1 in
        let cancels : AreSame presentation (inverse.0 ∷ z ∷ []) [] =
        letter_cancels presentation.inv presentation.eqs inverse.0 z (given.mutual_inverses z inverse.0 inverse.1) in
        let normal = has_normal presentation rules is (inverse.0 ∷ []) in
        let same = same_as_normal presentation rules is (inverse.0 ∷ []) normal.0 normal.1 in
        let alone = over_last n [] inverse.0 (over_empty n) within in
        beside_inverse z normal.0 over (same_over presentation rules is (inverse.0 ∷ []) normal.0 same alone)
        (no_longer (inverse.0 ∷ []) normal.0 same normal.1.irreducible) irreducible normal.1.irreducible
        (congruent_transitive (congruent_before (z ∷ []) (congruent_symmetric same)) cancels)

    short_kept : (f : List ℕ) → length f ≤ 1 → IsOver presentation.n f → IsIrreducible (OneOf rules) f → Contains words f
    short_kept [] short over irreducible = has_empty
    short_kept (z ∷ []) short over irreducible = irreducible_kept z over irreducible
    short_kept (z ∷ y ∷ rest) short over irreducible = absurd (let no : ⊥ = omega arith in no)

    -- the normal form of a generator is kept
    pub generator_kept : (x : ℕ) (f : List ℕ) → IsOver presentation.n (x ∷ []) → NormalForm rules (x ∷ []) f → Contains words f
    generator_kept x f over normal =
        let same = same_as_normal presentation rules is (x ∷ []) f normal in
        short_kept f (no_longer (x ∷ []) f same normal.irreducible) (same_over presentation rules is (x ∷ []) f same over) normal.irreducible
