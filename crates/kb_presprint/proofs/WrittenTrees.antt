-- The tree of a presentation with rules can be spelled, is shallow, and has no field twice.
use Rattle.std.proofs.Common.{◌≡◌, ℕ, zero, suc, ◌<◌, ◌≤◌, Bool, true, false, pos, List, [], ◌∷◌, map, length, get_or, slice_get, Option, Some, None, option_and_then, refl, sym, ap, subst, ◌∙◌, arith}
use Rattle.std.specs.Prelude.{codes}
use Rattle.std.specs.List.{All, AllByRecursion}
use Rattle.std.specs.Option.{unwrap_or}
use Rattle.std.proofs.Math.Nat.{max-le}
use Rattle.std.proofs.lemmas.List.Elements.{All-head, All-tail}
use Rattle.std.proofs.lemmas.Option.{slice_get-get_or, slice_get_within}
use Rattle.kb_word.specs.Words.{Pair, OneOf}
use Rattle.kb_word.specs.Weights.{IsWeight}
use Rattle.kb_word.specs.Names.{name_of}
use Rattle.kb_word.specs.Printed.{letter_name}
use Rattle.kb_word.specs.Relations.{inverse_letter, IsOver}
use Rattle.kb_word.specs.Presentations.{PresentationParts}
use Rattle.kb_word.specs.declared.word_order.WordOrder.{WordOrder}
use Rattle.kb_word.specs.declared.word_order.WordOrder.TheVariants as orders
use Rattle.kb_record.specs.Tree.{record_value, Fields}
use Rattle.kb_record.specs.Spelling.{IsName, IsStringByte}
use Rattle.kb_record.specs.Grammar.{IsWord, AreFactorTrees, IsValue, AreFields, IsPlaceList, ArePlaces}
use Rattle.kb_layout.specs.Layout.{IsSpelledWord, IsSpelledValue, AreSpelledFields, AreSpelledPlaces}
use Rattle.kb_record.specs.Nesting.{word_nesting, value_nesting, fields_nesting, places_nesting, text_nesting, deepest}
use Rattle.kb_fields.specs.Fields.{list_of_numbers, field_names, HasFieldTwice, SomePlaceHasTwice}
use Rattle.kb_layout.proofs.SpelledValues.{word_is_name, string_bytes, none_stands_twice}
use Rattle.kb_layout.proofs.WrittenLists.{names_formed, numbers_formed, names_shallow, numbers_shallow, none_of, nothing, names_once, numbers_once, short, names_spelled}
use Rattle.kb_presfile.specs.Kinds.{list_of_places, two_places, list_of_equations}
use Rattle.kb_presprint.specs.Printed.{letter_factors, word_factors, side_factors, inverse_names, inverses_value, truth_name, order_name, with_weights, tree_of}
use Rattle.kb_presprint.specs.Printable.{IsPrintable}

-- ---- trees that can be written

letters_formed : (names : List (List ℕ)) (w : List ℕ) → AreFactorTrees (letter_factors names w)
letters_formed names [] = tt
letters_formed names (x ∷ w) = (tt, letters_formed names w)

word_formed : (names : List (List ℕ)) (w : List ℕ) → IsWord (word_factors names w)
word_formed names [] = (tt, tt)
word_formed names (x ∷ w) = (tt, letters_formed names w)

rules_formed : (names : List (List ℕ)) (rules : List Pair)
    → IsPlaceList (list_of_equations (map (side_factors names) rules)) × ArePlaces (list_of_equations (map (side_factors names) rules))
rules_formed names [] = (tt, tt)
rules_formed names (rule ∷ rules) =
    (tt, ((tt, (word_formed names rule.0, (word_formed names rule.1, tt))), (rules_formed names rules).1))

places_formed : (names : List (List ℕ)) (inverses : List (Option ℕ)) → ArePlaces (list_of_places (inverse_names names inverses))
places_formed names [] = tt
places_formed names (None ∷ inverses) = places_formed names inverses
places_formed names (Some x ∷ inverses) = ((tt, tt), places_formed names inverses)

inverses_formed : (names : List (List ℕ)) (inverses : List (Option ℕ)) → IsValue (inverses_value names inverses)
inverses_formed names [] = (tt, tt)
inverses_formed names (None ∷ []) = (tt, tt)
inverses_formed names (None ∷ (None ∷ inverses)) = (tt, places_formed names (None ∷ (None ∷ inverses)))
inverses_formed names (None ∷ (Some x ∷ inverses)) = (tt, places_formed names (None ∷ (Some x ∷ inverses)))
inverses_formed names (Some x ∷ inverses) = (tt, places_formed names (Some x ∷ inverses))

weighted_formed : (order : WordOrder) (others : Fields) → AreFields others → AreFields (with_weights order others)
weighted_formed orders.ShortLex others formed = formed
weighted_formed (orders.WtLex weights) others formed = (numbers_formed (map pos weights), formed)

pub tree_formed : (parts : PresentationParts) (rules : List Pair) (confluent : Bool) → AreFields (tree_of parts rules confluent).fields
tree_formed parts rules confluent = (
  (tt, tt),
  (
    (tt, tt),
    (
      tt,
      (
        names_formed parts.names,
        weighted_formed parts.order _ (inverses_formed parts.names parts.inverses, (rules_formed parts.names rules, tt)),
      ),
    ),
  ),
)

-- ---- how deep they nest

letters_shallow : (names : List (List ℕ)) (w : List ℕ) → word_nesting (letter_factors names w) ≤ 0
letters_shallow names [] = omega arith
letters_shallow names (x ∷ w) = max-le (omega arith) (letters_shallow names w)

word_shallow : (names : List (List ℕ)) (w : List ℕ) → word_nesting (word_factors names w) ≤ 0
word_shallow names [] = omega arith
word_shallow names (x ∷ w) = letters_shallow names (x ∷ w)

sides_shallow : (names : List (List ℕ)) (rule : Pair) → places_nesting (two_places (side_factors names rule)) ≤ 0
sides_shallow names rule = max-le (word_shallow names rule.0) (max-le (word_shallow names rule.1) (omega arith))

rules_shallow : (names : List (List ℕ)) (rules : List Pair) → places_nesting (list_of_equations (map (side_factors names) rules)) ≤ 1
rules_shallow names [] = omega arith
rules_shallow names (rule ∷ rules) = max-le (omega (arith, sides_shallow names rule)) (rules_shallow names rules)

places_shallow : (names : List (List ℕ)) (inverses : List (Option ℕ)) → places_nesting (list_of_places (inverse_names names inverses)) ≤ 0
places_shallow names [] = omega arith
places_shallow names (None ∷ inverses) = places_shallow names inverses
places_shallow names (Some x ∷ inverses) = max-le (omega arith) (places_shallow names inverses)

inverses_shallow : (names : List (List ℕ)) (inverses : List (Option ℕ)) → value_nesting (inverses_value names inverses) ≤ 1
inverses_shallow names [] = omega arith
inverses_shallow names (None ∷ []) = omega arith
inverses_shallow names (None ∷ (inverse ∷ inverses)) = omega (arith, places_shallow names (None ∷ (inverse ∷ inverses)))
inverses_shallow names (Some x ∷ inverses) = omega (arith, places_shallow names (Some x ∷ inverses))

weighted_shallow : (order : WordOrder) (others : Fields) → fields_nesting others ≤ 2 → fields_nesting (with_weights order others) ≤ 2
weighted_shallow orders.ShortLex others shallow = shallow
weighted_shallow (orders.WtLex weights) others shallow = max-le (omega (arith, numbers_shallow (map pos weights))) shallow

fields_shallow : (parts : PresentationParts) (rules : List Pair) (confluent : Bool) → fields_nesting (tree_of parts rules confluent).fields ≤ 2
fields_shallow parts rules confluent =
    max-le (omega arith) (max-le (omega arith) (max-le (omega arith) (max-le (omega (arith, names_shallow parts.names))
    (weighted_shallow parts.order _ (max-le (omega (arith, inverses_shallow parts.names parts.inverses))
    (max-le (omega (arith, rules_shallow parts.names rules)) (omega arith)))))))

pub tree_shallow : (parts : PresentationParts) (rules : List Pair) (confluent : Bool) → text_nesting (tree_of parts rules confluent) ≤ deepest
tree_shallow parts rules confluent = omega (arith, fields_shallow parts rules confluent)

-- ---- no field stands twice

rules_once : (names : List (List ℕ)) (rules : List Pair) (name : List ℕ) → SomePlaceHasTwice (list_of_equations (map (side_factors names) rules)) name → ⊥
rules_once names [] name f = f
rules_once names (rule ∷ rules) name f = none_of (none_of nothing (none_of nothing nothing)) (rules_once names rules name) f

places_once : (names : List (List ℕ)) (inverses : List (Option ℕ)) (name : List ℕ) → SomePlaceHasTwice (list_of_places (inverse_names names inverses)) name → ⊥
places_once names [] name f = f
places_once names (None ∷ inverses) name f = places_once names inverses name f
places_once names (Some x ∷ inverses) name f = none_of nothing (places_once names inverses name) f

inverses_once : (names : List (List ℕ)) (inverses : List (Option ℕ)) (name : List ℕ) → HasFieldTwice (inverses_value names inverses) name → ⊥
inverses_once names [] name f = f
inverses_once names (None ∷ []) name f = f
inverses_once names (None ∷ (inverse ∷ inverses)) name f = places_once names (None ∷ (inverse ∷ inverses)) name f
inverses_once names (Some x ∷ inverses) name f = places_once names (Some x ∷ inverses) name f

by_order : (order : WordOrder) (names : List (List ℕ)) (inverses : List (Option ℕ)) (rules : List Pair) (confluent : Bool) (name : List ℕ)
    → HasFieldTwice (record_value (tree_of (record { order = order; names = names; inverses = inverses; equations = [] }) rules confluent).fields) name → ⊥
by_order orders.ShortLex names inverses rules confluent name f =
    none_of (none_stands_twice (field_names (tree_of (record { order = orders.ShortLex; names = names; inverses = inverses; equations = [] }) rules confluent).fields) name refl)
    (none_of nothing (none_of nothing (none_of nothing (none_of (names_once names name)
    (none_of (inverses_once names inverses name) (none_of (rules_once names rules name) nothing)))))) f
by_order (orders.WtLex weights) names inverses rules confluent name f =
    none_of (none_stands_twice (field_names (tree_of (record { order = orders.WtLex weights; names = names; inverses = inverses; equations = [] }) rules confluent).fields) name refl)
    (none_of nothing (none_of nothing (none_of nothing (none_of (names_once names name) (none_of (numbers_once (map pos weights) name)
    (none_of (inverses_once names inverses name) (none_of (rules_once names rules name) nothing))))))) f

pub tree_once : (parts : PresentationParts) (rules : List Pair) (confluent : Bool) (name : List ℕ)
    → HasFieldTwice (record_value (tree_of parts rules confluent).fields) name → ⊥
tree_once parts rules confluent name f = by_order parts.order parts.names parts.inverses rules confluent name f

-- ---- names, strings and numbers are spelled

-- a generator has a name
pub letter_named : (names : List (List ℕ)) (x : ℕ) → 0 < x → x ≤ length names → name_of names x ≡ Some (letter_name names x)
letter_named names zero some most = absurd (omega (arith, some))
letter_named names (suc place) some most =
    let at = slice_get-get_or names place [] (omega (arith, most)) in
    at ∙ ap Some (sym (ap (λ o. unwrap_or o []) at))

letter_spelled : (names : List (List ℕ)) (x : ℕ) → All IsName names → (0 < x) × (x ≤ length names) → IsName (letter_name names x)
letter_spelled names zero each over = absurd (omega (arith, over.0))
letter_spelled names (suc place) each over =
    let within : place < length names = omega (arith, over.1) in
    let name : get_or names place [] ≡ letter_name names (suc place) = sym (ap (λ o. unwrap_or o []) (slice_get-get_or names place [] within)) in
    subst IsName name (each place [] within)

letters_spelled : (names : List (List ℕ)) (w : List ℕ) → All IsName names → IsOver (length names) w → IsSpelledWord (letter_factors names w)
letters_spelled names [] each over = tt
letters_spelled names (x ∷ w) each over =
    let P : ℕ → Type 0 = λ y. (0 < y) × (y ≤ length names) in
    ((letter_spelled names x each (All-head P x w over), tt), letters_spelled names w each (All-tail P x w over))

word_spelled : (names : List (List ℕ)) (w : List ℕ) → All IsName names → IsOver (length names) w → IsSpelledWord (word_factors names w)
word_spelled names [] each over = ((word_is_name (codes "IdWord") refl, tt), tt)
word_spelled names (x ∷ w) each over = letters_spelled names (x ∷ w) each over

rules_spelled : (names : List (List ℕ)) (rules : List Pair) → All IsName names
    → ((rule : Pair) → OneOf rules rule → IsOver (length names) rule.0 × IsOver (length names) rule.1)
    → AreSpelledPlaces (list_of_equations (map (side_factors names) rules))
rules_spelled names [] each over = tt
rules_spelled names (rule ∷ rules) each over =
    let sides = over rule (0, refl) in (
      (word_spelled names rule.0 each sides.0, (word_spelled names rule.1 each sides.1, tt)),
      rules_spelled names rules each (λ other at. over other (suc at.0, at.1)),
    )

-- a letter that has an inverse is one of the generators
pub inverse_within : (inverses : List (Option ℕ)) (y x : ℕ) → inverse_letter inverses y ≡ Some x → (0 < y) × (y ≤ length inverses)
inverse_within inverses zero x e = cc
inverse_within inverses (suc place) x e = go (slice_get inverses place) refl e
  where
    go : (o : Option (Option ℕ)) → slice_get inverses place ≡ o → option_and_then (λ inverse. inverse) o ≡ Some x → (0 < suc place) × (suc place ≤ length inverses)
    go None is found = cc
    go (Some inverse) is found = let within = slice_get_within inverses place inverse is in (omega arith, omega (arith, within))

places_spelled : (names : List (List ℕ)) (inverses : List (Option ℕ)) → All IsName names
    → ((place y : ℕ) → slice_get inverses place ≡ Some (Some y) → (0 < y) × (y ≤ length names))
    → AreSpelledPlaces (list_of_places (inverse_names names inverses))
places_spelled names [] each over = tt
places_spelled names (None ∷ inverses) each over = places_spelled names inverses each (λ place y at. over (suc place) y at)
places_spelled names (Some x ∷ inverses) each over =
    (((letter_spelled names x each (over 0 x refl), tt), tt), places_spelled names inverses each (λ place y at. over (suc place) y at))

inverses_spelled : (names : List (List ℕ)) (inverses : List (Option ℕ)) → AreSpelledPlaces (list_of_places (inverse_names names inverses))
    → IsSpelledValue (inverses_value names inverses)
inverses_spelled names [] spelled = tt
inverses_spelled names (None ∷ []) spelled = tt
inverses_spelled names (None ∷ (inverse ∷ inverses)) spelled = spelled
inverses_spelled names (Some x ∷ inverses) spelled = spelled

weights_spelled : (weights : List ℕ) → All IsWeight weights → AreSpelledPlaces (list_of_numbers (map pos weights))
weights_spelled [] each = tt
weights_spelled (weight ∷ weights) each =
    let first = All-head IsWeight weight weights each in
    (short weight (omega (arith, first.1)), weights_spelled weights (All-tail IsWeight weight weights each))

weighted_spelled : (order : WordOrder) (others : Fields) → ((weights : List ℕ) → order ≡ orders.WtLex weights → All IsWeight weights)
    → AreSpelledFields others → AreSpelledFields (with_weights order others)
weighted_spelled orders.ShortLex others each spelled = spelled
weighted_spelled (orders.WtLex weights) others each spelled = (word_is_name (codes "weight") refl, weights_spelled weights (each weights refl), spelled)

truth_spelled : (truth : Bool) → IsName (truth_name truth)
truth_spelled true = word_is_name (codes "true") refl
truth_spelled false = word_is_name (codes "false") refl

order_spelled : (order : WordOrder) → AllByRecursion IsStringByte (order_name order)
order_spelled orders.ShortLex = string_bytes (codes "shortlex") refl
order_spelled (orders.WtLex weights) = string_bytes (codes "wtlex") refl

pub tree_spelled : (parts : PresentationParts) (rules : List Pair) (confluent : Bool) → IsPrintable parts rules
    → AreSpelledFields (tree_of parts rules confluent).fields
tree_spelled parts rules confluent is = (
  word_is_name (codes "isRWS") refl,
  ((word_is_name (codes "true") refl, tt), tt),
  (
    word_is_name (codes "isConfluent") refl,
    ((truth_spelled confluent, tt), tt),
    (
      word_is_name (codes "ordering") refl,
      order_spelled parts.order,
      (
        word_is_name (codes "generatorOrder") refl,
        names_spelled parts.names is.names,
        weighted_spelled parts.order _ is.weights (
          word_is_name (codes "inverses") refl,
          inverses_spelled parts.names parts.inverses (places_spelled parts.names parts.inverses is.names over),
          (word_is_name (codes "equations") refl, rules_spelled parts.names rules is.names is.presents.letters, tt),
        ),
      ),
    ),
  ),
)
  where
    over : (place y : ℕ) → slice_get parts.inverses place ≡ Some (Some y) → (0 < y) × (y ≤ length parts.names)
    over place y at =
        let back = is.presents.mutual_inverses (suc place) y (ap (option_and_then (λ inverse. inverse)) at) in
        let within = inverse_within parts.inverses y (suc place) back in
        (within.0, omega (arith, within.1, is.presents.one_inverse_each))

pub title_spelled : (parts : PresentationParts) (rules : List Pair) (confluent : Bool) → IsName (tree_of parts rules confluent).title
title_spelled parts rules confluent = word_is_name (codes "_RWS") refl
