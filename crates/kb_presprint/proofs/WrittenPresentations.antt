-- The tree of a presentation with rules says the presentation with the rules as its equations.
use Rattle.std.proofs.Common.{◌≡◌, ℕ, zero, suc, ◌<◌, ◌≤◌, Bool, pos, List, [], ◌∷◌, map, length, get_or, slice_get, Option, Some, None, option_and_then, refl, sym, ap, subst, ◌∙◌, arith}
use Rattle.std.specs.Prelude.{codes}
use Rattle.std.specs.List.{All}
use Rattle.std.specs.Option.{option_map}
use Rattle.std.proofs.lemmas.List.{length-map}
use Rattle.std.proofs.lemmas.Option.{slice_get-get_or, slice_get_within}
use Rattle.kb_word.specs.Words.{Pair}
use Rattle.kb_word.specs.Weights.{IsWeight}
use Rattle.kb_word.specs.WordOrders.{WeighsEach}
use Rattle.kb_word.specs.Printed.{letter_name}
use Rattle.kb_word.specs.Relations.{inverse_letter}
use Rattle.kb_word.specs.Presentations.{PresentationParts}
use Rattle.kb_word.specs.declared.word_order.WordOrder.{WordOrder}
use Rattle.kb_word.specs.declared.word_order.WordOrder.TheVariants as orders
use Rattle.kb_record.specs.Tree.{Factors, Value, list_value, record_value, Fields}
use Rattle.kb_record.specs.Meaning.{letter_from}
use Rattle.kb_fields.specs.Fields.{value_of, place_count, HasFieldTwice}
use Rattle.kb_fields.specs.Generators.{AreGeneratorNames}
use Rattle.kb_presprint.specs.Printed.{side_factors, inverse_names, inverses_value, with_weights, tree_of}
use Rattle.kb_presprint.specs.Printable.{IsPrintable}
use Rattle.kb_presprint.proofs.WrittenTrees.{inverse_within}
use Rattle.kb_presfile.specs.Kinds.{list_of_places, list_of_equations}
use Rattle.kb_presfile.specs.Holds.{HasOrder, HoldsPlaces, place_at, AreMutual, GivesInverses, HasInverses, HasEquations, HoldsPresentation}
use Rattle.kb_presprint.specs.Written.{with_equations, HaveRoom}
use Rattle.kb_presfile.proofs.InverseLemmas.{same_text, inverse_read}
use Rattle.kb_presprint.proofs.WrittenWords.{letter_read, rules_read}

-- ---- inverses

-- the places that are written: of one generator without inverse none
abbrev written_places : List (List ℕ) → List (Option ℕ) → List (Option (List ℕ))
written_places names (None ∷ []) = []
written_places names inverses = inverse_names names inverses

places_written : (names : List (List ℕ)) (inverses : List (Option ℕ)) → inverses_value names inverses ≡ list_value (list_of_places (written_places names inverses))
places_written names [] = refl
places_written names (None ∷ []) = refl
places_written names (None ∷ (inverse ∷ inverses)) = refl
places_written names (Some x ∷ inverses) = refl

named_place : (names : List (List ℕ)) (inverses : List (Option ℕ)) (k : ℕ)
    → place_at (inverse_names names inverses) k ≡ option_map (letter_name names) (inverse_letter inverses (suc k))
named_place names [] k = refl
named_place names (None ∷ inverses) zero = refl
named_place names (Some x ∷ inverses) zero = refl
named_place names (inverse ∷ inverses) (suc k) = named_place names inverses k

-- at each place stands the name of the inverse, if there is one
written_place : (names : List (List ℕ)) (inverses : List (Option ℕ)) (k : ℕ)
    → place_at (written_places names inverses) k ≡ option_map (letter_name names) (inverse_letter inverses (suc k))
written_place names [] k = refl
written_place names (None ∷ []) zero = refl
written_place names (None ∷ []) (suc k) = refl
written_place names (None ∷ (inverse ∷ inverses)) k = named_place names (None ∷ (inverse ∷ inverses)) k
written_place names (Some x ∷ inverses) k = named_place names (Some x ∷ inverses) k

module _ (names : List (List ℕ)) (inverses : List (Option ℕ)) (free : AreGeneratorNames names) (one_each : length inverses ≡ length names)
    (both_ways : AreMutual inverses) where
  within : (k x : ℕ) → inverse_letter inverses (suc k) ≡ Some x → (0 < x) × (x ≤ length names)
  within k x is = let bounds = inverse_within inverses x (suc k) (both_ways (suc k) x is) in (bounds.0, omega (arith, bounds.1, one_each))

  some_read : (k : ℕ) (name : List ℕ) → place_at (written_places names inverses) k ≡ Some name
      → (x : ℕ) × (letter_from 1 names name ≡ Some x) × (slice_get inverses k ≡ Some (Some x))
  some_read k name at = go (inverse_letter inverses (suc k)) refl (sym (written_place names inverses k) ∙ at)
    where
      go : (o : Option ℕ) → inverse_letter inverses (suc k) ≡ o → option_map (letter_name names) o ≡ Some name
          → (x : ℕ) × (letter_from 1 names name ≡ Some x) × (slice_get inverses k ≡ Some (Some x))
      go None is named = cc
      go (Some x) is named =
          let same : letter_name names x ≡ name = same_text named in
          (x, ap (letter_from 1 names) (sym same) ∙ letter_read names free x (within k x is), inverse_read inverses k x is)

  empty_read : (k : ℕ) → k < length names → place_at (written_places names inverses) k ≡ None → slice_get inverses k ≡ Some None
  empty_read k inside at = go (get_or inverses k None) (slice_get-get_or inverses k None (omega (arith, inside, one_each)))
    where
      go : (o : Option ℕ) → slice_get inverses k ≡ Some o → slice_get inverses k ≡ Some None
      go None is = is
      go (Some x) is =
          let stands = written_place names inverses k ∙ ap (λ o. option_map (letter_name names) (option_and_then (λ inverse. inverse) o)) is in
          let never = sym at ∙ stands in cc

  none_past : (k : ℕ) → length names ≤ k → place_at (written_places names inverses) k ≡ None
  none_past k past = go (slice_get inverses k) refl
    where
      go : (o : Option (Option ℕ)) → slice_get inverses k ≡ o → place_at (written_places names inverses) k ≡ None
      go None is = written_place names inverses k ∙ ap (λ o. option_map (letter_name names) (option_and_then (λ inverse. inverse) o)) is
      go (Some inverse) is = let inside = slice_get_within inverses k inverse is in absurd (omega (arith, inside, past, one_each))

  inverses_written : GivesInverses names (written_places names inverses) inverses
  inverses_written = record {
    letters = record { one_each = one_each; some = λ k name at inside. some_read k name at; empty = empty_read };
    none_past = none_past;
    both_ways = both_ways;
  }

-- ---- fields behind the weights

inverses_behind : (order : WordOrder) (others : Fields) → value_of (with_weights order others) (codes "inverses") ≡ value_of others (codes "inverses")
inverses_behind orders.ShortLex others = refl
inverses_behind (orders.WtLex weights) others = refl

equations_behind : (order : WordOrder) (others : Fields) → value_of (with_weights order others) (codes "equations") ≡ value_of others (codes "equations")
equations_behind orders.ShortLex others = refl
equations_behind (orders.WtLex weights) others = refl

-- the tree by its parts
abbrev fields_by : WordOrder → List (List ℕ) → List (Option ℕ) → List Pair → Bool → Fields
fields_by order names inverses rules confluent =
    (tree_of (record { order = order; names = names; inverses = inverses; equations = [] }) rules confluent).fields

order_written : (order : WordOrder) (names : List (List ℕ)) (inverses : List (Option ℕ)) (rules : List Pair) (confluent : Bool)
    → ((weights : List ℕ) → order ≡ orders.WtLex weights → All IsWeight weights) → WeighsEach (length names) order
    → HasOrder (fields_by order names inverses rules confluent) names order
order_written orders.ShortLex names inverses rules confluent fair each = refl
order_written (orders.WtLex weights) names inverses rules confluent fair each = (
  refl,
  record {
    numbers = map pos weights;
    listed = refl;
    are = record { same = refl; one_each = each weights refl; range = fair weights refl };
  },
)

equation_count : (sides : List (Factors × Factors)) → place_count (list_of_equations sides) ≡ length sides
equation_count [] = refl
equation_count (side ∷ sides) = ap suc (equation_count sides)

module _ (parts : PresentationParts) (rules : List Pair) (confluent : Bool) (free : AreGeneratorNames parts.names) (is : IsPrintable parts rules)
    (room : HaveRoom rules) where
  abbrev fields : Fields
  fields = (tree_of parts rules confluent).fields

  held_inverses : HasInverses fields parts.names parts.inverses
  held_inverses =
      let P : Option Value → Type 0 = λ value. HoldsPlaces value (written_places parts.names parts.inverses) in
      record {
        places = written_places parts.names parts.inverses;
        placed = subst P (sym (inverses_behind parts.order _)) (places_written parts.names parts.inverses);
        gives = inverses_written parts.names parts.inverses free is.presents.one_inverse_each is.presents.mutual_inverses;
      }

  held_equations : HasEquations fields parts.names parts.inverses rules
  held_equations =
      let sides = map (side_factors parts.names) rules in
      let count = equation_count sides ∙ length-map rules (side_factors parts.names) in
      record {
        places = list_of_equations sides;
        listed = equations_behind parts.order _;
        few = omega (arith, count, room.few);
        read = record { sides = sides; listed = refl; meanings = rules_read parts.names free parts.inverses rules is.presents.letters room.short };
      }

  pub presentation_written : ((name : List ℕ) → ¬ HasFieldTwice (record_value (tree_of parts rules confluent).fields) name)
      → HoldsPresentation (tree_of parts rules confluent).fields (with_equations parts rules)
  presentation_written once = record {
    once = once;
    is_rws = refl;
    named = refl;
    names = free;
    ordered = order_written parts.order parts.names parts.inverses rules confluent is.weights is.presents.one_weight_each;
    inverses = held_inverses;
    equations = held_equations;
  }
