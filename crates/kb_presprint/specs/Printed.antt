-- The text of a presentation as it is printed.
use Rattle.std.specs.Prelude.{ℕ, Bool, true, false, pos, List, [], ◌∷◌, map, codes, Option, None}
use Rattle.std.specs.Option.{option_map}
use Rattle.kb_word.specs.Words.{Pair}
use Rattle.kb_word.specs.Printed.{letter_name}
use Rattle.kb_word.specs.Presentations.{PresentationParts}
use Rattle.kb_word.specs.declared.word_order.WordOrder.{WordOrder}
use Rattle.kb_word.specs.declared.word_order.WordOrder.TheVariants as orders
use Rattle.kb_record.specs.Tree.{named, Factors, no_factors, factor, Value, string_value, list_value, Fields, no_fields, field, no_places, TextTree}
use Rattle.kb_layout.specs.Layout.{printed}
use Rattle.kb_fields.specs.Fields.{bare_name, list_of_names, list_of_numbers}
use Rattle.kb_presfile.specs.Kinds.{list_of_places, list_of_equations}

-- a name for each letter
abbrev pub letter_factors : List (List ℕ) → List ℕ → Factors
letter_factors names [] = no_factors
letter_factors names (x ∷ w) = factor (named (letter_name names x) None) (letter_factors names w)

-- `IdWord`, or the names of the word's letters
abbrev pub word_factors : List (List ℕ) → List ℕ → Factors
word_factors names [] = factor (named (codes "IdWord") None) no_factors
word_factors names (x ∷ w) = letter_factors names (x ∷ w)

-- both sides of a rule, the left one first
abbrev pub side_factors : List (List ℕ) → Pair → Factors × Factors
side_factors names rule = (word_factors names rule.0, word_factors names rule.1)

-- the rules as equations
abbrev pub rules_value : List (List ℕ) → List Pair → Value
rules_value names rules = list_value (list_of_equations (map (side_factors names) rules))

-- the name of each generator's inverse, where it has one
abbrev pub inverse_names : List (List ℕ) → List (Option ℕ) → List (Option (List ℕ))
inverse_names names inverses = map (option_map (letter_name names)) inverses

-- A place for each generator, empty where it has no inverse. Of one generator without inverse the list is empty: one
-- empty place alone can't be written, and a place that is missing counts as empty.
abbrev pub inverses_value : List (List ℕ) → List (Option ℕ) → Value
inverses_value names (None ∷ []) = list_value no_places
inverses_value names inverses = list_value (list_of_places (inverse_names names inverses))

-- what a truth value is called
abbrev pub truth_name : Bool → List ℕ
truth_name true = codes "true"
truth_name false = codes "false"

-- what an order is called
abbrev pub order_name : WordOrder → List ℕ
order_name orders.ShortLex = codes "shortlex"
order_name (orders.WtLex weights) = codes "wtlex"

abbrev pub weights_value : List ℕ → Value
weights_value weights = list_value (list_of_numbers (map pos weights))

-- the weights, where the order goes by weight, before other fields
abbrev pub with_weights : WordOrder → Fields → Fields
with_weights orders.ShortLex others = others
with_weights (orders.WtLex weights) others = field (codes "weight") (weights_value weights) others

-- the tree of a presentation with these rules as its equations
abbrev pub tree_of : PresentationParts → List Pair → Bool → TextTree
tree_of parts rules confluent = record {
  title = codes "_RWS";
  fields =
      field (codes "isRWS") (bare_name (codes "true"))
      (field (codes "isConfluent") (bare_name (truth_name confluent))
      (field (codes "ordering") (string_value (order_name parts.order))
      (field (codes "generatorOrder") (list_value (list_of_names parts.names))
      (with_weights parts.order
      (field (codes "inverses") (inverses_value parts.names parts.inverses)
      (field (codes "equations") (rules_value parts.names rules) no_fields))))));
}

-- the one printed text of a presentation with these rules, which says whether they are confluent
unfoldable pub text_of_presentation : PresentationParts → List Pair → Bool → List ℕ
text_of_presentation parts rules confluent = printed (tree_of parts rules confluent)
