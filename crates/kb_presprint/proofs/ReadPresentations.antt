-- A presentation that was read has Names, and weights that generators may have.
use Rattle.std.proofs.Common.{◌≡◌, ℕ, Bool, true, false, if◌then◌else◌, nat_eq, List, [], ◌∷◌, length, Some, subst}
use Rattle.std.specs.Prelude.{codes}
use Rattle.std.specs.List.{All}
use Rattle.std.specs.Cmp.Lexicographic.{pointwise}
use Rattle.std.proofs.lemmas.List.Elements.{All-nil, All-cons}
use Rattle.kb_word.specs.Words.{Pair}
use Rattle.kb_word.specs.Weights.{IsWeight}
use Rattle.kb_word.specs.Relations.{IsPresentation}
use Rattle.kb_word.specs.Presentations.{PresentationParts}
use Rattle.kb_word.specs.declared.word_order.WordOrder.{WordOrder}
use Rattle.kb_word.specs.declared.word_order.WordOrder.TheVariants as orders
use Rattle.kb_record.specs.Tree.{Value, Fields, no_fields, field}
use Rattle.kb_record.specs.Spelling.{IsName}
use Rattle.kb_layout.specs.Layout.{IsSpelledValue, AreSpelledFields, AreSpelledPlaces}
use Rattle.kb_fields.specs.Fields.{value_of, list_of_names}
use Rattle.kb_fields.proofs.ListingLemmas.{some_value}
use Rattle.kb_presprint.specs.Printable.{IsPrintable}
use Rattle.kb_presfile.specs.Holds.{HasOrder, HoldsPresentation}

-- the value of a field is spelled
value_spelled : (fields : Fields) (name : List ℕ) (value : Value) → AreSpelledFields fields → value_of fields name ≡ Some value → IsSpelledValue value
value_spelled no_fields name value spelled is = cc
value_spelled (field text here others) name value spelled is =
    go (pointwise nat_eq text name) is (value_spelled others name value spelled.2)
  where
    go : (same : Bool) → (if same then Some here else value_of others name) ≡ Some value → (value_of others name ≡ Some value → IsSpelledValue value)
        → IsSpelledValue value
    go true found later = subst IsSpelledValue (some_value found) spelled.1
    go false found later = later found

names_are : (names : List (List ℕ)) → AreSpelledPlaces (list_of_names names) → All IsName names
names_are [] spelled = All-nil IsName
names_are (name ∷ names) spelled = All-cons IsName name names spelled.0.0.0 (names_are names spelled.1)

weights_are : (fields : Fields) (names : List (List ℕ)) (order : WordOrder) (weights : List ℕ) → HasOrder fields names order
    → order ≡ orders.WtLex weights → All IsWeight weights
weights_are fields names order weights has is =
    let P : WordOrder → Type 0 = λ o. HasOrder fields names o in
    let held = subst P is has in held.1.are.range

pub read_printable : (fields : Fields) (parts : PresentationParts) (rules : List Pair) → AreSpelledFields fields → HoldsPresentation fields parts
    → IsPresentation (length parts.names) parts.order parts.names parts.inverses rules → IsPrintable parts rules
read_printable fields parts rules spelled holds presents = record {
  names = names_are parts.names (value_spelled fields (codes "generatorOrder") _ spelled holds.named);
  weights = λ weights is. weights_are fields parts.names parts.order weights holds.ordered is;
  presents = presents;
}
