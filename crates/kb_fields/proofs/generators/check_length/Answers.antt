use Rattle.std.proofs.Common.{◌≡◌, ℕ, List, map, length, Some, sym, ap, ◌∙◌, arith}
use Rattle.std.proofs.lemmas.List.{length-map}
use Rattle.kb_record.specs.View.{value_view}
use Rattle.kb_record.specs.Tree.{Value, list_value}
use Rattle.kb_record.specs.Listed.{listed}
use Rattle.kb_record.proofs.Views.{listed-is}
use Rattle.kb_fields.specs.Fields.{bare_name, list_of_names, IsListOf}
use Rattle.kb_fields.proofs.ListingLemmas.{list_of_names-places_of}
use Rattle.kb_fields.proofs.generators.check_length.Goals as goal

-- a list of names has a place for each
as_many : (names : List (List ℕ)) (value : Value) → IsListOf names value → length names ≡ length (listed value)
as_many names value is =
    let places = listed-is value (map (λ (name : List ℕ). Some (bare_name name)) names) (is ∙ ap list_value (list_of_names-places_of names)) in
    sym (ap length places ∙ length-map names (λ (name : List ℕ). Some (bare_name name)))

pub returns-in_default-clause-few : goal.returns-in_default-clause-few
returns-in_default-clause-few c = λ names is. absurd (c.in_default.ensures.other (list_of_names names) is)

pub returns-then-count-le-MOST_GENERATORS-clause-few : goal.returns-then-count-le-MOST_GENERATORS-clause-few
returns-then-count-le-MOST_GENERATORS-clause-few c = λ names is. omega (arith, as_many names (value_view c.args.value.now) is, c.in-Some.ensures.list.1)
