use Rattle.std.proofs.Common.{map, sym, ◌∙◌, ap}
use Rattle.kb_record.specs.View.{value_view, number_place}
use Rattle.kb_record.proofs.Views.{view-Numbers}
use Rattle.kb_fields.specs.Fields.{list_of_numbers}
use Rattle.kb_fields.proofs.ListingLemmas.{value_listed}
use Rattle.kb_fields.proofs.NumberLemmas.{list_of_numbers-places_of}
use Rattle.kb_fields.proofs.numbers.numbers_listed.Goals as goal

pub returns-in_ok-from_slice-in-Numbers-clause-listed : goal.returns-in_ok-from_slice-in-Numbers-clause-listed
returns-in_ok-from_slice-in-Numbers-clause-listed c =
    let same = c.in_ok-from_slice-in-Numbers.ensures.items ∙ c.as_slice.ensures.value in
    value_listed number_place list_of_numbers list_of_numbers-places_of (value_view c.args.value.now) (map number_place c.in-Numbers.numbers.items)
    (ap value_view c.in-Numbers.is ∙ view-Numbers c.in-Numbers.numbers) c.in_ok-from_slice-in-Numbers.field-0.items (sym (ap (map number_place) same))
