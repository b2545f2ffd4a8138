use Rattle.std.proofs.Common.{rules, ◌≡◌, length, map, ap, sym, ◌∙◌, ℕ, List, Option}
use Rattle.std.proofs.lemmas.List.{length-map}
use Rattle.kb_record.specs.Tree.{Value as ValueTree}
use Rattle.kb_record.specs.View.{value_view, number_place, row_place, entries_place, written_places}
use Rattle.kb_record.specs.Listed.{listed, HasPlaces}
use Rattle.kb_record.proofs.Views.{view-List, view-Numbers, view-Rows, view-Entries, listed-is, has_its_places}
use Rattle.kb_record.proofs.tree.Value.place_count.Goals as goal

-- the places, and how many of them there are
counted : (value : ValueTree) (ps : List (Option ValueTree)) (count : ℕ) → HasPlaces value ps → length ps ≡ count → HasPlaces value (listed value) × (length (listed value) ≡ count)
counted value ps count e n = (has_its_places value ps e, ap length (listed-is value ps e) ∙ n)

pub returns-in-List-clause-list : goal.returns-in-List-clause-list
returns-in-List-clause-list c =
    let places = c.in-List.places in
    let is : HasPlaces (value_view c.args.self.now) (written_places places) = ap value_view c.in-List.is ∙ view-List places in
    counted _ _ c.len.result is (sym c.len.ensures)

pub returns-in-Numbers-clause-list : goal.returns-in-Numbers-clause-list
returns-in-Numbers-clause-list c =
    let numbers = c.in-Numbers.numbers in
    let is : HasPlaces (value_view c.args.self.now) (map number_place numbers.items) = ap value_view c.in-Numbers.is ∙ view-Numbers numbers in
    let count : length numbers.items ≡ c.len-in-Numbers.result = search rules in
    counted _ _ c.len-in-Numbers.result is (length-map numbers.items number_place ∙ count)

pub returns-in-Rows-clause-list : goal.returns-in-Rows-clause-list
returns-in-Rows-clause-list c =
    let rows = c.in-Rows.rows in
    let is : HasPlaces (value_view c.args.self.now) (map row_place rows) = ap value_view c.in-Rows.is ∙ view-Rows rows in
    let count : length rows ≡ c.len-in-Rows.result = search rules in
    counted _ _ c.len-in-Rows.result is (length-map rows row_place ∙ count)

pub returns-in-Entries-clause-list : goal.returns-in-Entries-clause-list
returns-in-Entries-clause-list c =
    let rows = c.in-Entries.rows in
    let is : HasPlaces (value_view c.args.self.now) (map entries_place rows) = ap value_view c.in-Entries.is ∙ view-Entries rows in
    let count : length rows ≡ c.len-in-Entries.result = search rules in
    counted _ _ c.len-in-Entries.result is (length-map rows entries_place ∙ count)
