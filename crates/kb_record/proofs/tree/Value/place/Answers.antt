use Rattle.std.proofs.Common.{rules, arith, ◌≡◌, ◌<◌, ◌≤◌, [], ◌∷◌, zero, suc, length, map, refl, ap, ◌∙◌, sym, ℕ, List, Option, Some, None, slice_get, option_map, to_z-of_z, w64, SFits}
use Rattle.std.specs.Option.{IsSome}
use Rattle.std.proofs.lemmas.List.{length-map}
use Rattle.std.proofs.lemmas.Option.{slice_get-map, slice_get_read}
use Rattle.kb_record.specs.Tree.{Value as ValueTree}
use Rattle.kb_record.specs.View.{value_view, number_place, row_place, entries_place, written_places}
use Rattle.kb_record.specs.Listed.{listed, HasPlaces}
use Rattle.kb_record.proofs.Views.{view-List, view-Numbers, view-Rows, view-Entries, listed-is}
use Rattle.kb_record.proofs.tree.Value.place.Goals as goal

-- a place of the list is one of what it is made of
within : {X : Type 0} (value : ValueTree) (f : X → Option ValueTree) (xs : List X) (place : ℕ) → HasPlaces value (map f xs) → place < length (listed value) → place < length xs
within value f xs place e l = let n = ap length (listed-is value (map f xs) e) ∙ length-map xs f in omega (arith, l, n)

-- and what stands there is what it is made of
at : {X : Type 0} (value : ValueTree) (f : X → Option ValueTree) (xs : List X) (place : ℕ) (x : X) → HasPlaces value (map f xs) → slice_get xs place ≡ Some x → slice_get (listed value) place ≡ Some (f x)
at value f xs place x e g = ap (λ ps. slice_get ps place) (listed-is value (map f xs) e) ∙ slice_get-map f xs place ∙ ap (option_map f) g

pub get-requires : goal.get-requires
get-requires c =
    let places = c.in-List.places in
    let is : HasPlaces (value_view c.args.self.now) (written_places places) = ap value_view c.in-List.is ∙ view-List places in
    let n = ap length (listed-is (value_view c.args.self.now) (written_places places) is) in
    omega (arith, n, c.requires)

pub index-requires : goal.index-requires
index-requires c =
    let numbers = c.in-Numbers.numbers in
    let is : HasPlaces (value_view c.args.self.now) (map number_place numbers.items) = ap value_view c.in-Numbers.is ∙ view-Numbers numbers in
    let few = within _ _ numbers.items c.args.place is c.requires in
    omega (arith, few, numbers.ok)

get_past : {X : Type 0} (xs : List X) (place : ℕ) → slice_get xs place ≡ None → length xs ≤ place
get_past [] place e = omega arith
get_past (x ∷ xs) zero e = search (e, rules)
get_past (x ∷ xs) (suc place) e = let past = get_past xs place e in omega (arith, past)

some-within : {X Y : Type 0} (xs : List X) (place : ℕ) (result : Option Y) (f : Y → X) → place < length xs → slice_get xs place ≡ option_map f result → IsSome result
some-within xs place None f l e = let past = get_past xs place e in absurd (omega (arith, l, past))
some-within xs place (Some y) f l e = refl

pub unwrap-requires : goal.unwrap-requires
unwrap-requires c =
    let rows = c.in-Rows.rows in
    let is : HasPlaces (value_view c.args.self.now) (map row_place rows) = ap value_view c.in-Rows.is ∙ view-Rows rows in
    some-within rows c.args.place c.get-in-Rows.result _ (within _ _ rows c.args.place is c.requires) c.get-in-Rows.ensures

pub unwrap-requires-in-Entries : goal.unwrap-requires-in-Entries
unwrap-requires-in-Entries c =
    let rows = c.in-Entries.rows in
    let is : HasPlaces (value_view c.args.self.now) (map entries_place rows) = ap value_view c.in-Entries.is ∙ view-Entries rows in
    some-within rows c.args.place c.get-in-Entries.result _ (within _ _ rows c.args.place is c.requires) c.get-in-Entries.ensures

pub returns-in-List : goal.returns-in-List
returns-in-List c =
    let places = c.in-List.places in
    let is : HasPlaces (value_view c.args.self.now) (written_places places) = ap value_view c.in-List.is ∙ view-List places in
    ap (λ ps. slice_get ps c.args.place) (listed-is (value_view c.args.self.now) (written_places places) is) ∙ c.get.ensures

pub returns-in-Numbers : goal.returns-in-Numbers
returns-in-Numbers c =
    let numbers = c.in-Numbers.numbers in
    let is : HasPlaces (value_view c.args.self.now) (map number_place numbers.items) = ap value_view c.in-Numbers.is ∙ view-Numbers numbers in
    let few = within _ _ numbers.items c.args.place is c.requires in
    let found : slice_get numbers.items c.args.place ≡ Some c.index.result.now = slice_get_read numbers.items (length numbers.items) c.args.place _ refl few c.index.ensures in
    let fits : SFits w64 c.index.result.now = search rules in
    at _ _ numbers.items c.args.place _ is found ∙ ap (λ z. Some (number_place z)) (sym (to_z-of_z fits))

pub returns-in-Rows : goal.returns-in-Rows
returns-in-Rows c =
    let rows = c.in-Rows.rows in
    let is : HasPlaces (value_view c.args.self.now) (map row_place rows) = ap value_view c.in-Rows.is ∙ view-Rows rows in
    let found : slice_get rows c.args.place ≡ Some c.unwrap.result.now = search rules in
    at _ _ rows c.args.place _ is found

pub returns-in-Entries : goal.returns-in-Entries
returns-in-Entries c =
    let rows = c.in-Entries.rows in
    let is : HasPlaces (value_view c.args.self.now) (map entries_place rows) = ap value_view c.in-Entries.is ∙ view-Entries rows in
    let found : slice_get rows c.args.place ≡ Some c.unwrap-in-Entries.result.now = search rules in
    at _ _ rows c.args.place _ is found
