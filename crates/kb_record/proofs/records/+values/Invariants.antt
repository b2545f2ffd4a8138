use Rattle.std.proofs.Common.{◌≡◌, ℕ, ◌+◌, ◌*◌, ◌<◌, ◌≤◌, suc, map, length}
use Rattle.kb_record.specs.Reading.{remaining, whole_of, passes_comma, joined, after_items, read_places, read_value, place_with, field_with}
use Rattle.kb_record.specs.View.{field_view, place_from}
use Rattle.kb_record.specs.declared.cursor.Mark.TheVariants.{CloseRound, CloseSquare}
use Rattle.kb_lexing.specs.declared.place.Expected.TheVariants as wanted
use Rattle.kb_record.proofs.records.+values.Given as goal

abbrev pub decreases-value : goal.decreases-value
decreases-value l = 8 * l.depth + 4

abbrev pub decreases-record : goal.decreases-record
decreases-record l = 8 * l.depth + 3

abbrev pub decreases-list : goal.decreases-list
decreases-list l = 8 * l.depth + 3

abbrev pub decreases-fields : goal.decreases-fields
decreases-fields l = 8 * l.depth + 2

abbrev pub decreases-any_list : goal.decreases-any_list
decreases-any_list l = 8 * l.depth + 2

abbrev pub decreases-field : goal.decreases-field
decreases-field l = 8 * l.depth + 5

abbrev pub decreases-place : goal.decreases-place
decreases-place l = 8 * l.depth + 5

abbrev pub decreases-some_fields : goal.decreases-some_fields
decreases-some_fields l = 8 * l.depth + 6

abbrev pub decreases-places : goal.decreases-places
decreases-places l = 8 * l.depth + 6

abbrev pub decreases-list_of_places : goal.decreases-list_of_places
decreases-list_of_places l = 8 * l.depth + 7

abbrev pub decreases-behind_number : goal.decreases-behind_number
decreases-behind_number l = 8 * l.depth + 8

abbrev pub decreases-without_number : goal.decreases-without_number
decreases-without_number l = 8 * l.depth + 8

abbrev pub invariant-some_fields-loop-fields : goal.invariant-some_fields-loop-fields
invariant-some_fields-loop-fields l =
    (n : ℕ) × (length (remaining l.tokens) < n) × (length (remaining l.tokens) ≤ length (remaining l.initial.tokens))
    × (joined (field_with (read_value l.depth)) (passes_comma CloseRound wanted.Mark) (suc (length (remaining l.initial.tokens))) (remaining l.initial.tokens)
    ≡ after_items (map field_view l.fields.items) (joined (field_with (read_value l.depth)) (passes_comma CloseRound wanted.Mark) n (remaining l.tokens)))
    × (whole_of l.tokens ≡ whole_of l.initial.tokens)

abbrev pub decreases-some_fields-loop-fields : goal.decreases-some_fields-loop-fields
decreases-some_fields-loop-fields l = length (remaining l.tokens)

abbrev pub invariant-places-loop-places : goal.invariant-places-loop-places
invariant-places-loop-places l =
    (n : ℕ) × (length (remaining l.tokens) < n) × (length (remaining l.tokens) ≤ length (remaining l.initial.tokens))
    × (after_items (map (place_from (whole_of l.initial.tokens)) l.fn.before.items) (read_places (read_value l.depth) (remaining l.initial.tokens))
    ≡ after_items (map (place_from (whole_of l.initial.tokens)) l.places.items) (joined (place_with (read_value l.depth)) (passes_comma CloseSquare wanted.Mark) n (remaining l.tokens)))
    × (whole_of l.tokens ≡ whole_of l.initial.tokens)

abbrev pub decreases-places-loop-places : goal.decreases-places-loop-places
decreases-places-loop-places l = length (remaining l.tokens)
