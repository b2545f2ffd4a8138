use Rattle.std.proofs.Common.{◌≡◌, ℕ, ℤ, suc, length, ◌-◌, List, [], ◌∷◌, ◌++◌, Option, Some, None, Err, map, Bool, true, false, refl, sym, ap, subst, ◌∙◌, arith, rules, to_z-of_z, w64, SFits, Vec, Global}
use Rattle.std.proofs.lemmas.Option.{MatchOption-at_some}
use Rattle.kb_lexing.specs.declared.place.Expected.TheVariants as wanted
use Rattle.kb_record.specs.Tree.{record_value, list_value, number_value, Value as ValueTree}
use Rattle.kb_record.specs.Reading.{Reads, read, remaining, whole_of, passes_comma, joined, reading_map, after_items, list_from, first_place, first_number, ends_place, read_places, read_value, place_with, field_with, fields_from, read_fields, past, behind, begins_word, read_scalar}
use Rattle.kb_record.specs.View.{value_view, field_view, place_from, places_of}
use Rattle.kb_record.specs.declared.tree.Field.{Field as FieldType}
use Rattle.kb_record.specs.declared.tree.Value.{Value as ValueType}
use Rattle.kb_record.specs.declared.cursor.Mark.TheVariants.{CloseRound, CloseSquare, Dots, Rec, OpenSquare}
use Rattle.kb_record.proofs.ReadRows.{numbered_reads, number_alone, none_before, turn, last, item_fails, comma_fails, as_answered, map_one_more, comma-shorter}
use Rattle.kb_record.proofs.Depths.{value-word, value-record, value-list, value-scalar, same_reading}
use Rattle.kb_record.proofs.PassedMarks.{behind-shorter}
use Rattle.kb_record.proofs.PlaceTexts.{first_number_is, ended_reads, full_reads}
use Rattle.kb_record.proofs.FieldTexts.{field_shown}
use Rattle.kb_record.proofs.Views.{view-Record}
use Rattle.kb_record.proofs.records.+values.Goals as goal

-- the first place is the number
first_of : (ps : List (Option ValueTree)) (p : Option ValueTree) (z : ℤ) → ps ≡ p ∷ [] → p ≡ Some (number_value z) → ps ≡ first_place (Some z)
first_of ps p z e f = e ∙ ap (λ q. q ∷ []) f

pub list-returns-in-Some-clause-reads : goal.list-returns-in-Some-clause-reads
list-returns-in-Some-clause-reads t c = MatchOption-at_some _ _ c.in-Some.list c.in-Some.is c.in_ok-found.ensures.reads

pub list-returns-in-Some-clause-shorter : goal.list-returns-in-Some-clause-shorter
list-returns-in-Some-clause-shorter t c = MatchOption-at_some _ _ c.in-Some.list c.in-Some.is c.in_ok-found.ensures.shorter

pub any_list-behind_number-requires : goal.any_list-behind_number-requires
any_list-behind_number-requires t c =
    let found : first_number (remaining c.take.new.self) ≡ Some (c.in-Some.number, remaining c.take_number.new.self) = grind arith in
    let fits : SFits w64 c.in-Some.number = search rules in
    let stands = ap (λ w. place_from w c.place-first.result) c.take_number.ensures.whole ∙ c.place-first.ensures ∙ first_number_is (remaining c.take.new.self) (remaining c.take_number.new.self) c.in-Some.number found in (
      omega arith,
      (omega (arith, c.requires), stands ∙ ap (λ z. Some (number_value z)) (sym (to_z-of_z fits))),
    )

pub behind_number-returns-then-not-branch-clause-reads : goal.behind_number-returns-then-not-branch-clause-reads
behind_number-returns-then-not-branch-clause-reads t c =
    let tokens = remaining c.args.tokens.now in
    let none : (behind Dots tokens ≡ None) × (remaining c.take.new.self ≡ tokens) = grind arith in
    let ends : passes_comma CloseSquare wanted.Dots (remaining c.take.new.self) ≡ read false (remaining c.passes_comma.new.self) = grind arith in
    let whole : c.whole.result.now ≡ whole_of c.args.tokens.now = c.whole.ensures ∙ c.in_ok-passes_comma.ensures.whole ∙ c.take.ensures.whole in
    let one = first_of (map (place_from c.whole.result.now) c.in_ok-before.before.items) _ c.args.number (ap (map (place_from c.whole.result.now)) c.in_ok-before.ensures) (ap (λ w. place_from w c.args.first) whole ∙ c.requires.written) in
    number_alone (read_value c.args.depth) c.args.number tokens (remaining c.passes_comma.new.self) (value_view c.list_with.result) none.0 (ap (passes_comma CloseSquare wanted.Dots) (sym none.1) ∙ ends)
    (c.list_with.ensures ∙ ap (λ ps. list_value (places_of ps)) one)

pub behind_number-returns-clause-reads : goal.behind_number-returns-clause-reads
behind_number-returns-clause-reads t c =
    let tokens = remaining c.args.tokens.now in
    let none : (behind Dots tokens ≡ None) × (remaining c.take.new.self ≡ tokens) = grind arith in
    let comes : passes_comma CloseSquare wanted.Dots (remaining c.take.new.self) ≡ read true (remaining c.passes_comma.new.self) = grind arith in
    let rest = remaining c.list_of_places.new.tokens in
    let whole : whole_of c.passes_comma.new.self ≡ whole_of c.args.tokens.now = c.in_ok-passes_comma.ensures.whole ∙ c.take.ensures.whole in
    let f = place_from (whole_of c.passes_comma.new.self) in
    let one = first_of (map f c.in_ok-before.before.items) _ c.args.number (ap (map f) c.in_ok-before.ensures) (ap (λ w. place_from w c.args.first) whole ∙ c.requires.written) in
    let P : List (Option ValueTree) → Type 0 = λ ps. Reads (list_from (after_items ps (read_places (read_value c.args.depth) (remaining c.passes_comma.new.self)))) value_view c.list_of_places.result rest in
    numbered_reads (read_value c.args.depth) c.args.number tokens (remaining c.passes_comma.new.self) c.list_of_places.result rest none.0 (ap (passes_comma CloseSquare wanted.Dots) (sym none.1) ∙ comes) (subst P one c.list_of_places.ensures.reads)

pub without_number-returns-clause-reads : goal.without_number-returns-clause-reads
without_number-returns-clause-reads t c =
    let reading = read_places (read_value c.args.depth) (remaining c.args.tokens.now) in
    let empty : c.in_ok-before.before.items ≡ [] = search rules in
    same_reading _ _ value_view c.list_of_places.result _ (ap list_from (none_before reading ∙ ap (λ ps. after_items (map (place_from (whole_of c.args.tokens.now)) ps) reading) (sym empty))) c.list_of_places.ensures.reads

pub list_of_places-returns-clause-reads : goal.list_of_places-returns-clause-reads
list_of_places-returns-clause-reads t c =
    let rest = remaining c.places.new.tokens in
    let begins = c.in_ok-places.places.items in
    let whole : c.whole.result.now ≡ whole_of c.args.tokens.now = c.whole.ensures ∙ c.in_ok-places.ensures.whole in
    ap list_from c.in_ok-places.ensures.reads ∙ ap (λ w. read (list_value (places_of (map (place_from w) begins))) rest) (sym whole) ∙ ap (λ v. read v rest) (sym c.list_with.ensures)

pub place-returns-then-ends_place-clause-reads : goal.place-returns-then-ends_place-clause-reads
place-returns-then-ends_place-clause-reads t c =
    let tokens = remaining c.args.tokens.now in
    let ended : ends_place tokens ≡ true = grind arith in
    ended_reads (read_value c.args.depth) tokens ended ∙ ap (λ p. read p tokens) (sym (ap (place_from (whole_of c.args.tokens.now)) c.in_ok-begin.ensures ∙ c.place.ensures))

pub place-returns-clause-reads : goal.place-returns-clause-reads
place-returns-clause-reads t c =
    let tokens = remaining c.args.tokens.now in
    let full : ends_place tokens ≡ false = grind arith in
    let rest = remaining c.value.new.tokens in
    full_reads c.args.depth tokens rest (value_view c.in_ok-value.field-0) c.requires full c.in_ok-value.ensures.reads ∙ ap (λ p. read p rest) (sym (ap (place_from (whole_of c.args.tokens.now)) c.in_ok-begin.ensures ∙ c.place.ensures))

pub field-kept_field-requires : goal.field-kept_field-requires
field-kept_field-requires t c =
    c.field_text-text.ensures
    ∙ field_shown c.args.depth (remaining c.args.tokens.now) (remaining c.name.new.self) (remaining c.expect.new.self) (remaining c.value.new.tokens) c.in_ok-name.name.now (value_view c.in_ok-value.value) c.requires c.in_ok-name.ensures.reads c.in_ok-expect.ensures.passes
    c.in_ok-value.ensures.reads

pub places-loop-places-init : goal.places-loop-places-init
places-loop-places-init t c = (suc (length (remaining c.args.tokens.now)), omega arith, omega arith, refl, refl)

pub places-returns-in_err-place-clause-reads : goal.places-returns-in_err-place-clause-reads
places-returns-in_err-place-clause-reads t c =
    let l = c.loop-places in
    let stop = c.in_err-place.field-0.0 in
    let rest = remaining c.place.new.tokens in
    let failed : Reads (place_with (read_value c.args.depth) (remaining l.tokens)) (place_from (whole_of l.tokens)) (Err stop) rest = c.in_err-place.ensures.reads in
    let answered : c.from_residual.result ≡ Err stop = search rules in
    as_answered _ _ _ _ stop rest l.invariant.3 answered
    (item_fails (place_with (read_value c.args.depth)) (passes_comma CloseSquare wanted.Mark) {D = Vec ℕ Global} (map (place_from (whole_of c.args.tokens.now)) l.places.items) l.invariant.0 (remaining l.tokens) rest (place_from (whole_of l.tokens)) (λ v. map (place_from (whole_of c.args.tokens.now)) v.items) stop (omega (arith, l.invariant.1)) failed)

pub places-returns-in_err-passes_comma-clause-reads : goal.places-returns-in_err-passes_comma-clause-reads
places-returns-in_err-passes_comma-clause-reads t c =
    let l = c.loop-places in
    let x = c.in_ok-place.field-0 in
    let stop = c.in_err-passes_comma.field-0.0 in
    let rest = remaining c.passes_comma.new.self in
    let item : place_with (read_value c.args.depth) (remaining l.tokens) ≡ read (place_from (whole_of c.args.tokens.now) x) (remaining c.place.new.tokens) = c.in_ok-place.ensures.reads ∙ ap (λ w. read (place_from w x) (remaining c.place.new.tokens)) l.invariant.4 in
    let failed : Reads (passes_comma CloseSquare wanted.Mark (remaining c.place.new.tokens)) (λ more. more) (Err stop) rest = c.in_err-passes_comma.ensures.reads in
    let answered : c.from_residual-in_err-passes_comma.result ≡ Err stop = search rules in
    as_answered _ _ _ _ stop rest l.invariant.3 answered
    (comma_fails (place_with (read_value c.args.depth)) (passes_comma CloseSquare wanted.Mark) {B = Bool} {D = Vec ℕ Global} (map (place_from (whole_of c.args.tokens.now)) l.places.items) l.invariant.0 (remaining l.tokens) (remaining c.place.new.tokens) rest (place_from (whole_of c.args.tokens.now) x) (λ more. more) (λ v. map (place_from (whole_of c.args.tokens.now)) v.items) stop (omega (arith, l.invariant.1)) item failed)

pub places-returns-then-not-branch-clause-reads : goal.places-returns-then-not-branch-clause-reads
places-returns-then-not-branch-clause-reads t c =
    let l = c.loop-places in
    let x = c.in_ok-place.field-0 in
    let item : place_with (read_value c.args.depth) (remaining l.tokens) ≡ read (place_from (whole_of c.args.tokens.now) x) (remaining c.place.new.tokens) = c.in_ok-place.ensures.reads ∙ ap (λ w. read (place_from w x) (remaining c.place.new.tokens)) l.invariant.4 in
    let comma : passes_comma CloseSquare wanted.Mark (remaining c.place.new.tokens) ≡ read false (remaining c.passes_comma.new.self) = c.in_ok-passes_comma.ensures.reads ∙ ap (λ b. read b (remaining c.passes_comma.new.self)) c.if-not-branch.true in
    let pushed : c.push.new.self.items ≡ l.places.items ++ x ∷ [] = search rules in
    let read_all = last (place_with (read_value c.args.depth)) (passes_comma CloseSquare wanted.Mark) (map (place_from (whole_of c.args.tokens.now)) l.places.items) l.invariant.0 (remaining l.tokens) (remaining c.place.new.tokens) (remaining c.passes_comma.new.self) (place_from (whole_of c.args.tokens.now) x) (omega (arith, l.invariant.1)) item comma in
    l.invariant.3 ∙ read_all ∙ ap (λ fs. read fs (remaining c.passes_comma.new.self)) (map_one_more (place_from (whole_of c.args.tokens.now)) l.places.items _ x pushed)

pub places-loop-places-preserved : goal.places-loop-places-preserved
places-loop-places-preserved t c =
    let l = c.loop-places in
    let x = c.in_ok-place.field-0 in
    let item : place_with (read_value c.args.depth) (remaining l.tokens) ≡ read (place_from (whole_of c.args.tokens.now) x) (remaining c.place.new.tokens) = c.in_ok-place.ensures.reads ∙ ap (λ w. read (place_from w x) (remaining c.place.new.tokens)) l.invariant.4 in
    let comma : passes_comma CloseSquare wanted.Mark (remaining c.place.new.tokens) ≡ read true (remaining c.passes_comma.new.self) = c.in_ok-passes_comma.ensures.reads ∙ ap (λ b. read b (remaining c.passes_comma.new.self)) c.if-not-branch.false in
    let pushed : c.push.new.self.items ≡ l.places.items ++ x ∷ [] = search rules in
    let next = turn (place_with (read_value c.args.depth)) (passes_comma CloseSquare wanted.Mark) (map (place_from (whole_of c.args.tokens.now)) l.places.items) l.invariant.0 (remaining l.tokens) (remaining c.place.new.tokens) (remaining c.passes_comma.new.self) (place_from (whole_of c.args.tokens.now) x) (omega (arith, l.invariant.1)) item comma in
    let shorter = comma-shorter CloseSquare wanted.Mark (remaining c.place.new.tokens) (remaining c.passes_comma.new.self) true comma in
    let fewer = c.in_ok-place.ensures.shorter in (
      l.invariant.0 - 1,
      omega (arith, l.invariant.1),
      omega (arith, l.invariant.2),
      l.invariant.3 ∙ next ∙ ap (λ fs. after_items fs (joined (place_with (read_value c.args.depth)) (passes_comma CloseSquare wanted.Mark) (l.invariant.0 - 1) (remaining c.passes_comma.new.self))) (map_one_more (place_from (whole_of c.args.tokens.now)) l.places.items _ x pushed),
      c.in_ok-passes_comma.ensures.whole ∙ c.in_ok-place.ensures.whole ∙ l.invariant.4,
    )

pub places-returns-then-not-branch-clause-whole : goal.places-returns-then-not-branch-clause-whole
places-returns-then-not-branch-clause-whole t c = c.in_ok-passes_comma.ensures.whole ∙ c.in_ok-place.ensures.whole ∙ c.loop-places.invariant.4

pub some_fields-returns-in_err-field-clause-reads : goal.some_fields-returns-in_err-field-clause-reads
some_fields-returns-in_err-field-clause-reads t c =
    let l = c.loop-fields in
    let stop = c.in_err-field.field-0.0 in
    let rest = remaining c.field.new.tokens in
    let failed : Reads (field_with (read_value c.args.depth) (remaining l.tokens)) field_view (Err stop) rest = c.in_err-field.ensures.reads in
    let answered : c.from_residual-in_err-field.result ≡ Err stop = search rules in
    as_answered _ _ _ _ stop rest l.invariant.3 answered
    (item_fails (field_with (read_value c.args.depth)) (passes_comma CloseRound wanted.Mark) {D = Vec (FieldType ValueType) Global} (map field_view l.fields.items) l.invariant.0 (remaining l.tokens) rest field_view (λ v. map field_view v.items) stop (omega (arith, l.invariant.1)) failed)

pub some_fields-returns-in_err-passes_comma-clause-reads : goal.some_fields-returns-in_err-passes_comma-clause-reads
some_fields-returns-in_err-passes_comma-clause-reads t c =
    let l = c.loop-fields in
    let x = c.in_ok-field.field-0 in
    let stop = c.in_err-passes_comma.field-0.0 in
    let rest = remaining c.passes_comma.new.self in
    let item : field_with (read_value c.args.depth) (remaining l.tokens) ≡ read (field_view x) (remaining c.field.new.tokens) = c.in_ok-field.ensures.reads in
    let failed : Reads (passes_comma CloseRound wanted.Mark (remaining c.field.new.tokens)) (λ more. more) (Err stop) rest = c.in_err-passes_comma.ensures.reads in
    let answered : c.from_residual-in_err-passes_comma.result ≡ Err stop = search rules in
    as_answered _ _ _ _ stop rest l.invariant.3 answered
    (comma_fails (field_with (read_value c.args.depth)) (passes_comma CloseRound wanted.Mark) {B = Bool} {D = Vec (FieldType ValueType) Global} (map field_view l.fields.items) l.invariant.0 (remaining l.tokens) (remaining c.field.new.tokens) rest (field_view x) (λ more. more) (λ v. map field_view v.items) stop (omega (arith, l.invariant.1)) item failed)

pub some_fields-returns-then-not-branch-clause-reads : goal.some_fields-returns-then-not-branch-clause-reads
some_fields-returns-then-not-branch-clause-reads t c =
    let l = c.loop-fields in
    let x = c.in_ok-field.field-0 in
    let item : field_with (read_value c.args.depth) (remaining l.tokens) ≡ read (field_view x) (remaining c.field.new.tokens) = c.in_ok-field.ensures.reads in
    let comma : passes_comma CloseRound wanted.Mark (remaining c.field.new.tokens) ≡ read false (remaining c.passes_comma.new.self) = c.in_ok-passes_comma.ensures.reads ∙ ap (λ b. read b (remaining c.passes_comma.new.self)) c.if-not-branch.true in
    let pushed : c.push.new.self.items ≡ l.fields.items ++ x ∷ [] = search rules in
    let read_all = last (field_with (read_value c.args.depth)) (passes_comma CloseRound wanted.Mark) (map field_view l.fields.items) l.invariant.0 (remaining l.tokens) (remaining c.field.new.tokens) (remaining c.passes_comma.new.self) (field_view x) (omega (arith, l.invariant.1)) item comma in
    l.invariant.3 ∙ read_all ∙ ap (λ fs. read fs (remaining c.passes_comma.new.self)) (map_one_more field_view l.fields.items _ x pushed)

pub some_fields-loop-fields-preserved : goal.some_fields-loop-fields-preserved
some_fields-loop-fields-preserved t c =
    let l = c.loop-fields in
    let x = c.in_ok-field.field-0 in
    let item : field_with (read_value c.args.depth) (remaining l.tokens) ≡ read (field_view x) (remaining c.field.new.tokens) = c.in_ok-field.ensures.reads in
    let comma : passes_comma CloseRound wanted.Mark (remaining c.field.new.tokens) ≡ read true (remaining c.passes_comma.new.self) = c.in_ok-passes_comma.ensures.reads ∙ ap (λ b. read b (remaining c.passes_comma.new.self)) c.if-not-branch.false in
    let pushed : c.push.new.self.items ≡ l.fields.items ++ x ∷ [] = search rules in
    let next = turn (field_with (read_value c.args.depth)) (passes_comma CloseRound wanted.Mark) (map field_view l.fields.items) l.invariant.0 (remaining l.tokens) (remaining c.field.new.tokens) (remaining c.passes_comma.new.self) (field_view x) (omega (arith, l.invariant.1)) item comma in
    let shorter = comma-shorter CloseRound wanted.Mark (remaining c.field.new.tokens) (remaining c.passes_comma.new.self) true comma in
    let fewer = c.in_ok-field.ensures.shorter in (
      l.invariant.0 - 1,
      omega (arith, l.invariant.1),
      omega (arith, l.invariant.2),
      l.invariant.3 ∙ next ∙ ap (λ fs. after_items fs (joined (field_with (read_value c.args.depth)) (passes_comma CloseRound wanted.Mark) (l.invariant.0 - 1) (remaining c.passes_comma.new.self))) (map_one_more field_view l.fields.items _ x pushed),
      c.in_ok-passes_comma.ensures.whole ∙ c.in_ok-field.ensures.whole ∙ l.invariant.4,
    )

pub some_fields-returns-then-not-branch-clause-whole : goal.some_fields-returns-then-not-branch-clause-whole
some_fields-returns-then-not-branch-clause-whole t c = c.in_ok-passes_comma.ensures.whole ∙ c.in_ok-field.ensures.whole ∙ c.loop-fields.invariant.4

pub record-returns-clause-reads : goal.record-returns-clause-reads
record-returns-clause-reads t c =
    let found = c.in_ok-fields.fields in
    let opening = c.in_ok-expect.ensures.passes in
    let fields : read_fields c.args.depth (remaining c.expect.new.self) ≡ read (map field_view found.items) (remaining c.fields.new.tokens) = c.in_ok-fields.ensures.reads in
    ap (λ o. past wanted.Fields (remaining c.args.tokens.now) o (λ rest. reading_map (λ fs. record_value (fields_from fs)) (read_fields c.args.depth rest))) opening
    ∙ ap (reading_map (λ fs. record_value (fields_from fs))) fields ∙ ap (λ v. read v (remaining c.fields.new.tokens)) (sym (view-Record found))

pub value-returns-then-begins_word-clause-reads : goal.value-returns-then-begins_word-clause-reads
value-returns-then-begins_word-clause-reads t c =
    let tokens = remaining c.args.tokens.now in
    let word : begins_word tokens ≡ true = grind arith in
    same_reading _ _ value_view c.word_value.result _ (value-word c.args.depth tokens word) c.word_value.ensures.reads

pub value-returns-then-take-clause-reads : goal.value-returns-then-take-clause-reads
value-returns-then-take-clause-reads t c =
    let tokens = remaining c.args.tokens.now in
    let word : begins_word tokens ≡ false = grind arith in
    let opened : behind Rec tokens ≡ Some (remaining c.take.new.self) = grind arith in
    same_reading _ _ value_view c.record.result _ (value-record c.args.depth tokens _ word opened) c.record.ensures.reads

pub value-returns-then-take-2-clause-reads : goal.value-returns-then-take-2-clause-reads
value-returns-then-take-2-clause-reads t c =
    let tokens = remaining c.args.tokens.now in
    let word : begins_word tokens ≡ false = grind arith in
    let no_record : (behind Rec tokens ≡ None) × (remaining c.take.new.self ≡ tokens) = grind arith in
    let opened : behind OpenSquare (remaining c.take.new.self) ≡ Some (remaining c.take-2.new.self) = grind arith in
    same_reading _ _ value_view c.list.result _ (value-list c.args.depth tokens _ word no_record.0 (ap (behind OpenSquare) (sym no_record.1) ∙ opened)) c.list.ensures.reads

pub value-returns-clause-reads : goal.value-returns-clause-reads
value-returns-clause-reads t c =
    let tokens = remaining c.args.tokens.now in
    let word : begins_word tokens ≡ false = grind arith in
    let no_record : (behind Rec tokens ≡ None) × (remaining c.take.new.self ≡ tokens) = grind arith in
    let no_list : (behind OpenSquare (remaining c.take.new.self) ≡ None) × (remaining c.take-2.new.self ≡ remaining c.take.new.self) = grind arith in
    same_reading _ _ value_view c.scalar.result _
    (value-scalar c.args.depth tokens word no_record.0 (ap (behind OpenSquare) (sym no_record.1) ∙ no_list.0) ∙ ap read_scalar (sym (no_list.1 ∙ no_record.1))) c.scalar.ensures.reads

pub fields-returns-then-take-clause-shorter : goal.fields-returns-then-take-clause-shorter
fields-returns-then-take-clause-shorter t c =
    let closed = behind-shorter CloseRound (remaining c.args.tokens.now) (remaining c.take.new.self) c.if-take.ensures.passes in
    omega arith

pub any_list-returns-then-take-clause-shorter : goal.any_list-returns-then-take-clause-shorter
any_list-returns-then-take-clause-shorter t c =
    let closed = behind-shorter CloseSquare (remaining c.args.tokens.now) (remaining c.take.new.self) c.if-take.ensures.passes in
    omega arith
