use Rattle.std.proofs.Common.{◌≡◌, ℕ, List, false, Some, sym, ap, subst, ◌∙◌, arith, rules}
use Rattle.std.proofs.lemmas.Option.{IfSome_then, MatchOption-at_some, MatchOption-at_none}
use Rattle.kb_record.specs.Tree as tree
use Rattle.kb_record.specs.Tree.{record_value, list_value}
use Rattle.kb_record.specs.View.{value_view}
use Rattle.kb_record.specs.declared.tree.Field.{Field}
use Rattle.kb_record.specs.declared.tree.Value.{Value, the_lemmas}
use Rattle.kb_fields.specs.Fields.{fields_view, places_view, HasFieldTwice, IsFirstRepeated}
use Rattle.kb_record.specs.Nesting.{value_nesting}
use Rattle.kb_record.proofs.Views.{view-Record, view-List}
use Rattle.kb_record.proofs.Nested.{field_nested}
use Rattle.kb_record.specs.NamesMet.{has}
use Rattle.kb_record.proofs.OpenLemmas.{not_false, not_true}
use Rattle.kb_fields.proofs.Outcomes.{IfOk_then, IfNone_then}
use Rattle.kb_fields.proofs.RepeatLemmas.{names_in, field_at, name_at, none_twice, seen_more, within_more, no_number_twice, no_row_twice, no_entries_twice}
use Rattle.kb_fields.proofs.RepeatOrder.{from_field, stands, is_new, repeated_here, repeated_inside, repeated_later}
use Rattle.kb_fields.proofs.fields.+repeats.Goals as goal

pub repeated_name-returns-then-not-branch-clause-some : goal.repeated_name-returns-then-not-branch-clause-some
repeated_name-returns-then-not-branch-clause-some t c =
    let fs = c.args.fields.now in
    let f = c.field-item.result in
    let found = not_false _ (sym c.in_ok-insert.ensures.added ∙ c.if-not-branch.true) in
    let again = stands fs c.loop-field.field-index f (omega arith) c.field-item.is c.loop-field.seen c.loop-field.invariant.seen (ap (has c.loop-field.seen) (sym c.name-name.ensures) ∙ found) in
    let first = repeated_here fs c.loop-field.field-index f (omega arith) c.field-item.is (from_field fs 0) c.loop-field.invariant.order again in
    let P : List ℕ → Type 0 = λ q. IsFirstRepeated (record_value (fields_view fs)) q in
    subst P (sym c.name-name.ensures ∙ sym c.in_ok-from_str.ensures) first

pub repeated_name-returns-in-Some-clause-some : goal.repeated_name-returns-in-Some-clause-some
repeated_name-returns-in-Some-clause-some t c =
    let fs = c.args.fields.now in
    let f = c.field-item.result in
    let absent : has c.loop-field.seen c.name-name.result.now ≡ false = not_true _ (sym c.in_ok-insert.ensures.added ∙ c.if-not-branch.false) in
    let new = is_new fs c.loop-field.field-index f (omega arith) c.field-item.is c.loop-field.seen c.loop-field.invariant.seen (ap (has c.loop-field.seen) (sym c.name-name.ensures) ∙ absent) in
    repeated_inside fs c.loop-field.field-index f (omega arith) c.field-item.is (from_field fs 0) c.loop-field.invariant.order c.in-Some.name new
    (MatchOption-at_some _ _ c.in-Some.name c.in-Some.is c.in_ok-name.ensures.some)

pub repeated_name-loop-field-preserved : goal.repeated_name-loop-field-preserved
repeated_name-loop-field-preserved t c =
    let fs = c.args.fields.now in
    let f = c.field-item.result in
    let absent : has c.loop-field.seen c.name-name.result.now ≡ false = not_true _ (sym c.in_ok-insert.ensures.added ∙ c.if-not-branch.false) in
    let at = field_at fs c.loop-field.field-index f (omega arith) c.field-item.is in
    let named = name_at fs c.loop-field.field-index f (omega arith) c.field-item.is in
    let new = is_new fs c.loop-field.field-index f (omega arith) c.field-item.is c.loop-field.seen c.loop-field.invariant.seen (ap (has c.loop-field.seen) (sym c.name-name.ensures) ∙ absent) in
    let once = MatchOption-at_none _ _ c.in_default.is c.in_ok-name.ensures.none in
    record {
      seen = seen_more (names_in fs) c.loop-field.field-index c.loop-field.seen c.insert.new.self c.name-name.result
          c.loop-field.invariant.seen (named ∙ ap Some (sym c.name-name.ensures)) absent c.in_ok-insert.ensures.updates;
      within = within_more fs c.loop-field.field-index f at c.loop-field.invariant.within once;
      order = repeated_later fs c.loop-field.field-index f (omega arith) c.field-item.is (from_field fs 0) c.loop-field.invariant.order new once;
    }

pub repeated_name-returns-clause-none : goal.repeated_name-returns-clause-none
repeated_name-returns-clause-none t c =
    none_twice c.args.fields.now c.loop-field.field-index c.loop-field.seen (omega arith) c.loop-field.invariant.seen c.loop-field.invariant.within

pub repeated_within-returns-in-Record-clause-some : goal.repeated_within-returns-in-Record-clause-some
repeated_within-returns-in-Record-clause-some t c =
    let seen : value_view c.args.value.now ≡ record_value (fields_view c.in-Record.fields.items) = ap value_view c.in-Record.is ∙ view-Record c.in-Record.fields in
    IfOk_then c.repeated_name.result c.repeated_name.ensures.some (λ found some. IfSome_then found some (λ name twice.
    let P : List (Field Value) → Type 0 = λ fs. IsFirstRepeated (record_value (fields_view fs)) name in
    let Q : tree.Value → Type 0 = λ v. IsFirstRepeated v name in
    subst Q (sym seen) (subst P c.as_slice.ensures.value twice)))

pub repeated_within-returns-in-Record-clause-none : goal.repeated_within-returns-in-Record-clause-none
repeated_within-returns-in-Record-clause-none t c =
    let seen : value_view c.args.value.now ≡ record_value (fields_view c.in-Record.fields.items) = ap value_view c.in-Record.is ∙ view-Record c.in-Record.fields in
    IfOk_then c.repeated_name.result c.repeated_name.ensures.none (λ found none. IfNone_then found none (λ once.
    let P : List (Field Value) → Type 0 = λ fs. (q : List ℕ) → HasFieldTwice (record_value (fields_view fs)) q → ⊥ in
    let Q : tree.Value → Type 0 = λ v. (q : List ℕ) → HasFieldTwice v q → ⊥ in
    subst Q (sym seen) (subst P c.as_slice.ensures.value once)))

pub repeated_within-returns-in-List-clause-some : goal.repeated_within-returns-in-List-clause-some
repeated_within-returns-in-List-clause-some t c =
    let seen : value_view c.args.value.now ≡ list_value (places_view c.in-List.places) = ap value_view c.in-List.is ∙ view-List c.in-List.places in
    IfOk_then c.repeated_in_list.result c.repeated_in_list.ensures.some (λ found some. IfSome_then found some (λ name twice.
    let Q : tree.Value → Type 0 = λ v. IsFirstRepeated v name in
    subst Q (sym seen) twice))

pub repeated_within-returns-in-List-clause-none : goal.repeated_within-returns-in-List-clause-none
repeated_within-returns-in-List-clause-none t c =
    let seen : value_view c.args.value.now ≡ list_value (places_view c.in-List.places) = ap value_view c.in-List.is ∙ view-List c.in-List.places in
    IfOk_then c.repeated_in_list.result c.repeated_in_list.ensures.none (λ found none. IfNone_then found none (λ once.
    let Q : tree.Value → Type 0 = λ v. (q : List ℕ) → HasFieldTwice v q → ⊥ in
    subst Q (sym seen) once))

pub repeated_within-returns-in_default : goal.repeated_within-returns-in_default
repeated_within-returns-in_default t c = search (rules, the_lemmas, no_number_twice, no_row_twice, no_entries_twice)

-- ---- that what is called is about less

pub repeated_name-repeated_in_field-requires : goal.repeated_name-repeated_in_field-requires
repeated_name-repeated_in_field-requires t c =
    let fs = c.args.fields.now in
    let f = c.field-item.result in
    let low = field_nested fs c.loop-field.field-index f (field_at fs c.loop-field.field-index f (omega arith) c.field-item.is) in
    omega (arith, low)

pub repeated_within-repeated_name-requires : goal.repeated_within-repeated_name-requires
repeated_within-repeated_name-requires t c =
    let seen : value_view c.args.value.now ≡ record_value (fields_view c.as_slice.result.now) =
    ap value_view c.in-Record.is ∙ view-Record c.in-Record.fields ∙ ap (λ fs. record_value (fields_view fs)) (sym c.as_slice.ensures.value) in
    let low = ap value_nesting seen in
    omega (arith, low)
