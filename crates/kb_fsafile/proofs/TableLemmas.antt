-- Rows at the places of a table.
use Rattle.std.proofs.Common.{◌≡◌, ℕ, ◌+◌, ◌<◌, ◌≤◌, ◌^◌, ℤ, pos, List, [], ◌∷◌, ◌++◌, length, take, get_or, slice_get, Option, Some, None, refl, sym, ap, ◌∙◌, subst, arith}
use Rattle.std.specs.List.{All}
use Rattle.std.proofs.lemmas.List.{length-map, length-take, length_push, take_more}
use Rattle.std.proofs.lemmas.Option.{slice_get_within, get_or_from_slice_get}
use Rattle.std.proofs.lemmas.List.Elements.{All-weaker, All-contains, All-push}
use Rattle.kb_record.specs.Tree.{Value, list_value, Fields}
use Rattle.kb_record.specs.View.{places_of}
use Rattle.kb_fields.specs.Fields.{value_of}
use Rattle.kb_fields.proofs.PlaceLemmas.{count_places}
use Rattle.kb_fsa.specs.Table.{Moves, IsRow, lookup, target}
use Rattle.kb_fsa.proofs.Lookups.{lookup_at, entry_from_lookup, lookup_from_target, target_some}
use Rattle.kb_fsafile.specs.Kinds.{list_of_numbers, list_of_entries, numbered_from}
use Rattle.kb_fsafile.specs.Holds.{HoldsRecord, HoldsString, HasNoDefault, HoldsRow, HoldsRows, HoldsEntries, format_name}
use Rattle.std.specs.Prelude.{codes}
use Rattle.kb_fsafile.specs.RowsRead.{HasRows, IsWithin, IsRowAt, AreRowsAt, AreRowTargets, IsSparseRow}
use Rattle.kb_fsafile.specs.declared.format.Format.{Format}
use Rattle.kb_fsafile.specs.declared.format.Format.TheVariants.{Dense, Sparse}
use Rattle.kb_fsafile.proofs.MoveLemmas.{target_among, row_among, within_among, numbered_positive, numbered_ascends, numbered_within}

-- the row of targets for each symbol
pub dense_row_at : (size count : ℕ) (numbers : List ℤ) (here : Option Value) (row : Moves) → here ≡ Some (list_value (list_of_numbers numbers)) → length numbers ≡ size
    → AreRowTargets count numbers row → IsRowAt size count Dense here row
dense_row_at size count numbers here row stands full are = record {
  value = list_value (list_of_numbers numbers);
  stands = stands;
  holds = record {
    entries = numbered_from 1 are.targets;
    holds = HoldsEntries.dense are.targets (ap (λ (ns : List ℤ). list_value (list_of_numbers ns)) are.same) all refl;
    targets = All-weaker (IsWithin size count) (λ (e : ℕ × ℕ). e.1 ≤ count) (λ e within. within.1) (numbered_from 1 are.targets) within;
    is_row = let P : Moves → Type 0 = λ ms. IsRow ms in
        subst P (sym are.kept) (row_among (numbered_from 1 are.targets) (numbered_ascends 1 are.targets) (numbered_positive are.targets));
    same = λ symbol. ap (λ (ms : Moves). target ms symbol) are.kept ∙ target_among (numbered_from 1 are.targets) symbol (numbered_ascends 1 are.targets);
  };
  within = let P : Moves → Type 0 = λ ms. All (IsWithin size count) ms in
      subst P (sym are.kept) (within_among size count (numbered_from 1 are.targets) within);
}
  where
    all : length are.targets ≡ size
    all = sym (length-map are.targets pos) ∙ (sym (ap length are.same) ∙ full)

    within : All (IsWithin size count) (numbered_from 1 are.targets)
    within = numbered_within 1 count size are.targets (omega (arith, all)) are.within

-- the row of entries
pub sparse_row_at : (size count : ℕ) (pairs : List (ℤ × ℤ)) (here : Option Value) (row : Moves) → here ≡ Some (list_value (list_of_entries pairs))
    → IsSparseRow size count pairs row → IsRowAt size count Sparse here row
sparse_row_at size count pairs here row stands is = record {
  value = list_value (list_of_entries pairs);
  stands = stands;
  holds = record {
    entries = is.entries;
    holds = HoldsEntries.sparse (ap (λ (ps : List (ℤ × ℤ)). list_value (list_of_entries ps)) is.are.same) is.are.apart is.are.symbols;
    targets = is.are.targets;
    is_row = is.is_row;
    same = is.each;
  };
  within = λ k d inside. bounds (get_or row k d) (lookup_at row k d is.is_row.ascends inside) (is.is_row.numbers k d inside).1;
}
  where
    bounds : (m : ℕ × ℕ) → lookup row m.0 ≡ Some m.1 → 0 < m.1 → IsWithin size count m
    bounds m found positive =
        let entry = entry_from_lookup is.entries m.0 m.1
        (lookup_from_target is.entries m.0 m.1 positive (sym (is.each m.0) ∙ target_some row m.0 m.1 found)) in (
          (All-contains (λ (e : ℕ × ℕ). (0 < e.0) × (e.0 ≤ size)) is.entries (m.0, m.1) is.are.symbols entry).1,
          All-contains (λ (e : ℕ × ℕ). e.1 ≤ count) is.entries (m.0, m.1) is.are.targets entry,
        )

holds_push : (size count : ℕ) (format : Format) (ps : List (Option Value)) (rows : List Moves) (value : Value) (row : Moves)
    → HoldsRows size count format (places_of ps) rows → HoldsRow size count format value row
    → HoldsRows size count format (places_of (ps ++ Some value ∷ [])) (rows ++ row ∷ [])
holds_push size count format [] [] value row holds here = (here, refl)
holds_push size count format [] (r ∷ rows) value row holds here = cc
holds_push size count format (Some v ∷ ps) [] value row holds here = absurd holds
holds_push size count format (Some v ∷ ps) (r ∷ rows) value row holds here = (holds.0, holds_push size count format ps rows value row holds.1 here)
holds_push size count format (None ∷ ps) rows value row holds here = absurd holds

-- one more row
pub rows_more : (size count : ℕ) (format : Format) (ps : List (Option Value)) (k : ℕ) (p : Option Value) (rows : List Moves) (row : Moves)
    → slice_get ps k ≡ Some p → AreRowsAt size count format (places_of (take k ps)) rows → IsRowAt size count format p row
    → AreRowsAt size count format (places_of (take (k + 1) ps)) (rows ++ row ∷ [])
rows_more size count format ps k p rows row at are is = record {
  holds = let P : List (Option Value) → Type 0 = λ vs. HoldsRows size count format (places_of vs) (rows ++ row ∷ []) in
      subst P (sym whole) (holds_push size count format (take k ps) rows is.value row are.holds is.holds);
  one_each =
      let pushed = length_push rows row in
      let here = count_places (take k ps) in let there = count_places (take (k + 1) ps) in
      let some = length-take k ps in let more = length-take (k + 1) ps in
      omega (arith, pushed, are.one_each, here, there, some, more, inside);
  are_rows = All-push IsRow rows row are.are_rows is.holds.is_row;
  within = All-push (All (IsWithin size count)) rows row are.within is.within;
}
  where
    inside : k < length ps
    inside = slice_get_within ps k p at

    whole : take (k + 1) ps ≡ take k ps ++ Some is.value ∷ []
    whole = take_more ps k p inside ∙ ap (λ (q : Option Value). take k ps ++ q ∷ []) (get_or_from_slice_get ps k p p at ∙ is.stands)

-- the rows of the table, whose count fits
pub has_rows : (given table : Fields) (size count number : ℕ) (format : Format) (ps : List (Option Value)) (rows : List Moves) → HoldsRecord given (codes "table") table
    → HasNoDefault (value_of table (codes "defaultTarget")) → HoldsString table (codes "format") (format_name format)
    → value_of table (codes "transitions") ≡ Some (list_value (places_of ps)) → length ps ≡ count → count < 2 ^ 32 → number ≡ count
    → AreRowsAt size number format (places_of ps) rows → HasRows given size count rows
has_rows given table size count number format ps rows is_record no_default named listed all few fits are = record {
  holds = record {
    table = table;
    is_record = is_record;
    no_default = no_default;
    format = format;
    named = named;
    places = places_of ps;
    listed = listed;
    each = let P : ℕ → Type 0 = λ n. HoldsRows size n format (places_of ps) rows in subst P (fits ∙ sym whole) are.holds;
  };
  one_each = whole;
  few = few;
  are_rows = are.are_rows;
  within = let P : ℕ → Type 0 = λ n. All (All (IsWithin size n)) rows in subst P fits are.within;
}
  where
    whole : length rows ≡ count
    whole = are.one_each ∙ (count_places ps ∙ all)
