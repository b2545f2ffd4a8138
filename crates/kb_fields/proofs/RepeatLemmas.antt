-- Names that stand twice among the fields of records, field by field.
use Rattle.std.proofs.Common.{◌≡◌, ℕ, suc, ◌+◌, ◌<◌, ◌≤◌, ℤ, Bool, true, false, cond, List, [], ◌∷◌, map, length, get_or, slice_get, Option, Some, None, ◌⊎◌, inl, inr, refl, sym, ap, subst, ◌∙◌, arith}
use Rattle.std.specs.Borrow.{Bor}
use Rattle.std.specs.BTreeSet.{BTreeSet, Updates}
use Rattle.std.specs.Str.{bytes_eq}
use Rattle.std.specs.Option.{option_map}
use Rattle.std.proofs.lemmas.List.{length-map}
use Rattle.std.proofs.lemmas.Option.{slice_get-map, slice_get_read, slice_get_within}
use Rattle.std.proofs.lemmas.Bool.{cases_lt, false≢true}
use Rattle.std.proofs.lemmas.Slice.Eq.{bytes_eq-Decides}
use Rattle.kb_record.specs.Tree.{Value, record_value, list_value}
use Rattle.kb_record.specs.View.{field_view, places_of, value_of_place, number_place, row_place, entry_place, entries_place}
use Rattle.kb_record.specs.declared.tree.Field.{Field}
use Rattle.kb_record.specs.declared.tree.Value as code
use Rattle.kb_record.specs.NamesMet.{text_cmp, has}
use Rattle.kb_record.proofs.OpenLemmas.{has_after, cond_same}
use Rattle.kb_fields.specs.Fields.{fields_view, field_names, StandsTwice, HasFieldTwice, HasFieldTwiceAt, SomeFieldHasTwice, SomePlaceHasTwice}

-- The set has the first n of the names, none of which stands twice.
pub record HasSeen (names : List (List ℕ)) (n : ℕ) (seen : BTreeSet (Bor (List ℕ))) : Type 0 where
  pub old : (q : List ℕ) → has seen q ≡ true → (j : ℕ) × (j < n) × (slice_get names j ≡ Some q)
  pub all : (q : List ℕ) (j : ℕ) → j < n → slice_get names j ≡ Some q → has seen q ≡ true
  pub apart : (q : List ℕ) (j k : ℕ) → j < k → k < n → slice_get names j ≡ Some q → slice_get names k ≡ Some q → ⊥

pub seen_none : (names : List (List ℕ)) (seen : BTreeSet (Bor (List ℕ))) → seen.keys ≡ [] → HasSeen names 0 seen
seen_none names seen empty = record {
  old = λ q e. cc;
  all = λ q j h. absurd (omega (arith, h));
  apart = λ q j k h i. absurd (omega (arith, i));
}

text_same : {a b : List ℕ} → Some a ≡ Some b → a ≡ b
text_same e = cc

field_same : {a b : Field code.Value} → Some a ≡ Some b → a ≡ b
field_same e = cc

place_same : {a b : Option Value} → Some a ≡ Some b → a ≡ b
place_same e = cc

-- one more name, which is new
pub seen_more : (names : List (List ℕ)) (n : ℕ) (seen new : BTreeSet (Bor (List ℕ))) (k : Bor (List ℕ)) → HasSeen names n seen → slice_get names n ≡ Some k.now
    → has seen k.now ≡ false → Updates text_cmp seen new k true → HasSeen names (n + 1) new
seen_more names n seen new k first at absent updates = record {
  old = λ q e. old q (bytes_eq k.now q) refl (sym (has_after seen new k updates q) ∙ e);
  all = λ q j h is. has_after seen new k updates q ∙ all q j (cases_lt j n) h is;
  apart = λ q i j h within at_i at_j. apart q i j (cases_lt j n) h within at_i at_j;
}
  where
    old : (q : List ℕ) (b : Bool) → bytes_eq k.now q ≡ b → cond (bytes_eq k.now q) true (has seen q) ≡ true → (j : ℕ) × (j < n + 1) × (slice_get names j ≡ Some q)
    old q true same e = (n, omega arith, at ∙ ap Some ((bytes_eq-Decides k.now q).0 same))
    old q false other e = let before = first.old q (sym (ap (λ b. cond b true (has seen q)) other) ∙ e) in (before.0, omega (arith, before.1), before.2)

    all : (q : List ℕ) (j : ℕ) → (j < n) ⊎ (n ≤ j) → j < n + 1 → slice_get names j ≡ Some q → cond (bytes_eq k.now q) true (has seen q) ≡ true
    all q j (inl before) h is = ap (cond (bytes_eq k.now q) true) (first.all q j before is) ∙ cond_same (bytes_eq k.now q)
    all q j (inr here) h is =
        let same : j ≡ n = omega (arith, here, h) in
        let named : k.now ≡ q = text_same (sym at ∙ (ap (slice_get names) (sym same) ∙ is)) in
        ap (λ b. cond b true (has seen q)) ((bytes_eq-Decides k.now q).1 named)

    apart : (q : List ℕ) (i j : ℕ) → (j < n) ⊎ (n ≤ j) → i < j → j < n + 1 → slice_get names i ≡ Some q → slice_get names j ≡ Some q → ⊥
    apart q i j (inl before) h within at_i at_j = first.apart q i j h before at_i at_j
    apart q i j (inr here) h within at_i at_j =
        let same : j ≡ n = omega (arith, here, within) in
        let named : k.now ≡ q = text_same (sym at ∙ (ap (slice_get names) (sym same) ∙ at_j)) in
        let found = first.all q i (omega (arith, h, same)) at_i in
        false≢true (sym absent ∙ (ap (has seen) named ∙ found))

-- the names of fields, as the code has them
abbrev pub names_in : List (Field code.Value) → List (List ℕ)
names_in fs = map (λ (f : Field code.Value). (field_view f).0) fs

names_of_fields : (fs : List (Field code.Value)) → field_names (fields_view fs) ≡ names_in fs
names_of_fields [] = refl
names_of_fields (f ∷ fs) = ap (λ (ns : List (List ℕ)). (field_view f).0 ∷ ns) (names_of_fields fs)

-- the name stands twice in the value of this field
pub record InField (fs : List (Field code.Value)) (q : List ℕ) : Type 0 where
  pub k : ℕ
  pub f : Field code.Value
  pub at : slice_get fs k ≡ Some f
  pub twice : HasFieldTwice (field_view f).1 q

pub in_some_field : (fs : List (Field code.Value)) (q : List ℕ) → SomeFieldHasTwice (fields_view fs) q → InField fs q
in_some_field [] q e = absurd e
in_some_field (f ∷ fs) q (inl here) = record { k = 0; f = f; at = refl; twice = here }
in_some_field (f ∷ fs) q (inr later) = let rest = in_some_field fs q later in record { k = suc rest.k; f = rest.f; at = rest.at; twice = rest.twice }

-- the name stands twice at this place
pub record InPlace (ps : List (Option Value)) (q : List ℕ) : Type 0 where
  pub k : ℕ
  pub p : Option Value
  pub at : slice_get ps k ≡ Some p
  pub twice : HasFieldTwiceAt p q

pub in_some_place : (ps : List (Option Value)) (q : List ℕ) → SomePlaceHasTwice (places_of ps) q → InPlace ps q
in_some_place [] q e = absurd e
in_some_place (Some v ∷ ps) q (inl here) = record { k = 0; p = Some v; at = refl; twice = here }
in_some_place (Some v ∷ ps) q (inr later) = let rest = in_some_place ps q later in record { k = suc rest.k; p = rest.p; at = rest.at; twice = rest.twice }
in_some_place (None ∷ ps) q later = let rest = in_some_place ps q later in record { k = suc rest.k; p = rest.p; at = rest.at; twice = rest.twice }

module _ (fs : List (Field code.Value)) (n : ℕ) (f : Field code.Value) (within : n < length fs) (at : f ≡ get_or fs n f) where
  pub field_at : slice_get fs n ≡ Some f
  field_at = slice_get_read fs (length fs) n f refl within at

  pub name_at : slice_get (names_in fs) n ≡ Some (field_view f).0
  name_at = slice_get-map (λ (g : Field code.Value). (field_view g).0) fs n ∙ ap (option_map (λ (g : Field code.Value). (field_view g).0)) field_at

-- nothing stands twice where each field was seen
pub none_twice : (fs : List (Field code.Value)) (n : ℕ) (seen : BTreeSet (Bor (List ℕ))) → length fs ≤ n → HasSeen (names_in fs) n seen
    → ((k : ℕ) (f : Field code.Value) → k < n → slice_get fs k ≡ Some f → (q : List ℕ) → HasFieldTwice (field_view f).1 q → ⊥)
    → (q : List ℕ) → HasFieldTwice (record_value (fields_view fs)) q → ⊥
none_twice fs n seen whole first within q (inl twice) = apart (subst P (names_of_fields fs) twice)
  where
    P : List (List ℕ) → Type 0
    P names = StandsTwice names q

    apart : StandsTwice (names_in fs) q → ⊥
    apart t =
        let inside = slice_get_within (names_in fs) t.again q t.at_again in
        let count = length-map fs (λ (g : Field code.Value). (field_view g).0) in
        first.apart q t.first t.again t.later (omega (arith, inside, count)) t.at_first t.at_again
none_twice fs n seen whole first within q (inr later) =
    let found = in_some_field fs q later in
    let inside = slice_get_within fs found.k found.f found.at in
    within found.k found.f (omega (arith, inside)) found.at q found.twice

pub no_place_twice : (ps : List (Option Value)) (n : ℕ) → length ps ≤ n → ((k : ℕ) (p : Option Value) → k < n → slice_get ps k ≡ Some p → (q : List ℕ) → HasFieldTwiceAt p q → ⊥)
    → (q : List ℕ) → HasFieldTwice (list_value (places_of ps)) q → ⊥
no_place_twice ps n whole within q later =
    let found = in_some_place ps q later in
    let inside = slice_get_within ps found.k found.p found.at in
    within found.k found.p (omega (arith, inside)) found.at q found.twice

-- one more field, in whose value nothing stands twice
pub within_more : (fs : List (Field code.Value)) (n : ℕ) (f : Field code.Value) → slice_get fs n ≡ Some f
    → ((k : ℕ) (g : Field code.Value) → k < n → slice_get fs k ≡ Some g → (q : List ℕ) → HasFieldTwice (field_view g).1 q → ⊥)
    → ((q : List ℕ) → HasFieldTwice (field_view f).1 q → ⊥)
    → (k : ℕ) (g : Field code.Value) → k < n + 1 → slice_get fs k ≡ Some g → (q : List ℕ) → HasFieldTwice (field_view g).1 q → ⊥
within_more fs n f at before here k g h is q twice = go (cases_lt k n)
  where
    go : (k < n) ⊎ (n ≤ k) → ⊥
    go (inl less) = before k g less is q twice
    go (inr last) =
        let same : n ≡ k = omega (arith, h, last) in
        let found : f ≡ g = field_same (sym at ∙ (ap (slice_get fs) same ∙ is)) in
        let P : Field code.Value → Type 0 = λ e. HasFieldTwice (field_view e).1 q in
        here q (subst P (sym found) twice)

-- one more place, in which nothing stands twice
pub places_more : (ps : List (Option Value)) (n : ℕ) (p : Option Value) → slice_get ps n ≡ Some p
    → ((k : ℕ) (r : Option Value) → k < n → slice_get ps k ≡ Some r → (q : List ℕ) → HasFieldTwiceAt r q → ⊥) → ((q : List ℕ) → HasFieldTwiceAt p q → ⊥)
    → (k : ℕ) (r : Option Value) → k < n + 1 → slice_get ps k ≡ Some r → (q : List ℕ) → HasFieldTwiceAt r q → ⊥
places_more ps n p at before here k r h is q twice = go (cases_lt k n)
  where
    go : (k < n) ⊎ (n ≤ k) → ⊥
    go (inl less) = before k r less is q twice
    go (inr last) =
        let same : n ≡ k = omega (arith, h, last) in
        let found : p ≡ r = place_same (sym at ∙ (ap (slice_get ps) same ∙ is)) in
        let P : Option Value → Type 0 = λ x. HasFieldTwiceAt x q in
        here q (subst P (sym found) twice)

-- numbers, and lists of them, hold no records
pub no_number_twice : (numbers : List ℤ) (q : List ℕ) → SomePlaceHasTwice (places_of (map number_place numbers)) q → ⊥
no_number_twice [] q e = absurd e
no_number_twice (z ∷ numbers) q (inl here) = absurd here
no_number_twice (z ∷ numbers) q (inr later) = no_number_twice numbers q later

pub no_row_twice : (rows : List (List ℤ)) (q : List ℕ) → SomePlaceHasTwice (places_of (map row_place rows)) q → ⊥
no_row_twice [] q e = absurd e
no_row_twice (row ∷ rows) q (inl here) = no_number_twice row q here
no_row_twice (row ∷ rows) q (inr later) = no_row_twice rows q later

no_entry_twice : (entries : List (ℤ × ℤ)) (q : List ℕ) → SomePlaceHasTwice (places_of (map entry_place entries)) q → ⊥
no_entry_twice [] q e = absurd e
no_entry_twice (entry ∷ entries) q (inl here) = no_number_twice (entry.0 ∷ entry.1 ∷ []) q here
no_entry_twice (entry ∷ entries) q (inr later) = no_entry_twice entries q later

pub no_entries_twice : (rows : List (List (ℤ × ℤ))) (q : List ℕ) → SomePlaceHasTwice (places_of (map entries_place rows)) q → ⊥
no_entries_twice [] q e = absurd e
no_entries_twice (row ∷ rows) q (inl here) = no_entry_twice row q here
no_entries_twice (row ∷ rows) q (inr later) = no_entries_twice rows q later

-- at a place in which nothing stands twice the value has nothing twice, a string for an empty place
pub none_of_place : (p : Option Value) → ((q : List ℕ) → HasFieldTwiceAt p q → ⊥) → (q : List ℕ) → HasFieldTwice (value_of_place p) q → ⊥
none_of_place None none q h = absurd h
none_of_place (Some v) none q h = none q h
