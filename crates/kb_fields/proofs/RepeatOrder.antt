-- The first name that is repeated in fields and in places, one by one.
use Rattle.std.proofs.Common.{◌≡◌, ℕ, suc, ◌+◌, ◌<◌, true, false, List, [], ◌∷◌, ◌++◌, length, take, drop, get_or, slice_get, Option, Some, None, sym, ap, subst, ◌∙◌, add-one}
use Rattle.std.specs.Borrow.{Bor}
use Rattle.std.specs.BTreeSet.{BTreeSet}
use Rattle.std.specs.List.{Contains}
use Rattle.std.proofs.Math.Seq.{drop-cons}
use Rattle.std.proofs.lemmas.Bool.{false≢true}
use Rattle.std.proofs.lemmas.List.{take_more}
use Rattle.std.proofs.lemmas.Option.{slice_get_within, get_or_from_slice_get}
use Rattle.kb_record.specs.Tree.{Value}
use Rattle.kb_record.specs.View.{field_view, places_of}
use Rattle.kb_record.specs.declared.tree.Field.{Field}
use Rattle.kb_record.specs.declared.tree.Value as code
use Rattle.kb_fields.specs.Fields.{fields_view, HasFieldTwice, HasFieldTwiceAt, IsFirstRepeatedAt, Naming, namings, namings_behind, namings_in}
use Rattle.kb_record.proofs.BeforeLemmas.{has_place, place_of, stands_before, among_first}
use Rattle.kb_record.specs.Repeats.{IsFirst}
use Rattle.kb_record.proofs.NamingLemmas.{first_here, first_later, first_behind, first_front, none_within}
use Rattle.kb_record.specs.NamesMet.{has}
use Rattle.kb_fields.proofs.RepeatLemmas.{HasSeen, names_in, name_at}

-- the names from the k-th field on
abbrev pub from_field : List (Field code.Value) → ℕ → List Naming
from_field fs k = namings_behind (take k (names_in fs)) (fields_view (drop k fs))

-- the names from the k-th place on
abbrev pub from_place : List (Option Value) → ℕ → List Naming
from_place ps k = namings_in (places_of (drop k ps))

-- a name that is the first from there on is the first of all
abbrev pub FirstOfAll : List Naming → List Naming → Type 0
FirstOfAll rest all = (name : List ℕ) → IsFirst rest name → IsFirst all name

module _ (fs : List (Field code.Value)) (k : ℕ) (f : Field code.Value) (within : k < length fs) (at : f ≡ get_or fs k f) where
  abbrev naming : Naming
  naming = record { name = (field_view f).0; before = take k (names_in fs) }

  named : slice_get (names_in fs) k ≡ Some (field_view f).0
  named = name_at fs k f within at

  rest_is : drop k fs ≡ f ∷ drop (k + 1) fs
  rest_is = drop-cons fs k f within ∙ ap (λ (g : Field code.Value). g ∷ drop (suc k) fs) (sym at) ∙ ap (λ (n : ℕ). f ∷ drop n fs) (sym (add-one k))

  names_more : take (k + 1) (names_in fs) ≡ take k (names_in fs) ++ (field_view f).0 ∷ []
  names_more =
      take_more (names_in fs) k (field_view f).0 (slice_get_within (names_in fs) k (field_view f).0 named)
      ∙ ap (λ (n : List ℕ). take k (names_in fs) ++ n ∷ []) (get_or_from_slice_get (names_in fs) k (field_view f).0 (field_view f).0 named)

  one_more : from_field fs k ≡ record { name = (field_view f).0; before = take k (names_in fs) } ∷ namings (field_view f).1 ++ from_field fs (k + 1)
  one_more =
      ap (λ (gs : List (Field code.Value)). namings_behind (take k (names_in fs)) (fields_view gs)) rest_is
      ∙ ap (λ (ns : List (List ℕ)). record { name = (field_view f).0; before = take k (names_in fs) } ∷ namings (field_view f).1 ++ namings_behind ns (fields_view (drop (k + 1) fs))) (sym names_more)

  -- the field's name stands before, or is new
  pub stands : (seen : BTreeSet (Bor (List ℕ))) → HasSeen (names_in fs) k seen → has seen (field_view f).0 ≡ true → Contains (take k (names_in fs)) (field_view f).0
  stands seen first found =
      let before = first.old (field_view f).0 found in
      has_place (take k (names_in fs)) before.0 (field_view f).0 (among_first (names_in fs) k before.0 (field_view f).0 before.2 before.1)

  pub is_new : (seen : BTreeSet (Bor (List ℕ))) → HasSeen (names_in fs) k seen → has seen (field_view f).0 ≡ false → Contains (take k (names_in fs)) (field_view f).0 → ⊥
  is_new seen first absent among =
      let before = stands_before (names_in fs) k among.0 (field_view f).0 (place_of (take k (names_in fs)) (field_view f).0 among) in
      false≢true (sym absent ∙ first.all (field_view f).0 among.0 before.before before.at)

  module _ (all : List Naming) (whole : FirstOfAll (from_field fs k) all) where
    pub repeated_here : Contains (take k (names_in fs)) (field_view f).0 → IsFirst all (field_view f).0
    repeated_here again =
        let P : List Naming → Type 0 = λ ns. IsFirst ns (field_view f).0 in
        whole (field_view f).0 (subst P (sym one_more) (first_here naming _ again))

    pub repeated_inside : (name : List ℕ) → (Contains (take k (names_in fs)) (field_view f).0 → ⊥) → IsFirst (namings (field_view f).1) name → IsFirst all name
    repeated_inside name new found =
        let P : List Naming → Type 0 = λ ns. IsFirst ns name in
        whole name (subst P (sym one_more) (first_later naming _ name new (first_front (namings (field_view f).1) (from_field fs (k + 1)) name found)))

    pub repeated_later : (Contains (take k (names_in fs)) (field_view f).0 → ⊥) → ((q : List ℕ) → HasFieldTwice (field_view f).1 q → ⊥)
        → FirstOfAll (from_field fs (k + 1)) all
    repeated_later new once name found =
        let P : List Naming → Type 0 = λ ns. IsFirst ns name in
        whole name (subst P (sym one_more) (first_later naming _ name new
        (first_behind (namings (field_view f).1) (from_field fs (k + 1)) name (none_within (field_view f).1 once) found)))

module _ (ps : List (Option Value)) (k : ℕ) (p : Option Value) (at : slice_get ps k ≡ Some p) (all : List Naming) (whole : FirstOfAll (from_place ps k) all) where
  places_are : drop k ps ≡ p ∷ drop (k + 1) ps
  places_are =
      drop-cons ps k p (slice_get_within ps k p at) ∙ ap (λ (q : Option Value). q ∷ drop (suc k) ps) (get_or_from_slice_get ps k p p at)
      ∙ ap (λ (n : ℕ). p ∷ drop n ps) (sym (add-one k))

  from_here : from_place ps k ≡ namings_in (places_of (p ∷ drop (k + 1) ps))
  from_here = ap (λ (qs : List (Option Value)). namings_in (places_of qs)) places_are

  pub repeated_at_place : (name : List ℕ) → IsFirstRepeatedAt p name → IsFirst all name
  repeated_at_place name found = whole name (subst (λ (ns : List Naming). IsFirst ns name) (sym from_here) (of p found))
    where
      of : (q : Option Value) → IsFirstRepeatedAt q name → IsFirst (namings_in (places_of (q ∷ drop (k + 1) ps))) name
      of None h = absurd h
      of (Some v) h = first_front (namings v) (from_place ps (k + 1)) name h

  pub repeated_behind : ((q : List ℕ) → HasFieldTwiceAt p q → ⊥) → FirstOfAll (from_place ps (k + 1)) all
  repeated_behind once name found = whole name (subst (λ (ns : List Naming). IsFirst ns name) (sym from_here) (of p once))
    where
      of : (q : Option Value) → ((r : List ℕ) → HasFieldTwiceAt q r → ⊥) → IsFirst (namings_in (places_of (q ∷ drop (k + 1) ps))) name
      of None none = found
      of (Some v) none = first_behind (namings v) (from_place ps (k + 1)) name (none_within v none) found
