-- Lists place by place, and that lists of names are determined by their values.
use Rattle.std.proofs.Common.{◌≡◌, ℕ, zero, suc, ◌+◌, List, [], ◌∷◌, ◌++◌, map, get_or, take, Option, Some, None, refl, ap, sym, ◌∙◌}
use Rattle.std.specs.List.{slice_get}
use Rattle.std.specs.Borrow.{Bor}
use Rattle.std.proofs.lemmas.List.{take_more, map-append}
use Rattle.std.proofs.lemmas.Option.{slice_get_within, get_or_from_slice_get}
use Rattle.kb_record.specs.Tree.{Value, list_value, Fields, Places, place, empty_place}
use Rattle.kb_record.specs.View.{places_of}
use Rattle.kb_record.specs.Listed.{listed, HasPlaces}
use Rattle.kb_record.proofs.Views.{listed-is}
use Rattle.kb_fields.specs.Fields.{bare_name, list_of_names, IsListOf, value_of}

pub list_of_names-places_of : (names : List (List ℕ)) → list_of_names names ≡ places_of (map (λ (name : List ℕ). Some (bare_name name)) names)
list_of_names-places_of [] = refl
list_of_names-places_of (name ∷ names) = ap (place (bare_name name)) (list_of_names-places_of names)

-- a list is determined by its places
pub places_of-injective : (xs ys : List (Option Value)) → places_of xs ≡ places_of ys → xs ≡ ys
places_of-injective [] [] e = refl
places_of-injective [] (Some y ∷ ys) e = cc
places_of-injective [] (None ∷ ys) e = cc
places_of-injective (Some x ∷ xs) [] e = cc
places_of-injective (None ∷ xs) [] e = cc
places_of-injective (Some x ∷ xs) (None ∷ ys) e = cc
places_of-injective (None ∷ xs) (Some y ∷ ys) e = cc
places_of-injective (None ∷ xs) (None ∷ ys) e = ap (λ (zs : List (Option Value)). None ∷ zs) (places_of-injective xs ys (unplaced e))
  where
    unplaced : {p q : Places} → empty_place p ≡ empty_place q → p ≡ q
    unplaced h = cc
places_of-injective (Some x ∷ xs) (Some y ∷ ys) e =
    let tails = places_of-injective xs ys (behind e) in let heads = front e in cc
  where
    behind : {v w : Value} {p q : Places} → place v p ≡ place w q → p ≡ q
    behind h = cc

    front : {v w : Value} {p q : Places} → place v p ≡ place w q → v ≡ w
    front h = cc

pub list_same : {p q : Places} → list_value p ≡ list_value q → p ≡ q
list_same e = cc

-- an element that isn't of the form isn't in a list of elements of the form
pub not_mapped : {A : Type 0} (f : A → Option Value) (xs : List (Option Value)) (k : ℕ) (x : Option Value)
    → slice_get xs k ≡ Some x → ((a : A) → x ≡ f a → ⊥) → (texts : List A) → xs ≡ map f texts → ⊥
not_mapped f [] k x at other texts e = cc
not_mapped f (y ∷ ys) k x at other [] e = cc
not_mapped f (y ∷ ys) zero x at other (a ∷ texts) e = other a cc
not_mapped f (y ∷ ys) (suc k) x at other (a ∷ texts) e = not_mapped f ys k x at other texts cc

-- lists whose places are of a form
module _ {A : Type 0} (f : A → Option Value) (list_of : List A → Places) (as_places : (texts : List A) → list_of texts ≡ places_of (map f texts)) where
  -- a value is the list of what its places are
  pub value_listed : (value : Value) (ps : List (Option Value)) → HasPlaces value ps → (texts : List A) → ps ≡ map f texts → value ≡ list_value (list_of texts)
  value_listed value ps is texts e = is ∙ ap list_value (ap places_of e ∙ sym (as_places texts))

  -- a value with a place of another form is no list of the form
  pub value_other : (value : Value) (k : ℕ) (x : Option Value) → slice_get (listed value) k ≡ Some x → ((a : A) → x ≡ f a → ⊥)
      → (texts : List A) → value ≡ list_value (list_of texts) → ⊥
  value_other value k x at other texts e =
      not_mapped f (listed value) k x at other texts (listed-is value (map f texts) (e ∙ ap list_value (as_places texts)))

-- one place more that is of the form
pub one_place_more : {A : Type 0} (f : A → Option Value) (ps : List (Option Value)) (k : ℕ) (p : Option Value) → slice_get ps k ≡ Some p
    → (texts more : List A) (a : A) → take k ps ≡ map f texts → p ≡ f a → more ≡ texts ++ a ∷ [] → take (k + 1) ps ≡ map f more
one_place_more f ps k p at texts more a before is longer =
    let inside = slice_get_within ps k p at in
    let here = get_or_from_slice_get ps k p p at ∙ is in
    take_more ps k p inside ∙ ap (λ qs. qs ++ get_or ps k p ∷ []) before ∙ ap (λ q. map f texts ++ q ∷ []) here ∙ sym (map-append f texts (a ∷ [])) ∙ ap (map f) (sym longer)

pub map_now : (names : List (Bor (List ℕ))) → map (λ (name : Bor (List ℕ)). Some (bare_name name.now)) names ≡ map (λ (name : List ℕ). Some (bare_name name)) (map (λ (name : Bor (List ℕ)). name.now) names)
map_now [] = refl
map_now (n ∷ ns) = ap (λ (ps : List (Option Value)). Some (bare_name n.now) ∷ ps) (map_now ns)

pub bare_name-injective : {a b : List ℕ} → bare_name a ≡ bare_name b → a ≡ b
bare_name-injective e = cc

bare_names-injective : (xs ys : List (List ℕ)) → map (λ (name : List ℕ). Some (bare_name name)) xs ≡ map (λ (name : List ℕ). Some (bare_name name)) ys → xs ≡ ys
bare_names-injective [] [] e = refl
bare_names-injective [] (y ∷ ys) e = cc
bare_names-injective (x ∷ xs) [] e = cc
bare_names-injective (x ∷ xs) (y ∷ ys) e =
    let rest = bare_names-injective xs ys (behind e) in let first = bare_name-injective (front e) in cc
  where
    behind : {v w : Option Value} {p q : List (Option Value)} → v ∷ p ≡ w ∷ q → p ≡ q
    behind h = cc

    front : {v w : Value} {p q : List (Option Value)} → Some v ∷ p ≡ Some w ∷ q → v ≡ w
    front h = cc

pub list_of_names-injective : (xs ys : List (List ℕ)) → list_of_names xs ≡ list_of_names ys → xs ≡ ys
list_of_names-injective xs ys e =
    bare_names-injective xs ys (places_of-injective _ _ (sym (list_of_names-places_of xs) ∙ (e ∙ list_of_names-places_of ys)))

-- a value is a list of one list of names
pub one_list_of_names : (value : Value) (names others : List (List ℕ)) → IsListOf names value → IsListOf others value → names ≡ others
one_list_of_names value names others a b = list_of_names-injective names others (list_same (sym a ∙ b))

pub some_value : {v w : Value} → Some v ≡ Some w → v ≡ w
some_value e = cc

-- a field has one value
pub one_value : (given : Fields) (name : List ℕ) (v w : Value) → value_of given name ≡ Some v → value_of given name ≡ Some w → v ≡ w
one_value given name v w a b = some_value (sym a ∙ b)

-- the names that a field lists are one list
pub one_field_of_names : (given : Fields) (field : List ℕ) (names others : List (List ℕ)) → value_of given field ≡ Some (list_value (list_of_names names))
    → value_of given field ≡ Some (list_value (list_of_names others)) → names ≡ others
one_field_of_names given field names others a b = list_of_names-injective names others (list_same (one_value given field _ _ a b))
