-- Lists of names and empty places, element by element, and that they are determined by their values.
use Rattle.std.proofs.Common.{◌≡◌, ℕ, ◌+◌, ◌<◌, ◌≤◌, List, [], ◌∷◌, ◌++◌, map, length, take, replicate, slice_get, Option, Some, None, option_and_then, true, false, refl, sym, ap, ◌∙◌, arith}
use Rattle.std.specs.Borrow.{Bor}
use Rattle.std.specs.Option.{option_map, option_copied, is_some}
use Rattle.std.specs.Prelude.{codes}
use Rattle.std.proofs.lemmas.List.{take_all, append-nil, append_assoc, length_push, replicate-append-replicate}
use Rattle.std.proofs.lemmas.Option.{slice_get-map}
use Rattle.kb_record.specs.Tree.{Value, list_value, Fields, place, empty_place}
use Rattle.kb_record.specs.View.{places_of}
use Rattle.kb_record.specs.Listed.{listed, HasPlaces}
use Rattle.kb_record.proofs.Views.{listed-is}
use Rattle.kb_fields.specs.Fields.{bare_name}
use Rattle.kb_fields.proofs.ListingLemmas.{places_of-injective, bare_name-injective, list_same, one_field_of_names, value_listed, one_place_more}
use Rattle.kb_presfile.specs.Kinds.{list_of_places}
use Rattle.kb_presfile.specs.Holds.{HasNames, place_at}

pub list_of_places-places_of : (names : List (Option (List ℕ))) → list_of_places names ≡ places_of (map (option_map bare_name) names)
list_of_places-places_of [] = refl
list_of_places-places_of (Some name ∷ names) = ap (place (bare_name name)) (list_of_places-places_of names)
list_of_places-places_of (None ∷ names) = ap empty_place (list_of_places-places_of names)

optional_injective : (x y : Option (List ℕ)) → option_map bare_name x ≡ option_map bare_name y → x ≡ y
optional_injective None None e = refl
optional_injective None (Some y) e = cc
optional_injective (Some x) None e = cc
optional_injective (Some x) (Some y) e = ap Some (bare_name-injective (inner e))
  where
    inner : {v w : Value} → Some v ≡ Some w → v ≡ w
    inner h = cc

optionals_injective : (xs ys : List (Option (List ℕ))) → map (option_map bare_name) xs ≡ map (option_map bare_name) ys → xs ≡ ys
optionals_injective [] [] e = refl
optionals_injective [] (y ∷ ys) e = cc
optionals_injective (x ∷ xs) [] e = cc
optionals_injective (x ∷ xs) (y ∷ ys) e =
    let rest = optionals_injective xs ys (behind e) in let first = optional_injective x y (front e) in cc
  where
    behind : {v w : Option Value} {p q : List (Option Value)} → v ∷ p ≡ w ∷ q → p ≡ q
    behind h = cc

    front : {v w : Option Value} {p q : List (Option Value)} → v ∷ p ≡ w ∷ q → v ≡ w
    front h = cc

pub places_injective : (xs ys : List (Option (List ℕ))) → list_value (list_of_places xs) ≡ list_value (list_of_places ys) → xs ≡ ys
places_injective xs ys e =
    optionals_injective xs ys (places_of-injective _ _ (sym (list_of_places-places_of xs) ∙ (list_same e ∙ list_of_places-places_of ys)))

-- the text has one list of names
pub one_list_of_names : (given : Fields) (names others : List (List ℕ)) → HasNames given names → HasNames given others → names ≡ others
one_list_of_names given names others a b = one_field_of_names given (codes "generatorOrder") names others a b

pub copied_none : (name : Option (Bor (List ℕ))) → false ≡ is_some name → option_copied name ≡ None
copied_none None tells = refl
copied_none (Some name) tells = let wrong : false ≡ true = tells in cc

pub copied_some : (name : Option (Bor (List ℕ))) → true ≡ is_some name → option_copied name ≡ None → ⊥
copied_some None tells none = let wrong : true ≡ false = tells in cc
copied_some (Some name) tells none = cc

-- what stands at a place of a list of names and empty places
pub place_listed : (value : Value) (k : ℕ) (name : Option (List ℕ)) → slice_get (listed value) k ≡ Some (option_map bare_name name)
    → (places : List (Option (List ℕ))) → value ≡ list_value (list_of_places places) → place_at places k ≡ name
place_listed value k name at places is = go (slice_get places k) refl
  where
    whole : listed value ≡ map (option_map bare_name) places
    whole = listed-is value (map (option_map bare_name) places) (is ∙ ap list_value (list_of_places-places_of places))

    seen : option_map (option_map bare_name) (slice_get places k) ≡ Some (option_map bare_name name)
    seen = sym (slice_get-map (option_map bare_name) places k) ∙ (ap (λ (ps : List (Option Value)). slice_get ps k) (sym whole) ∙ at)

    inner : {v w : Option Value} → Some v ≡ Some w → v ≡ w
    inner h = cc

    go : (o : Option (Option (List ℕ))) → slice_get places k ≡ o → place_at places k ≡ name
    go None e = let never : None ≡ Some (option_map bare_name name) = ap (option_map (option_map bare_name)) (sym e) ∙ seen in cc
    go (Some other) e =
        ap (option_and_then (λ found. found)) e ∙ optional_injective other name (inner (ap (option_map (option_map bare_name)) (sym e) ∙ seen))

-- the first k places of a list: these names and empty places, at most so many, and behind them empty places
pub record AreFirst (ps : List (Option Value)) (most : ℕ) (names : List (Option (List ℕ))) (k : ℕ) : Type 0 where
  pub more : ℕ
  pub read : take k ps ≡ map (option_map bare_name) (names ++ replicate more None)
  pub few : length names ≤ most
  pub within : length names ≤ k
  pub none_behind : k < most → more ≡ 0

module _ (ps : List (Option Value)) (most : ℕ) (names : List (Option (List ℕ))) (k : ℕ) (first : AreFirst ps most names k) where
  -- one place more, which is kept
  pub one_kept : (name : Option (List ℕ)) → slice_get ps k ≡ Some (option_map bare_name name) → k < most → AreFirst ps most (names ++ name ∷ []) (k + 1)
  one_kept name at below = record {
    more = 0;
    read = one_place_more (option_map bare_name) ps k (option_map bare_name name) at names (names ++ name ∷ [] ++ []) name before refl (append-nil (names ++ name ∷ []));
    few = omega (arith, first.within, below, length_push names name);
    within = omega (arith, first.within, length_push names name);
    none_behind = λ _. refl;
  }
    where
      alone : names ++ replicate first.more None ≡ names
      alone = ap (λ (n : ℕ). names ++ replicate n None) (first.none_behind below) ∙ append-nil names

      before : take k ps ≡ map (option_map bare_name) names
      before = first.read ∙ ap (map (option_map bare_name)) alone

  -- one place more, which is empty
  pub one_empty : slice_get ps k ≡ Some None → most ≤ k → AreFirst ps most names (k + 1)
  one_empty at past = record {
    more = first.more + 1;
    read = one_place_more (option_map bare_name) ps k None at (names ++ replicate first.more None) (names ++ replicate (first.more + 1) None) None first.read refl longer;
    few = first.few;
    within = omega (arith, first.within);
    none_behind = λ below. absurd (omega (arith, past, below));
  }
    where
      longer : names ++ replicate (first.more + 1) None ≡ names ++ replicate first.more None ++ None ∷ []
      longer =
          ap (λ (behind : List (Option (List ℕ))). names ++ behind) (sym (replicate-append-replicate first.more 1 None))
          ∙ sym (append_assoc names (replicate first.more None) (None ∷ []))

-- a value is the list of all its places
pub all_places : (value : Value) (most : ℕ) (names : List (Option (List ℕ))) (k : ℕ) → HasPlaces value (listed value) → length (listed value) ≡ k
    → AreFirst (listed value) most names k → (more : ℕ) × (value ≡ list_value (list_of_places (names ++ replicate more None)))
all_places value most names k is whole first = (
  first.more,
  value_listed (option_map bare_name) list_of_places list_of_places-places_of value (listed value) is (names ++ replicate first.more None)
      (sym (take_all k (listed value) (omega (arith, whole))) ∙ first.read),
)
