-- Places of lists, by number.
use Rattle.std.proofs.Common.{◌≡◌, ℕ, zero, suc, ◌<◌, List, [], ◌∷◌, length, map, get_or, slice_get, Option, Some, None, option_map, refl, ap, ◌∙◌, arith}
use Rattle.std.proofs.lemmas.Option.{slice_get-get_or, slice_get-map}
use Rattle.kb_record.specs.Tree.{Value, list_value, place, no_places}
use Rattle.kb_record.specs.View.{places_of, written_place}
use Rattle.kb_record.specs.Listed.{listed, HasPlaces}
use Rattle.kb_record.specs.declared.tree.PlaceText.{PlaceText}
use Rattle.kb_fields.specs.Fields.{value_at, place_count}

pub value_at-places_of : (ps : List (Option Value)) (k : ℕ) (p : Option Value) → slice_get ps k ≡ Some p → (value_at (places_of ps) k ≡ p) × (k < place_count (places_of ps))
value_at-places_of [] k p e = cc
value_at-places_of (Some v ∷ ps) zero p e = (inner e, omega arith)
  where
    inner : {a b : Option Value} → Some a ≡ Some b → a ≡ b
    inner h = cc
value_at-places_of (None ∷ ps) zero p e = (inner e, omega arith)
  where
    inner : {a b : Option Value} → Some a ≡ Some b → a ≡ b
    inner h = cc
value_at-places_of (Some v ∷ ps) (suc k) p e = let rest = value_at-places_of ps k p e in (rest.0, omega (arith, rest.1))
value_at-places_of (None ∷ ps) (suc k) p e = let rest = value_at-places_of ps k p e in (rest.0, omega (arith, rest.1))

pub count_places : (ps : List (Option Value)) → place_count (places_of ps) ≡ length ps
count_places [] = refl
count_places (Some v ∷ ps) = ap suc (count_places ps)
count_places (None ∷ ps) = ap suc (count_places ps)

two_in : (ps : List (Option Value)) (v w : Option Value) → length ps ≡ 2 → slice_get ps 0 ≡ Some v → slice_get ps 1 ≡ Some w → ps ≡ v ∷ w ∷ []
two_in [] v w two first second = absurd (omega (arith, two))
two_in (p ∷ []) v w two first second = absurd (omega (arith, two))
two_in (p ∷ (q ∷ [])) v w two first second = let same_first = inner first in let same_second = inner second in cc
  where
    inner : {a b : Option Value} → Some a ≡ Some b → a ≡ b
    inner h = cc
two_in (p ∷ (q ∷ (r ∷ ps))) v w two first second = absurd (omega (arith, two))

-- a list with two places
pub two_listed : (value v w : Value) → HasPlaces value (listed value) → length (listed value) ≡ 2 → slice_get (listed value) 0 ≡ Some (Some v)
    → slice_get (listed value) 1 ≡ Some (Some w) → value ≡ list_value (place v (place w no_places))
two_listed value v w is two first second = is ∙ ap (λ ps. list_value (places_of ps)) (two_in (listed value) (Some v) (Some w) two first second)

-- ---- places as they are written

-- what a list is taken to have behind its places
abbrev pub beyond : PlaceText
beyond = record { text = record { ref_ptr = (0, 0); now = [] } }

pub seen_at : (places : List PlaceText) (k : ℕ) → k < length places → slice_get (map written_place places) k ≡ Some (written_place (get_or places k beyond))
seen_at places k within = slice_get-map written_place places k ∙ ap (option_map written_place) (slice_get-get_or places k beyond within)
