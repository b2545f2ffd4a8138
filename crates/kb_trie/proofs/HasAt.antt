-- What is there under the numbers of a list.
use Rattle.std.proofs.Common.{◌≡◌, ℕ, ◌<◌, ◌⊎◌, List, [], ◌∷◌, ◌++◌, length, get_or, set, map, Option, Some, None, option_map, refl, sym, ap, ◌∙◌, inl, inr, arith}
use Rattle.std.proofs.lemmas.List.{get_or-map, get_or-set_same, get_or-set_other, get_or_append_left, get_or_past, get_or_push, length_push, length-map, length-set, map-set, set-get_or}
use Rattle.std.proofs.lemmas.Option.{none-some, same_Some}
use Rattle.std.proofs.lemmas.Bool.{cases_eq, cases_lt}
use Rattle.kb_trie.specs.LeftSides.{HasAt}

pub has_within : {A : Type 0} (list : List (Option A)) (x : A) (number : ℕ) → HasAt list x number → number < length list
has_within list x number has =
    elim (cases_lt number (length list)) [
      | inl within ↦ within
      | inr past ↦ absurd (none-some x (sym (get_or_past list number None past) ∙ has))
    ]

-- under a number there is one thing at most
pub has_one : {A : Type 0} (list : List (Option A)) (x y : A) (number : ℕ) → HasAt list x number → HasAt list y number → x ≡ y
has_one list x y number one two = same_Some x y (sym one ∙ two)

option_parts : {A B : Type 0} (f : A → B) (option : Option A) (y : B) → option_map f option ≡ Some y
    → (x : A) × (option ≡ Some x) × (f x ≡ y)
option_parts f None y same = absurd (none-some y same)
option_parts f (Some x) y same = (x, refl, same_Some (f x) y same)

-- what is there, after a map
pub has_map : {A B : Type 0} (f : A → B) (list : List (Option A)) (x : A) (number : ℕ) → HasAt list x number
    → HasAt (map (option_map f) list) (f x) number
has_map f list x number has =
    get_or-map (option_map f) list number None None (has_within list x number has) ∙ ap (option_map f) has

pub has_mapped : {A B : Type 0} (f : A → B) (list : List (Option A)) (y : B) (number : ℕ)
    → HasAt (map (option_map f) list) y number → (x : A) × HasAt list x number × (f x ≡ y)
has_mapped f list y number has =
    let within : number < length list = omega (arith, has_within (map (option_map f) list) y number has, length-map list (option_map f)) in
    option_parts f (get_or list number None) y (sym (get_or-map (option_map f) list number None None within) ∙ has)

-- with one more at the end
pub has_old : {A : Type 0} (list : List (Option A)) (more : Option A) (x : A) (number : ℕ) → HasAt list x number
    → HasAt (list ++ more ∷ []) x number
has_old list more x number has = get_or_append_left list (more ∷ []) None number (has_within list x number has) ∙ has

pub has_new : {A : Type 0} (list : List (Option A)) (y : A) → HasAt (list ++ Some y ∷ []) y (length list)
has_new list y = get_or_push list (Some y) None (length list) refl

pub has_cases : {A : Type 0} (list : List (Option A)) (y x : A) (number : ℕ) → HasAt (list ++ Some y ∷ []) x number
    → HasAt list x number ⊎ ((number ≡ length list) × (x ≡ y))
has_cases list y x number has =
    let within : number < length (list ++ Some y ∷ []) = has_within (list ++ Some y ∷ []) x number has in
    elim (cases_lt number (length list)) [
      | inl old ↦ inl (sym (get_or_append_left list (Some y ∷ []) None number old) ∙ has)
      | inr new ↦
          let last : length list ≡ number = omega (arith, length_push list (Some y)) in
          inr (sym last, same_Some x y (sym has ∙ get_or_push list (Some y) None number last))
    ]

-- with one less
pub has_left : {A : Type 0} (list : List (Option A)) (gone : ℕ) (x : A) (number : ℕ) → (number ≡ gone → ⊥) → HasAt list x number
    → HasAt (set list gone None) x number
has_left list gone x number apart has = get_or-set_other list gone number None None apart ∙ has

pub has_before : {A : Type 0} (list : List (Option A)) (gone : ℕ) (x : A) (number : ℕ) → HasAt (set list gone None) x number
    → HasAt list x number × (number ≡ gone → ⊥)
has_before list gone x number has =
    let within : number < length list = omega (arith, has_within (set list gone None) x number has, length-set list gone None) in
    let apart : number ≡ gone → ⊥ = λ same.
    none-some x (sym (get_or-set_same list number None None within) ∙ ap (λ (n : ℕ). get_or (set list n None) number None) same ∙ has) in
    (sym (get_or-set_other list gone number None None apart) ∙ has, apart)

-- with something else under a number
pub has_set : {A : Type 0} (list : List (Option A)) (place : ℕ) (y x : A) (number : ℕ) → HasAt (set list place (Some y)) x number
    → (HasAt list x number × (number ≡ place → ⊥)) ⊎ ((number ≡ place) × (x ≡ y))
has_set list place y x number has =
    let within : number < length list = omega (arith, has_within (set list place (Some y)) x number has, length-set list place (Some y)) in
    elim (cases_eq number place) [
      | inl same ↦
          let at : get_or (set list place (Some y)) number None ≡ Some y =
          ap (λ (n : ℕ). get_or (set list n (Some y)) number None) (sym same) ∙ get_or-set_same list number (Some y) None within in
          inr (same, same_Some x y (sym has ∙ at))
      | inr apart ↦ inl (sym (get_or-set_other list place number (Some y) None apart) ∙ has, apart)
    ]

-- a map doesn't see a change that its function doesn't see
pub map_same : {A B : Type 0} (f : A → B) (list : List (Option A)) (place : ℕ) (x y : A) → HasAt list x place → f y ≡ f x
    → map (option_map f) (set list place (Some y)) ≡ map (option_map f) list
map_same {B = B} f list place x y has same =
    let here : HasAt (map (option_map f) list) (f x) place = has_map f list x place has in
    map-set (option_map f) list place (Some y)
    ∙ ap (λ (o : Option B). set (map (option_map f) list) place o) (ap (λ (z : B). Some z) same ∙ sym here)
    ∙ set-get_or (map (option_map f) list) place None
