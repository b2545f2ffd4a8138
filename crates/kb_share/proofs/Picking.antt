-- Picking from a list: what is picked, and in which order.
use Rattle.std.proofs.Common.{◌≡◌, ℕ, zero, suc, ◌+◌, ◌-◌, ◌<◌, List, [], ◌∷◌, ◌++◌, length, take, get_or, refl, sym, ◌∙◌, ap, subst, inl, inr, arith, length-append}
use Rattle.std.specs.List.{AllPairs, Contains}
use Rattle.std.proofs.lemmas.Bool.{cases_lt}
use Rattle.std.proofs.lemmas.List.{take_more, get_or_append_left, get_or-append-add}
use Rattle.kb_share.specs.Rows.{Picks, none_left, left_out, picked}

-- one more is left out
end_left : {X Y : Type 0} {P : X → Type 0} {f : X → Y} (xs : List X) (ys : List Y) (x : X) → ¬ P x → Picks P f xs ys
    → Picks P f (xs ++ x ∷ []) ys
end_left _ _ x lacks none_left = left_out lacks none_left
end_left _ _ x lacks (left_out other rest) = left_out other (end_left _ _ x lacks rest)
end_left _ _ x lacks (picked holds rest) = picked holds (end_left _ _ x lacks rest)

-- one more is picked
end_picked : {X Y : Type 0} {P : X → Type 0} {f : X → Y} (xs : List X) (ys : List Y) (x : X) → P x → Picks P f xs ys
    → Picks P f (xs ++ x ∷ []) (ys ++ f x ∷ [])
end_picked _ _ x it none_left = picked it none_left
end_picked _ _ x it (left_out other rest) = left_out other (end_picked _ _ x it rest)
end_picked _ _ x it (picked holds rest) = picked holds (end_picked _ _ x it rest)

-- the next one of the list is left out
pub next_left : {X Y : Type 0} {P : X → Type 0} {f : X → Y} (xs : List X) (k : ℕ) (x : X) (ys : List Y) → k < length xs
    → x ≡ get_or xs k x → ¬ P x → Picks P f (take k xs) ys → Picks P f (take (k + 1) xs) ys
next_left {X} {Y} {P} {f} xs k x ys within is lacks so_far =
    let more : take k xs ++ x ∷ [] ≡ take (k + 1) xs = ap (λ (y : X). take k xs ++ y ∷ []) is ∙ sym (take_more xs k x within) in
    subst (λ (zs : List X). Picks P f zs ys) more (end_left (take k xs) ys x lacks so_far)

-- the next one of the list is picked
pub next_picked : {X Y : Type 0} {P : X → Type 0} {f : X → Y} (xs : List X) (k : ℕ) (x : X) (ys : List Y) (y : Y) → k < length xs
    → x ≡ get_or xs k x → P x → y ≡ f x → Picks P f (take k xs) ys → Picks P f (take (k + 1) xs) (ys ++ y ∷ [])
next_picked {X} {Y} {P} {f} xs k x ys y within is it e so_far =
    let more : take k xs ++ x ∷ [] ≡ take (k + 1) xs = ap (λ (y : X). take k xs ++ y ∷ []) is ∙ sym (take_more xs k x within) in
    let done = end_picked (take k xs) ys x it so_far in
    subst (λ (w : Y). Picks P f (take (k + 1) xs) (ys ++ w ∷ [])) (sym e)
    (subst (λ (zs : List X). Picks P f zs (ys ++ f x ∷ [])) more done)

-- where something is made of something that P holds of
pub record ComesFrom {X Y : Type 0} (P : X → Type 0) (f : X → Y) (xs : List X) (y : Y) : Type 0 where
  pub source : X
  pub contained : Contains xs source
  pub holds : P source
  pub is : y ≡ f source

later : {X : Type 0} (x : X) (xs : List X) (y : X) → Contains xs y → Contains (x ∷ xs) y
later x xs y at = (suc at.0, omega (arith, at.1), at.2)

comes_later : {X Y : Type 0} {P : X → Type 0} {f : X → Y} (x : X) (xs : List X) (y : Y) → ComesFrom P f xs y → ComesFrom P f (x ∷ xs) y
comes_later x xs y from =
    record { source = from.source; contained = later x xs from.source from.contained; holds = from.holds; is = from.is }

-- each one that is picked comes from one of the list of which P holds
pub each_picked : {X Y : Type 0} {P : X → Type 0} {f : X → Y} (xs : List X) (ys : List Y) → Picks P f xs ys
    → (k : ℕ) (d : Y) → k < length ys → ComesFrom P f xs (get_or ys k d)
each_picked _ _ none_left k d low = absurd (let wrong : ⊥ = omega (arith, low) in wrong)
each_picked _ _ (left_out {x = x} {xs = xs} {ys = ys} lacks rest) k d low = comes_later x xs (get_or ys k d) (each_picked xs ys rest k d low)
each_picked _ _ (picked {x = x} {xs = xs} {ys = ys} it rest) zero d low =
    record { source = x; contained = (0, omega arith, refl); holds = it; is = refl }
each_picked _ _ (picked {x = x} {xs = xs} {ys = ys} it rest) (suc k) d low =
    comes_later x xs (get_or ys k d) (each_picked xs ys rest k d (omega (arith, low)))

-- each one of the list of which P holds is picked
pub all_picked : {X Y : Type 0} {P : X → Type 0} {f : X → Y} (xs : List X) (ys : List Y) → Picks P f xs ys → (x : X)
    → Contains xs x → P x → Contains ys (f x)
all_picked _ _ none_left x at it = absurd (let low : at.0 < 0 = at.1 in let wrong : ⊥ = omega (arith, low) in wrong)
all_picked {X} {Y} {P} {f} _ _ (left_out {x = y} {xs = xs} {ys = ys} lacks rest) x (zero, low, is) it = absurd (lacks (subst P (sym is) it))
all_picked {X} {Y} {P} {f} _ _ (left_out {x = y} {xs = xs} {ys = ys} lacks rest) x (suc k, low, is) it =
    all_picked xs ys rest x (k, omega (arith, low), is) it
all_picked {X} {Y} {P} {f} _ _ (picked {x = y} {xs = xs} {ys = ys} holds rest) x (zero, low, is) it = (0, omega arith, ap f is)
all_picked {X} {Y} {P} {f} _ _ (picked {x = y} {xs = xs} {ys = ys} holds rest) x (suc k, low, is) it =
    later (f y) ys (f x) (all_picked xs ys rest x (k, omega (arith, low), is) it)

tail_pairs : {X : Type 0} (R : X → X → Type 0) (x : X) (xs : List X) → AllPairs R (x ∷ xs) → AllPairs R xs
tail_pairs R x xs pairs i j d before within = pairs (suc i) (suc j) d (omega (arith, before)) (omega (arith, within))

-- what is picked from an ascending list ascends
pub picked_ascend : {X Y : Type 0} {P : X → Type 0} {f : X → Y} (R : X → X → Type 0) (S : Y → Y → Type 0)
    → ((x y : X) → P x → P y → R x y → S (f x) (f y)) → (xs : List X) (ys : List Y) → Picks P f xs ys → AllPairs R xs → AllPairs S ys
picked_ascend {X} {Y} {P} {f} R S keeps _ _ none_left pairs i j d before within = absurd (let wrong : ⊥ = omega (arith, within) in wrong)
picked_ascend {X} {Y} {P} {f} R S keeps _ _ (left_out {x = x} {xs = xs} {ys = ys} lacks rest) pairs i j d before within =
    picked_ascend R S keeps xs ys rest (tail_pairs R x xs pairs) i j d before within
picked_ascend {X} {Y} {P} {f} R S keeps _ _ (picked {x = x} {xs = xs} {ys = ys} it rest) pairs zero zero d before within =
    absurd (let wrong : ⊥ = omega (arith, before) in wrong)
picked_ascend {X} {Y} {P} {f} R S keeps _ _ (picked {x = x} {xs = xs} {ys = ys} it rest) pairs (suc i) zero d before within =
    absurd (let wrong : ⊥ = omega (arith, before) in wrong)
picked_ascend {X} {Y} {P} {f} R S keeps _ _ (picked {x = x} {xs = xs} {ys = ys} it rest) pairs zero (suc j) d before within =
    let from = each_picked xs ys rest j d (omega (arith, within)) in
    let at = from.contained in
    let low : R x (get_or xs at.0 from.source) = pairs 0 (suc at.0) from.source (omega arith) (omega (arith, at.1)) in
    let here : R x from.source = subst (λ (y : X). R x y) at.2 low in
    subst (λ (w : Y). S (f x) w) (sym from.is) (keeps x from.source it from.holds here)
picked_ascend {X} {Y} {P} {f} R S keeps _ _ (picked {x = x} {xs = xs} {ys = ys} it rest) pairs (suc i) (suc j) d before within =
    picked_ascend R S keeps xs ys rest (tail_pairs R x xs pairs) i j d (omega (arith, before)) (omega (arith, within))

-- two ascending lists, one behind the other, ascend, where each of the first comes before each of the second
pub pairs_append : {X : Type 0} (R : X → X → Type 0) (xs ys : List X) → AllPairs R xs → AllPairs R ys
    → ((i j : ℕ) (d : X) → i < length xs → j < length ys → R (get_or xs i d) (get_or ys j d)) → AllPairs R (xs ++ ys)
pairs_append {X} R xs ys one other across i j d before within =
    let total = length-append xs ys in
    elim (cases_lt j (length xs)) [
      | inl inside ↦
          let at_i = get_or_append_left xs ys d i (omega (arith, before, inside)) in
          let at_j = get_or_append_left xs ys d j inside in
          subst (λ (x : X). R x (get_or (xs ++ ys) j d)) (sym at_i)
          (subst (λ (y : X). R (get_or xs i d) y) (sym at_j) (one i j d before inside))
      | inr past ↦
          let k = j - length xs in
          let is_k : length xs + k ≡ j = omega (arith, past) in
          let at_j : get_or (xs ++ ys) j d ≡ get_or ys k d =
          ap (λ (n : ℕ). get_or (xs ++ ys) n d) (sym is_k) ∙ get_or-append-add xs ys k d in
          let low_k : k < length ys = omega (arith, within, total, is_k) in
          elim (cases_lt i (length xs)) [
            | inl first ↦
                let at_i = get_or_append_left xs ys d i first in
                subst (λ (x : X). R x (get_or (xs ++ ys) j d)) (sym at_i)
                (subst (λ (y : X). R (get_or xs i d) y) (sym at_j) (across i k d first low_k))
            | inr second ↦
                let h = i - length xs in
                let is_h : length xs + h ≡ i = omega (arith, second) in
                let at_i : get_or (xs ++ ys) i d ≡ get_or ys h d =
                ap (λ (n : ℕ). get_or (xs ++ ys) n d) (sym is_h) ∙ get_or-append-add xs ys h d in
                subst (λ (x : X). R x (get_or (xs ++ ys) j d)) (sym at_i)
                (subst (λ (y : X). R (get_or ys h d) y) (sym at_j) (other h k d (omega (arith, before, is_h, is_k)) low_k))
          ]
    ]

-- of nothing nothing is picked
pub picks_none : {X Y : Type 0} {P : X → Type 0} {f : X → Y} (xs : List X) (ys : List Y) → ys ≡ [] → Picks P f (take 0 xs) ys
picks_none {X} {Y} {P} {f} xs ys none = subst (λ (zs : List Y). Picks P f [] zs) (sym none) none_left
