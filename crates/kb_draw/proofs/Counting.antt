-- What holds of every state that a counter can reach: the numbers in all views are those from the first one up to the
-- counter, each once, and the counter stays within the end and the number of seats.
use Rattle.std.proofs.Common.{◌≡◌, ◌≢◌, ℕ, zero, suc, ◌+◌, ◌-◌, ◌<◌, ◌≤◌, List, [], ◌∷◌, ◌++◌, length, set, refl, sym, ap, subst, ◌∙◌, ⊎_elim, arith, length-set, length-append}
use Rattle.std.proofs.lemmas.Bool.{cases_lt}
use mathlib.Core.Option.{some, some-ne-none}
use lib.ListN.{get_elem?}
use Rattle.atomic_table.proofs.Lists.{at_set, at_snoc, set_else}
use Rattle.kb_draw.specs.Totals.{total, below, times, is_it, past, is_past}
use Rattle.kb_draw.specs.Counter.{view, owner, newcomer, spent, drew, with_one_split_less, both, Reached, begun, drawn, split, joined}
use Rattle.kb_draw.specs.declared.counter.Bounds.{Bounds}
use Rattle.kb_draw.specs.declared.counter.View.{View}
use Rattle.kb_draw.proofs.Sums.{total-append, total-set, total_le, is_past-one, below-none, below-within, below-never, below-once, below-at_most_once}

abbrev weigh : (ℕ → ℕ) → View → ℕ
weigh weight v = total weight v.numbers

abbrev seats_in : View → ℕ
seats_in v = v.seats

abbrev splits_in : View → ℕ
splits_in v = v.splits

-- what stands at another place stands there still
apart_at : (views : List View) (seat other : ℕ) (v w : View) → ¬ (other ≡ seat) → get_elem? views other ≡ some w → get_elem? (set views seat v) other ≡ some w
apart_at views seat other v w apart at = set_else views seat other v apart ∙ at

-- the numbers in all views are those from the first one up to the counter
pub numbers_once : {bounds : Bounds} {number : ℕ} {views : List View} (weight : ℕ → ℕ) → Reached bounds number views
    → total (weigh weight) views + below weight bounds.first ≡ below weight number
numbers_once weight begun = omega arith
numbers_once weight (drawn number seat views v before at sits wet) =
    let was = numbers_once weight before in
    let moved = total-set (weigh weight) views seat v (drew v number) at in
    let more = total-append weight v.numbers (number ∷ []) in
    omega (arith, was, moved, more)
numbers_once weight (split number seat views v before at may) =
    let was = numbers_once weight before in
    let moved = total-set (weigh weight) views seat v (with_one_split_less v) at in
    let more = total-append (weigh weight) (set views seat (with_one_split_less v)) (newcomer v.first ∷ []) in
    omega (arith, was, moved, more)
numbers_once weight (joined number seat other views v w before at apart there) =
    let was = numbers_once weight before in
    let moved = total-set (weigh weight) views seat v (both v w) at in
    let left = total-set (weigh weight) (set views seat (both v w)) other w spent (apart_at views seat other (both v w) w apart there) in
    let more = total-append weight v.numbers w.numbers in
    omega (arith, was, moved, left, more)

-- the seats that went into the views are as many as there are views
pub seats_counted : {bounds : Bounds} {number : ℕ} {views : List View} → Reached bounds number views → total seats_in views ≡ length views
seats_counted begun = omega arith
seats_counted (drawn number seat views v before at sits wet) =
    let was = seats_counted before in
    let moved = total-set seats_in views seat v (drew v number) at in
    let long = length-set views seat (drew v number) in
    omega (arith, was, moved, long)
seats_counted (split number seat views v before at may) =
    let was = seats_counted before in
    let moved = total-set seats_in views seat v (with_one_split_less v) at in
    let long = length-set views seat (with_one_split_less v) in
    let more = total-append seats_in (set views seat (with_one_split_less v)) (newcomer v.first ∷ []) in
    let longer = length-append (set views seat (with_one_split_less v)) (newcomer v.first ∷ []) in
    omega (arith, was, moved, long, more, longer)
seats_counted (joined number seat other views v w before at apart there) =
    let was = seats_counted before in
    let moved = total-set seats_in views seat v (both v w) at in
    let left = total-set seats_in (set views seat (both v w)) other w spent (apart_at views seat other (both v w) w apart there) in
    let long = length-set views seat (both v w) in
    let longer = length-set (set views seat (both v w)) other spent in
    omega (arith, was, moved, left, long, longer)

-- the views, and the seats that may still be split off, are together the seats that the counter is for
pub splits_counted : {bounds : Bounds} {number : ℕ} {views : List View} → 1 ≤ bounds.seats → Reached bounds number views → total splits_in views + length views ≡ bounds.seats
splits_counted some_seat begun = omega (arith, some_seat)
splits_counted some_seat (drawn number seat views v before at sits wet) =
    let was = splits_counted some_seat before in
    let moved = total-set splits_in views seat v (drew v number) at in
    let long = length-set views seat (drew v number) in
    omega (arith, was, moved, long)
splits_counted some_seat (split number seat views v before at may) =
    let was = splits_counted some_seat before in
    let moved = total-set splits_in views seat v (with_one_split_less v) at in
    let long = length-set views seat (with_one_split_less v) in
    let more = total-append splits_in (set views seat (with_one_split_less v)) (newcomer v.first ∷ []) in
    let longer = length-append (set views seat (with_one_split_less v)) (newcomer v.first ∷ []) in
    omega (arith, was, moved, long, more, longer, may)
splits_counted some_seat (joined number seat other views v w before at apart there) =
    let was = splits_counted some_seat before in
    let moved = total-set splits_in views seat v (both v w) at in
    let left = total-set splits_in (set views seat (both v w)) other w spent (apart_at views seat other (both v w) w apart there) in
    let long = length-set views seat (both v w) in
    let longer = length-set (set views seat (both v w)) other spent in
    omega (arith, was, moved, left, long, longer)

-- A view has no more numbers past the end than seats went into it, and no numbers where no seat did. What it takes for the
-- first number is no more than that.
abbrev Fits : Bounds → View → Type 0
Fits bounds v = (past bounds.end v.numbers ≤ v.seats) × (v.seats ≡ 0 → v.numbers ≡ []) × (v.first ≤ bounds.first)

abbrev Each : (View → Type 0) → List View → Type 0
Each P views = (place : ℕ) (v : View) → get_elem? views place ≡ some v → P v

each-set : (P : View → Type 0) (views : List View) (seat : ℕ) (w : View) → P w → Each P views → Each P (set views seat w)
each-set P views seat w here others place v at = ⊎_elim
    (λ (t : (place ≡ seat) × (w ≡ v)). subst P t.1 here)
    (λ (t : (place ≢ seat) × (get_elem? views place ≡ some v)). others place v t.1)
    (at_set views seat place w v at)

each-push : (P : View → Type 0) (views : List View) (w : View) → P w → Each P views → Each P (views ++ w ∷ [])
each-push P views w here others place v at = ⊎_elim (others place v) (λ (t : w ≡ v). subst P t here) (at_snoc views w v place at)

each-none : (P : View → Type 0) → Each P []
each-none P place v at = absurd (some-ne-none v (sym at))

no_numbers : (xs ys : List ℕ) → xs ≡ [] → ys ≡ [] → xs ++ ys ≡ []
no_numbers xs ys none empty = ap (λ zs. zs ++ ys) none ∙ empty

fits-drawn : (bounds : Bounds) (number : ℕ) (v : View) → 0 < v.seats → past bounds.end v.numbers ≡ 0 → Fits bounds v → Fits bounds (drew v number)
fits-drawn bounds number v sits wet fits = (
  (let more = total-append (is_past bounds.end) v.numbers (number ∷ []) in let most = is_past-one bounds.end number in omega (arith, more, most, sits, wet)),
  (λ (none : v.seats ≡ 0). absurd (omega (arith, none, sits))),
  fits.2,
)

fits-less : (bounds : Bounds) (v : View) → Fits bounds v → Fits bounds (with_one_split_less v)
fits-less bounds v fits = (fits.0, fits.1, fits.2)

fits-both : (bounds : Bounds) (v w : View) → Fits bounds v → Fits bounds w → Fits bounds (both v w)
fits-both bounds v w one other = (
  (let more = total-append (is_past bounds.end) v.numbers w.numbers in let a = one.0 in let b = other.0 in omega (arith, more, a, b)),
  (λ (none : v.seats + w.seats ≡ 0). no_numbers v.numbers w.numbers (one.1 (omega (arith, none))) (other.1 (omega (arith, none)))),
  one.2,
)

fits-empty : (bounds : Bounds) (first seats splits : ℕ) → first ≤ bounds.first → Fits bounds (view first [] seats splits)
fits-empty bounds first seats splits least = (omega arith, (λ (none : seats ≡ 0). refl), least)

pub each_fits : {bounds : Bounds} {number : ℕ} {views : List View} → Reached bounds number views → Each (Fits bounds) views
each_fits {bounds} begun = each-push (Fits bounds) [] (owner bounds) (fits-empty bounds bounds.first 1 (bounds.seats - 1) (omega arith)) (each-none (Fits bounds))
each_fits {bounds} (drawn number seat views v before at sits wet) =
    each-set (Fits bounds) views seat (drew v number) (fits-drawn bounds number v sits wet (each_fits before seat v at)) (each_fits before)
each_fits {bounds} (split number seat views v before at may) =
    let fits = each_fits before seat v at in
    each-push (Fits bounds) (set views seat (with_one_split_less v)) (newcomer v.first) (fits-empty bounds v.first 1 0 fits.2)
    (each-set (Fits bounds) views seat (with_one_split_less v) (fits-less bounds v fits) (each_fits before))
each_fits {bounds} (joined number seat other views v w before at apart there) =
    each-set (Fits bounds) (set views seat (both v w)) other spent (fits-empty bounds 0 0 0 (omega arith))
    (each-set (Fits bounds) views seat (both v w) (fits-both bounds v w (each_fits before seat v at) (each_fits before other w there)) (each_fits before))

-- the counter is never less than the first number
pub counter_at_least : {bounds : Bounds} {number : ℕ} {views : List View} → Reached bounds number views → bounds.first ≤ number
counter_at_least begun = omega arith
counter_at_least (drawn number seat views v before at sits wet) = let least = counter_at_least before in omega (arith, least)
counter_at_least (split number seat views v before at may) = counter_at_least before
counter_at_least (joined number seat other views v w before at apart there) = counter_at_least before

-- the counter is past the end by no more than the number of seats
pub counter_within : {bounds : Bounds} {number : ℕ} {views : List View} → Reached bounds number views → bounds.first ≤ bounds.end → 1 ≤ bounds.seats
    → number ≤ bounds.end + bounds.seats
counter_within {bounds} {number} {views} reached ordered some_seat =
    let most = below-within bounds.end number in
    let once = numbers_once (is_past bounds.end) reached in
    let none = below-none bounds.end bounds.first ordered in
    let few = total_le (weigh (is_past bounds.end)) seats_in views (λ place v at. (each_fits reached place v at).0) in
    let seats = seats_counted reached in
    let limit = splits_counted some_seat reached in
    omega (arith, most, once, none, few, seats, limit)

-- where no seat went into any view, there are no numbers
idle : (weight : ℕ → ℕ) (bounds : Bounds) (views : List View) → total seats_in views ≡ 0 → Each (Fits bounds) views → total (weigh weight) views ≡ 0
idle weight bounds [] none fits = refl
idle weight bounds (v ∷ views) none fits =
    let here : total weight v.numbers ≡ 0 = ap (total weight) ((fits zero v refl).1 (omega (arith, none))) in
    let later = idle weight bounds views (omega (arith, none)) (λ place w at. fits (suc place) w at) in
    omega (arith, here, later)

-- a place that all seats went into has all numbers
all_here : {bounds : Bounds} {number : ℕ} {views : List View} (weight : ℕ → ℕ) (place : ℕ) (v : View) → Reached bounds number views → 1 ≤ bounds.seats
    → get_elem? views place ≡ some v → v.seats ≡ bounds.seats → total weight v.numbers ≡ total (weigh weight) views
all_here {bounds} {number} {views} weight place v reached some_seat at all =
    let seats = seats_counted reached in
    let limit = splits_counted some_seat reached in
    let left = total-set seats_in views place v spent at in
    let none : total seats_in (set views place spent) ≡ 0 = omega (arith, seats, limit, left, all) in
    let empty = idle weight bounds (set views place spent) none (each-set (Fits bounds) views place spent (fits-empty bounds 0 0 0 (omega arith)) (each_fits reached)) in
    let moved = total-set (weigh weight) views place v spent at in
    omega (arith, empty, moved)

-- a place that all seats went into has no number twice
pub drawn_at_most_once : {bounds : Bounds} {number : ℕ} {views : List View} (place : ℕ) (v : View) → Reached bounds number views → 1 ≤ bounds.seats
    → get_elem? views place ≡ some v → v.seats ≡ bounds.seats → (n : ℕ) → times n v.numbers ≤ 1
drawn_at_most_once {bounds} {number} place v reached some_seat at all n =
    let here = all_here (is_it n) place v reached some_seat at all in
    let once = numbers_once (is_it n) reached in
    let most = below-at_most_once n number in
    omega (arith, here, once, most)

-- Where a place that all seats went into has a number past the end, it has each number up to the end once.
pub drawn_once : {bounds : Bounds} {number : ℕ} {views : List View} (place : ℕ) (v : View) → Reached bounds number views → bounds.first ≤ bounds.end
    → 1 ≤ bounds.seats → get_elem? views place ≡ some v → v.seats ≡ bounds.seats → 0 < past bounds.end v.numbers
    → (n : ℕ) → bounds.first ≤ n → n < bounds.end → times n v.numbers ≡ 1
drawn_once {bounds} {number} {views} place v reached ordered some_seat at all dry n from to =
    let here = all_here (is_it n) place v reached some_seat at all in
    let once = numbers_once (is_it n) reached in
    let none_before = below-never n bounds.first from in
    let past_here = all_here (is_past bounds.end) place v reached some_seat at all in
    let past_once = numbers_once (is_past bounds.end) reached in
    let shown : n < number = ⊎_elim (λ (beyond : bounds.end < number). omega (arith, beyond, to))
    (λ (short : number ≤ bounds.end). let none = below-none bounds.end number short in absurd (omega (arith, none, past_here, past_once, dry)))
    (cases_lt bounds.end number) in
    let one = below-once n number shown in
    omega (arith, here, once, none_before, one)
