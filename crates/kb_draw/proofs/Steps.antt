-- Each step of a seat keeps the rule of the counter, and what follows at the end.
use Rattle.std.proofs.Common.{◌≡◌, ℕ, suc, ◌+◌, ◌%◌, ◌^◌, ◌<◌, ◌≤◌, List, set, get_or, refl, sym, subst, ◌∙◌, arith, length-set, get_or-set_same, mod-eq_of_lt}
use mathlib.Core.Option.{none}
use Rattle.atomic_table.specs.Table.{Me, step, keeps, Allows, Splits, Joins, Final, Seen}
use Rattle.atomic_table.proofs.Lists.{set_else}
use Rattle.kb_draw.specs.Totals.{past, times}
use Rattle.kb_draw.specs.Counter.{newcomer, spent, drew, with_one_split_less, both, draws, Counts, Reached, drawn, split, joined}
use Rattle.kb_draw.specs.declared.counter.Bounds.{Bounds}
use Rattle.kb_draw.specs.declared.counter.View.{View}
use Rattle.kb_draw.proofs.Counting.{each_fits, counter_at_least, counter_within, drawn_once, drawn_at_most_once}

draws_within : {S : Type 0} (bounds : Bounds) (slots id : ℕ) (me : Me S View) → bounds.first ≤ bounds.end → bounds.end ≤ 2 ^ 62 → 1 ≤ bounds.seats → bounds.seats ≤ 64
    → 0 < me.0.seats → past bounds.end me.0.numbers ≡ 0
    → Allows (Counts bounds) slots id me 0 (λ n. (n + 1) % 2 ^ 64) (draws (step slots 0 1 0 none) me)
draws_within bounds slots id me ordered low some_seat few sits wet s counts deep at fits =
    let n : ℕ = get_or s.words 0 0 in
    let views : List View = set s.views id (drew me.0 n) in
    let reached : Reached bounds (suc n) views = drawn n id s.views me.0 counts.1 at sits wet in
    let knows = (each_fits counts.1 id me.0 at).2 in
    let least = counter_at_least counts.1 in
    let within = counter_within reached ordered some_seat in
    let small : n + 1 < 2 ^ 64 = omega (arith, within, low, few) in
    let next : n + 1 ≡ suc n = omega arith in
    let long = counts.0 in
    let shown : get_or (set s.words 0 ((n + 1) % 2 ^ 64)) 0 0 ≡ suc n = get_or-set_same s.words 0 ((n + 1) % 2 ^ 64) 0 (omega (arith, long)) ∙ (mod-eq_of_lt small ∙ next) in (
      drew me.0 n,
      keeps,
      tt,
      (length-set s.words 0 ((n + 1) % 2 ^ 64) ∙ long, subst (λ k. Reached bounds k views) (sym shown) reached),
      (refl, omega (arith, knows, least)),
    )

-- A place that has drawn nothing past the end may draw. The table's key is the bounds.
pub may_draw : {S : Type 0} (key bounds : Bounds) (slots id : ℕ) (me : Me S View) → key ≡ bounds → bounds.first ≤ bounds.end → bounds.end ≤ 2 ^ 62
    → 1 ≤ bounds.seats → bounds.seats ≤ 64 → me.0.seats ≡ 1 → past bounds.end me.0.numbers ≡ 0
    → Allows (Counts key) slots id me 0 (λ n. (n + 1) % 2 ^ 64) (draws (step slots 0 1 0 none) me)
may_draw key bounds slots id me told ordered low some_seat few single wet =
    let sits : 0 < me.0.seats = omega (arith, single) in
    subst (λ b. Allows (Counts b) slots id me 0 (λ n. (n + 1) % 2 ^ 64) (draws (step slots 0 1 0 none) me)) (sym told)
    (draws_within bounds slots id me ordered low some_seat few sits wet)

pub may_split : {S : Type 0} (bounds : Bounds) (id : ℕ) (v : View) → 0 < v.splits → Splits (Counts {S = S} bounds) id v (with_one_split_less v) (newcomer v.first)
may_split bounds id v may s counts at = (counts.0, split (get_or s.words 0 0) id s.views v counts.1 at may)

pub may_join : {S : Type 0} (bounds : Bounds) (id : ℕ) (v : View) (other : ℕ) (w : View) → Joins (Counts {S = S} bounds) id v other w (both v w) spent
may_join bounds id v other w s counts at apart there = (counts.0, joined (get_or s.words 0 0) id other s.views v w counts.1 at apart (sym (set_else s.views id other (both v w) apart) ∙ there))

-- At the end, where a place that all seats went into has a number past the end, it has each number up to the end once.
pub ends : {S : Type 0} (key bounds : Bounds) (id : ℕ) (v : View) (words : List ℕ) (slots : List S) → key ≡ bounds → Final (Seen (Counts key) id v) words slots
    → bounds.first ≤ bounds.end → 1 ≤ bounds.seats → v.seats ≡ bounds.seats → 0 < past bounds.end v.numbers
    → (n : ℕ) → bounds.first ≤ n → n < bounds.end → times n v.numbers ≡ 1
ends key bounds id v words slots told final ordered some_seat all dry =
    let at_end : Final (Seen (Counts bounds) id v) words slots = subst (λ b. Final (Seen (Counts b) id v) words slots) told final in
    let seen = at_end.1 in
    drawn_once id v seen.0.1 ordered some_seat seen.1 all dry

-- At the end a place that all seats went into has no number twice.
pub ends_once : {S : Type 0} (key bounds : Bounds) (id : ℕ) (v : View) (words : List ℕ) (slots : List S) → key ≡ bounds
    → Final (Seen (Counts key) id v) words slots → 1 ≤ bounds.seats → v.seats ≡ bounds.seats → (n : ℕ) → times n v.numbers ≤ 1
ends_once key bounds id v words slots told final some_seat all n =
    let at_end : Final (Seen (Counts bounds) id v) words slots = subst (λ b. Final (Seen (Counts b) id v) words slots) told final in
    let seen = at_end.1 in
    drawn_at_most_once id v seen.0.1 some_seat seen.1 all n
