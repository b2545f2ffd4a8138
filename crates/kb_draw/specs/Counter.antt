-- The counter that seats draw from: a number that goes up by one at each draw, and what the places
-- at it know. A draw is one fetch-and-add (Gottlieb, Lubachevsky and Rudolph, Basic Techniques for
-- the Efficient Coordination of Very Large Numbers of Cooperating Sequential Processors, ACM TOPLAS
-- 5, 1983). A number is past the end where it is the end or more.
use Rattle.std.specs.Prelude.{◌≡◌, ℕ, suc, ◌+◌, ◌-◌, ◌<◌, ◌≤◌, List, [], ◌∷◌, ◌++◌, length, slice_index, slice_set}
use mathlib.Core.Option.{some}
use lib.ListN.{get_elem?}
use Rattle.atomic_table.specs.Table.{State, Me, Step}
use Rattle.kb_draw.specs.Totals.{past}
use Rattle.kb_draw.specs.declared.counter.Bounds.{Bounds}
use Rattle.kb_draw.specs.declared.counter.View.{View}

abbrev pub view : ℕ → List ℕ → ℕ → ℕ → View
view first numbers seats splits =
    record { first = first; numbers = numbers; seats = seats; splits = splits }

-- the first place, from which all other seats are split off
abbrev pub owner : Bounds → View
owner bounds = view bounds.first [] 1 (bounds.seats - 1)

-- a seat that has drawn nothing
abbrev pub newcomer : ℕ → View
newcomer first = view first [] 1 0

-- what is left of a place that another one took in
abbrev pub spent : View
spent = view 0 [] 0 0

-- after a draw of this number
abbrev pub drew : View → ℕ → View
drew v number = view v.first (v.numbers ++ number ∷ []) v.seats v.splits

abbrev pub with_one_split_less : View → View
with_one_split_less v = view v.first v.numbers v.seats (v.splits - 1)

-- two places made one
abbrev pub both : View → View → View
both v w = view v.first (v.numbers ++ w.numbers) (v.seats + w.seats) (v.splits + w.splits)

-- What the counter can show and what the places can know then. At first it shows the first number,
-- and there is one place. From then on there are three kinds of step: a place that has drawn
-- nothing past the end draws the number that is shown; a place splits a new seat off; a place takes
-- in another.
pub data Reached (bounds : Bounds) : ℕ → List View → Type 0 where
  begun : Reached bounds bounds.first (owner bounds ∷ [])
  drawn : (number seat : ℕ) (views : List View) (v : View) → Reached bounds number views
      → get_elem? views seat ≡ some v → 0 < v.seats → past bounds.end v.numbers ≡ 0
      → Reached bounds (suc number) (slice_set views seat (drew v number))
  split : (number seat : ℕ) (views : List View) (v : View) → Reached bounds number views
      → get_elem? views seat ≡ some v → 0 < v.splits
      → Reached bounds number
      (slice_set views seat (with_one_split_less v) ++ newcomer v.first ∷ [])
  joined : (number seat other : ℕ) (views : List View) (v w : View) → Reached bounds number views
      → get_elem? views seat ≡ some v → ¬ (other ≡ seat) → get_elem? views other ≡ some w
      → Reached bounds number (slice_set (slice_set views seat (both v w)) other spent)

-- the rule of the table: its one word is the counter
abbrev pub Counts : {S : Type 0} → Bounds → State S View → Type 0
Counts bounds table =
    (length table.words ≡ 1) × Reached bounds (slice_index table.words 0) table.views

-- what a draw tells the place: it has drawn the number that the counter showed, which is no less than the first one
abbrev pub draws : {S : Type 0} → Step S → Me S View → ℕ → Me S View → Type 0
draws step before number after =
    (after ≡ (drew before.0 number, before.1)) × (before.0.first ≤ number)
