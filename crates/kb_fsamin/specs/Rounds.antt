-- Classes of states, and the rounds that refine them.
use Rattle.std.specs.Prelude.{◌≡◌, ◌≢◌, ◌↔◌, ℕ, suc, ◌-◌, ◌<◌, ◌≤◌, nat_eq, List, [], length, get_or, filter_map, Option, Some, None, if◌then◌else◌}
use Rattle.kb_fsa.specs.Table.{Moves, Table, IsTable, moves_of, IsLive}
use Rattle.kb_fsa.specs.Canonical.{IsState}
use Rattle.kb_labelled.specs.Labels.{AreAlike, label_of}
use Rattle.kb_fsamin.specs.declared.rounds.Signature.{Signature}

-- The list has the classes of state 0, that is no state, and of the states from 1 on. Class 0 is
-- that of what leads to no acceptance.
abbrev pub class_of : List ℕ → ℕ → ℕ
class_of classes state = get_or classes state 0

-- a move with the class of its target in place of the target, unless that is 0
abbrev pub classed : List ℕ → ℕ × ℕ → Option (ℕ × ℕ)
classed classes move =
    if nat_eq (class_of classes move.1) 0 then None else Some (move.0, class_of classes move.1)

-- a row of moves with the targets' classes
abbrev pub class_row : List ℕ → Moves → Moves
class_row classes moves = filter_map (classed classes) moves

-- what a round sees of a state: its class, and its row
abbrev pub Sight : Type 0
Sight = ℕ × Moves

abbrev pub sight : Table → List ℕ → ℕ → Sight
sight table classes state = (class_of classes state, class_row classes (moves_of table state))

-- Classes are numbered from 1 in the order of their first states: none is by more than 1 above those before it.
abbrev pub IsFirstSeen : List ℕ → ℕ → Type 0
IsFirstSeen classes done =
    (state most : ℕ) → state < done
    → ((earlier : ℕ) → earlier < state → class_of classes earlier ≤ most)
    → class_of classes state ≤ suc most

-- The first states, as many as are done, have new classes: the place, from 1 on, of what is seen of them.
pub record IsRound (table : Table) (old : List ℕ) (done : ℕ) (seen : List Sight)
    (new : List ℕ) : Type 0 where
  pub one_each : length new ≡ done
  pub few : length seen < done
  pub dead : (state : ℕ) → state < done → class_of old state ≡ 0 → class_of new state ≡ 0
  pub place : (state k : ℕ) → state < done → class_of old state ≢ 0 → class_of new state ≡ suc k
      → (k < length seen) × ((d : Sight) → get_or seen k d ≡ sight table old state)
  pub alive : (state : ℕ) → state < done → class_of old state ≢ 0 → class_of new state ≢ 0
  pub distinct : (j k : ℕ) (d : Sight) → j < length seen → k < length seen
      → get_or seen j d ≡ get_or seen k d → j ≡ k
  pub attained : (k : ℕ) → k < length seen
      → (state : ℕ) × (state < done) × (class_of new state ≡ suc k)
  pub first_seen : IsFirstSeen new done
  pub above : IsFirstSeen old done → (k : ℕ) (d : Sight) → k < length seen
      → (get_or seen k d).0 ≤ suc k
  pub bounded : IsFirstSeen old done → (state : ℕ) → state < done → class_of old state ≤ length seen

-- The new classes are those of what is seen of the states by the old ones.
pub record IsRefined (table : Table) (old new : List ℕ) : Type 0 where
  pub one_each : length new ≡ suc (length table.rows)
  pub small : (state : ℕ) → class_of new state ≤ length table.rows
  pub dead : (state : ℕ) → class_of old state ≡ 0 → class_of new state ≡ 0
  pub alive : (state : ℕ) → state ≤ length table.rows → class_of old state ≢ 0
      → class_of new state ≢ 0
  pub refines : (p q : ℕ) → p ≤ length table.rows → q ≤ length table.rows → class_of old p ≢ 0
      → class_of old q ≢ 0
      → class_of new p ≡ class_of new q → sight table old p ≡ sight table old q
  pub respects : (p q : ℕ) → p ≤ length table.rows → q ≤ length table.rows → class_of old p ≢ 0
      → class_of old q ≢ 0
      → sight table old p ≡ sight table old q → class_of new p ≡ class_of new q
  pub first_seen : IsFirstSeen new (suc (length table.rows))
  pub grows : IsFirstSeen old (suc (length table.rows)) → (state : ℕ)
      → class_of old state ≤ class_of new state

-- Alike states, from which each text leads to one label, have one class. States of one class have one label, or all
-- of them none, and only what leads to no acceptance has class 0.
pub record IsClassing (table : Table) (labels classes : List ℕ) : Type 0 where
  pub is_table : IsTable table
  pub one_each : length classes ≡ suc (length table.rows)
  pub none : class_of classes 0 ≡ 0
  pub live : (state : ℕ) → IsState table state → class_of classes state ≢ 0 ↔ IsLive table state
  pub labelled : (p q : ℕ) → IsState table p → IsState table q → class_of classes p ≢ 0
      → class_of classes p ≡ class_of classes q
      → label_of table labels p ≡ label_of table labels q
  pub respects : (p q : ℕ) → IsState table p → IsState table q → AreAlike table labels p q
      → class_of classes p ≡ class_of classes q

-- What is seen is put at the end of the list, where it isn't there yet; the number is its place.
pub record Inserted {X : Type 0} (seen seen' : List X) (x : X) (number : ℕ) : Type 0 where
  pub within : number < length seen'
  pub here : (d : X) → get_or seen' number d ≡ x
  pub kept : (k : ℕ) (d : X) → k < length seen → get_or seen' k d ≡ get_or seen k d
  pub grows : length seen ≤ length seen'
  pub few : length seen' ≤ suc (length seen)
  pub last : (k : ℕ) → k < length seen' → length seen ≤ k → k ≡ number
  pub fresh : length seen ≤ number → (k : ℕ) (d : X) → k < length seen → get_or seen k d ≢ x

-- what a signature says
abbrev pub sight_of : Signature → Sight
sight_of signature = (signature.class, signature.moves.items)

-- states of one class are alike
abbrev pub IsStable : Table → List ℕ → List ℕ → Type 0
IsStable table labels classes =
    (p q : ℕ) → IsState table p → IsState table q → class_of classes p ≢ 0
    → class_of classes p ≡ class_of classes q
    → AreAlike table labels p q

-- A state has its own number for class, and the row of another state has the same class row as its own.
pub record StandsFor (rows : List Moves) (classes : List ℕ) (state : ℕ) (row : Moves) : Type 0 where
  pub within : state ≤ length rows
  pub own : class_of classes state ≡ state
  pub alike : class_row classes (get_or rows (state - 1) []) ≡ class_row classes row

-- each of the first states has a state that stands for it, unless its class is 0
abbrev pub AreStoodFor : Table → List ℕ → ℕ → Type 0
AreStoodFor table classes done = (state : ℕ) → 0 < state → state ≤ done → class_of classes state ≢ 0
    → StandsFor table.rows classes (class_of classes state) (moves_of table state)
