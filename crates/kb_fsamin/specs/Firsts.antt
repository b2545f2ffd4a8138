-- The first classes of states, and the first states of classes.
use Rattle.std.specs.Prelude.{◌≡◌, ◌≢◌, ℕ, suc, ◌+◌, ◌<◌, Bool, true, false, List, length, get_or, if◌then◌else◌}
use Rattle.kb_fsa.specs.Table.{Table}
use Rattle.kb_fsa.specs.Canonical.{IsState}
use Rattle.kb_fsamin.specs.Rounds.{class_of}

-- what tells the first classes of states apart, by the place of a state: one more than the label of a state that
-- accepts, and 0 of another
abbrev pub output_at : Table → List ℕ → ℕ → ℕ
output_at table labels place =
    if get_or table.accepting place false then suc (get_or labels place 0) else 0

-- the first class of a state that leads to acceptance or doesn't, by the number of its output
abbrev pub first_class : Bool → ℕ → ℕ
first_class false number = 0
first_class true number = suc number

-- the classes of the states below a bound are by the numbers of their outputs
pub record AreByNumber (marks : List Bool) (numbers : List ℕ) (done : ℕ)
    (classes : List ℕ) : Type 0 where
  pub one_each : length classes ≡ done
  pub none : class_of classes 0 ≡ 0
  pub each : (place : ℕ) → suc place < done
      → class_of classes (suc place)
      ≡ first_class (get_or marks (suc place) false) (get_or numbers place 0)

-- The first state of each class is known, as far as the states below a bound have it, and is listed for each of them.
pub record AreFirsts (table : Table) (classes : List ℕ) (done : ℕ)
    (firsts listed : List ℕ) : Type 0 where
  pub one_each : length firsts ≡ suc (length table.rows)
  pub all_done : length listed + 1 ≡ done
  pub none : get_or firsts 0 0 ≡ 0
  pub first : (class : ℕ) → get_or firsts class 0 ≢ 0 → IsState table (get_or firsts class 0)
      × (class_of classes (get_or firsts class 0) ≡ class)
  pub listed_each : (place : ℕ) → suc place < done
      → get_or listed place 0 ≡ get_or firsts (class_of classes (suc place)) 0
  pub some : (place : ℕ) → suc place < done → class_of classes (suc place) ≢ 0
      → get_or firsts (class_of classes (suc place)) 0 ≢ 0
