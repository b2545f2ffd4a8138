-- Alike states, and a representative of each such class.
use Rattle.std.specs.Prelude.{◌≡◌, ◌≢◌, ℕ, zero, suc, List, length, get_or}
use Rattle.kb_fsa.specs.Table.{Table, IsLive}
use Rattle.kb_fsa.specs.Canonical.{IsState}
use Rattle.kb_labelled.specs.Labels.{AreAlike}

-- what the list says of a state, where it says something of states 1, 2, and so on; 0 for what is no state
abbrev pub representative : List ℕ → ℕ → ℕ
representative listed zero = 0
representative listed (suc place) = get_or listed place 0

-- Each state that leads to acceptance has a representative, a state that is alike, and alike states have the same. A
-- state that leads to none has 0.
pub record AreRepresentatives (table : Table) (labels listed : List ℕ) : Type 0 where
  pub one_each : length listed ≡ length table.rows
  pub dead : (state : ℕ) → IsState table state → representative listed state ≡ 0
      → ¬ IsLive table state
  pub live : (state : ℕ) → IsState table state → representative listed state ≢ 0
      → IsLive table state
  pub is_state : (state : ℕ) → representative listed state ≢ 0
      → IsState table (representative listed state)
  pub alike : (state : ℕ) → representative listed state ≢ 0
      → AreAlike table labels state (representative listed state)
  pub same : (p q : ℕ) → IsState table p → IsState table q → AreAlike table labels p q
      → representative listed p ≡ representative listed q
