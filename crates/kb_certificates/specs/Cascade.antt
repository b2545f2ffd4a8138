-- Cascade products: a machine that leads, and one that follows it, moving by its states and by the symbols that it
-- reads. Ginzburg, Algebraic Theory of Automata; Holcombe, Algebraic Automata Theory, 2.3.
use Rattle.std.specs.Prelude.{◌≡◌, ℕ, zero, suc, Bool, false, IsTrue, List, [], ◌∷◌, Option, Some, None}
use Rattle.kb_word.specs.Words.{Less}
use Rattle.kb_fsa.specs.Table.{Table, step, state_after}
use Rattle.kb_explore.specs.Machine.{Machine}
use Rattle.kb_certificates.specs.declared.cascade.led.Led.{Led}

-- Where a follower starts, where it moves as a leader reads a symbol in a state, and which states of both accept. Where
-- the leader has no state, 0, nothing is accepted.
pub record Follower (X : Type 0) : Type 0 where
  pub start : X
  pub next : ℕ → X → ℕ → X
  pub accepts : ℕ → X → Bool
  pub rejects_nowhere : (state : X) → accepts 0 state ≡ false

-- the leader's state with the follower's, where the leader has one
abbrev pub led : {X : Type 0} → ℕ → X → Option (Led X)
led zero follower = None
led (suc place) follower = Some (record { leader = suc place; follower = follower })

-- the cascade product
abbrev pub cascade : {X : Type 0} → Table → Follower X → Machine (Led X)
cascade table follower = record {
  start = led table.initial follower.start;
  follow = λ both symbol. led (step table both.leader symbol)
      (follower.next both.leader both.follower symbol);
  accepts = λ both. follower.accepts both.leader both.follower;
}

-- where the follower is after the text, from a state of each
abbrev pub followed : {X : Type 0} → Table → Follower X → ℕ → X → List ℕ → X
followed table follower state x [] = x
followed table follower state x (symbol ∷ text) =
    followed table follower (step table state symbol) (follower.next state x symbol) text

-- the text leads both to acceptance
abbrev pub AcceptsLed : {X : Type 0} → Table → Follower X → List ℕ → Type 0
AcceptsLed table follower text = IsTrue (follower.accepts (state_after table text)
    (followed table follower table.initial follower.start text))

-- the text is the least, in the shortlex order, that leads both to acceptance
pub record IsLeastLed {X : Type 0} (table : Table) (follower : Follower X)
    (text : List ℕ) : Type 0 where
  pub accepted : AcceptsLed table follower text
  pub least : (other : List ℕ) → AcceptsLed table follower other → ¬ Less other text

-- a move of the leader, as one of both
abbrev pub led_move : {X : Type 0} → Follower X → Led X → ℕ × ℕ → ℕ × Led X
led_move follower both move = (
  move.0,
  record {
    leader = move.1;
    follower = follower.next both.leader both.follower move.0;
  },
)
