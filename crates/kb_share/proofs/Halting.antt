-- A book at which nothing is pending isn't halted; and how it is settled.
use Rattle.std.proofs.Common.{◌≡◌, ◌≢◌, [], length, Option, Some, None, IfSome, IfNone, refl, sym, ◌∙◌, ap, subst, arith}
use Rattle.kb_machine.specs.States.{Problem, State}
use Rattle.kb_machine.specs.Course.{Course, IsSound, HaltSays, Waits}
use Rattle.kb_machine.specs.declared.halt.Halt.{Halt}
use Rattle.kb_machine.specs.declared.halt.Halt.TheVariants as halts
use Rattle.kb_share.specs.declared.settled.Settled.{Settled}
use Rattle.kb_share.specs.declared.settled.Settled.TheVariants as settled
use Rattle.kb_share.specs.Settling.{SettleSays}
use Rattle.kb_share.specs.Work.{EndsAt}

some_none : {X : Type 0} {x : X} → Some x ≡ None → ⊥
some_none e = cc

none_some : {X : Type 0} {x : X} → None ≡ Some x → ⊥
none_some e = cc

none_waits : (problem : Problem) (state : State) (halt : Halt) → Waits problem state halt → state.pending ≡ [] → ⊥
none_waits problem state halt waits none =
    let count = ap length (sym none ∙ waits.pending) in
    let no : ⊥ = omega (arith, count) in no

some-injective : {X : Type 0} {x y : X} → Some x ≡ Some y → x ≡ y
some-injective e = cc

not_halted : (problem : Problem) (state : State) (halt : Option Halt) → IfSome halt (HaltSays problem state) → state.pending ≡ []
    → halt ≡ None
not_halted problem state None says none = refl
not_halted problem state (Some (halts.Rules u v f s)) says none = absurd (none_waits problem state (halts.Rules u v f s) says.1 none)
not_halted problem state (Some (halts.Length u v f s)) says none = absurd (none_waits problem state (halts.Length u v f s) says.2 none)

-- a sound completion at which nothing is pending isn't halted
pub idle_runs : (problem : Problem) (state : State) → IsSound problem state → state.pending ≡ [] → state.halt ≡ None
idle_runs problem state sound none = not_halted problem state state.halt sound.halted none

-- nothing was pending, and nothing changed
pub idle_ends : (before after : Course) → IsSound before.problem before.state → (before.state.pending ≡ []) × (after ≡ before)
    → (after.state.pending ≡ []) × (after.state.halt ≡ None)
idle_ends before after sound says = (
  ap (λ (c : Course). c.state.pending) says.1 ∙ says.0,
  ap (λ (c : Course). c.state.halt) says.1 ∙ idle_runs before.problem before.state sound says.0,
)

-- what is said of an answer that is there, or of one that isn't
pub if_none : {X P : Type 0} (o : Option X) → P → IfNone o P
if_none None p = p
if_none (Some x) p = tt

pub if_some : {X : Type 0} (P : X → Type 0) (o : Option X) → o ≡ None → IfSome o P
if_some P None e = tt
if_some P (Some x) e = absurd (some_none e)

pub none_is : {X P : Type 0} (o : Option X) → o ≡ None → IfNone o P → P
none_is None e p = p
none_is (Some x) e p = absurd (some_none e)

pub some_is : {X : Type 0} (P : X → Type 0) (o : Option X) (x : X) → o ≡ Some x → IfSome o P → P x
some_is P None x e p = absurd (none_some e)
some_is P (Some y) x e p = subst P (some-injective e) p

-- how the book is settled, where something was pending
pub ends_settled : (before after : Course) (end : Settled) → before.state.pending ≢ [] → EndsAt after end → SettleSays before after end
ends_settled before after settled.Nothing some ends = absurd ends
ends_settled before after settled.Done some ends = (some, ends.0, ends.1)
ends_settled before after (settled.Halted halt) some ends = (some, ends)
