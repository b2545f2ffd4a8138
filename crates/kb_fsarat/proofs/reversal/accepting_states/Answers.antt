use Rattle.std.proofs.Common.{◌≡◌, ◌↔◌, ℕ, ◌+◌, List, length, Vec, Global, sym, ap, ◌∙◌, subst, arith}
use Rattle.std.specs.List.{Contains}
use Rattle.kb_fsarat.specs.Reversal.{IsListed}
use Rattle.kb_fsarat.proofs.Turning.{listed_none, listed_more, listed_same}
use Rattle.kb_fsarat.proofs.reversal.accepting_states.Goals as goal
use Rattle.kb_fsarat.proofs.reversal.accepting_states.Goals.{then-accepts+in_ok-push, else-accepts}

pub loop-place-init : goal.loop-place-init
loop-place-init c = listed_none _ _ c.new-states.ensures.items

pub loop-place-preserved : goal.loop-place-preserved
loop-place-preserved c =
    elim c.if-accepts.branch [
      | then-accepts+in_ok-push w ↦
          listed_more c.args.accepting.now c.loop-place.states.items c.if-accepts.states.items c.loop-place.place c.loop-place-test.true
          c.loop-place.invariant w.if-accepts.true (ap (λ (v : Vec ℕ Global). v.items) w.states-is ∙ w.in_ok-push.ensures.items)
      | else-accepts w ↦
          let same = listed_same c.args.accepting.now c.loop-place.states.items c.loop-place.place c.loop-place.invariant w.if-accepts.false in
          let P : List ℕ → Type 0 = λ states. (state : ℕ) → Contains states state ↔ IsListed c.args.accepting.now (c.loop-place.place + 1) state in
          subst P (sym (ap (λ (v : Vec ℕ Global). v.items) w.states-is)) same
    ]

pub returns : goal.returns
returns c =
    let last : c.loop-place.place ≡ length c.args.accepting.now = omega arith in
    let P : ℕ → Type 0 = λ count. (state : ℕ) → Contains c.loop-place.states.items state ↔ IsListed c.args.accepting.now count state in
    subst P last c.loop-place.invariant
