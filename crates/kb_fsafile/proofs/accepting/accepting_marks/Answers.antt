use Rattle.std.proofs.Common.{◌↔◌, ◌<◌, ℕ, suc, List, IsTrue, get_or, false, Contains, length, ap, subst, ◌∙◌, arith}
use Rattle.std.proofs.lemmas.List.{take_all, length-set, length-replicate}
use Rattle.kb_fsafile.proofs.NumberLemmas.{states_unmarked, states_marked}
use Rattle.kb_fsafile.proofs.accepting.accepting_marks.Goals as goal

pub loop-state-init : goal.loop-state-init
loop-state-init c =
    let none = c.in_ok-marks.ensures.items_if_clones_equal (λ y is. is) in record {
      one_each = ap length none ∙ length-replicate c.args.count false;
      each = states_unmarked c.args.count c.in_ok-marks.marks.items c.args.states.now none;
    }

pub loop-state-preserved : goal.loop-state-preserved
loop-state-preserved c =
    let within : c.loop-state.state-index < length c.args.states.now = c.loop-state-test.true in
    let bounds = c.requires c.loop-state.state-index 0 within in record {
      one_each = length-set c.loop-state.marks.items _ _ ∙ c.loop-state.invariant.one_each;
      each = states_marked c.loop-state.marks.items c.args.states.now c.loop-state.state-index within bounds.0
          (omega (arith, bounds.1, c.loop-state.invariant.one_each)) c.loop-state.invariant.each;
    }

pub returns-clause-each : goal.returns-clause-each
returns-clause-each c =
    let P : List ℕ → Type 0 = λ xs. (place : ℕ) → IsTrue (get_or c.loop-state.marks.items place false) ↔ Contains xs (suc place) in
    subst P (take_all c.loop-state.state-index c.args.states.now c.loop-state-test.false) c.loop-state.invariant.each
