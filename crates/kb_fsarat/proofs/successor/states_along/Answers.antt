use Rattle.std.proofs.Common.{◌≡◌, ℕ, List, length, ap, ◌∙◌, subst, arith}
use Rattle.kb_fsa.specs.Table.{step}
use Rattle.kb_fsarat.specs.Successors.{AreStatesAlong}
use Rattle.kb_fsarat.proofs.SuccessorLemmas.{along_none, along_more}
use Rattle.kb_fsarat.proofs.successor.states_along.Goals as goal

pub loop-letter-init : goal.loop-letter-init
loop-letter-init c = along_none _ _ _ _ c.in_ok-states.ensures.items c.initial-state.ensures.initial

pub loop-letter-preserved : goal.loop-letter-preserved
loop-letter-preserved c =
    along_more c.args.table.now c.letters-letter-items.result.now c.loop-letter.states.items c.push.new.self.items c.loop-letter.letter-index
    c.letter-item.result c.loop-letter.state c.step-state.result c.loop-letter-test.true c.loop-letter.invariant c.in_ok-push.ensures.items
    (c.step-state.ensures.step
    ∙ ap (step c.args.table.now c.loop-letter.state) (c.from.ensures ∙ c.number.ensures ∙ c.letter-item.is))

pub returns-clause-along : goal.returns-clause-along
returns-clause-along c =
    let P : List ℕ → Type 0 = λ word. AreStatesAlong c.args.table.now word c.loop-letter.states.items in
    subst P c.letters-letter-items.ensures.letters c.loop-letter.invariant.along

pub returns-clause-count : goal.returns-clause-count
returns-clause-count c =
    let count = c.loop-letter.invariant.one_each in
    let last : c.loop-letter.letter-index ≡ length c.letters-letter-items.result.now = omega arith in
    count ∙ last ∙ ap length c.letters-letter-items.ensures.letters
