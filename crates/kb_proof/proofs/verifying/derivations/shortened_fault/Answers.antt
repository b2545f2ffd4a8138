use Rattle.std.proofs.Common.{◌≡◌, ℕ, List, [], Ok, true≢false, length, sym, ap, ◌∙◌, subst, arith, eqb-true}
use Rattle.std.proofs.lemmas.List.{nil_from_length}
use Rattle.kb_machine.specs.Derivations.{Any, Derives}
use Rattle.kb_machine.specs.Lines.{rules_of}
use Rattle.kb_machine.specs.declared.line.LogStep.{LogStep}
use Rattle.kb_proof.proofs.Sides.{right_elsewhere}
use Rattle.kb_proof.proofs.verifying.derivations.shortened_fault.Goals as goal

pub returns-then-not-are_same : goal.returns-then-not-are_same
returns-then-not-are_same c =
    let line = c.args.line.now in
    let reached : List ℕ = c.replay.new.word in
    let P : List LogStep → Type 0 = λ steps. Derives Any (rules_of c.args.earlier.now) c.args.pair.1 steps reached in
    let led : P c.as_slice.result.now = c.in_ok-replay.ensures.yes (ap Ok c.if-not-branch.false) in
    let len : line.second_steps.len ≡ 0 = eqb-true line.second_steps.len 0 (sym c.is_empty.ensures ∙ c.if-not-is_empty.false) in
    let zero : length line.second_steps.items ≡ 0 = omega (arith, line.second_steps.ok.0) in
    let none : line.second_steps.items ≡ [] = nil_from_length line.second_steps.items zero in
    let apart : (c.args.pair.0 ≡ line.left) × (reached ≡ line.right) → ⊥ =
    λ same. true≢false (sym (c.are_same.ensures.1 same) ∙ c.if-not-are_same.true) in
    right_elsewhere reached c.requires (subst P c.as_slice.ensures.value led) none apart
