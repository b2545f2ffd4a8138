use Rattle.std.proofs.Common.{List, Ok, true≢false, sym, ap, ◌∙◌, subst}
use Rattle.kb_machine.specs.Derivations.{Any, Derives}
use Rattle.kb_machine.specs.Lines.{rules_of}
use Rattle.kb_machine.specs.declared.line.LogStep.{LogStep}
use Rattle.kb_proof.proofs.Sides.{AreSides, LeadTo, pair_elsewhere}
use Rattle.kb_proof.proofs.verifying.derivations.pair_fault.Goals as goal

pub returns-then-not-are_sides : goal.returns-then-not-are_sides
returns-then-not-are_sides c =
    let rules = rules_of c.args.earlier.now in
    let line = c.args.line.now in
    let one = c.replay.new.word in
    let other = c.replay-2.new.word in
    let P : List LogStep → Type 0 = λ steps. Derives Any rules c.args.pair.0 steps one in
    let Q : List LogStep → Type 0 = λ steps. Derives Any rules c.args.pair.1 steps other in
    let first : P c.as_slice.result.now = c.in_ok-replay.ensures.yes (ap Ok c.if-not-branch.false) in
    let second : Q c.as_slice-2.result.now = c.in_ok-replay-2.ensures.yes (ap Ok c.if-not-branch-2.false) in
    let lead : LeadTo rules c.args.pair line one other = record {
      first = subst P c.as_slice.ensures.value first;
      second = subst Q c.as_slice-2.ensures.value second;
    } in
    let apart : AreSides one other line → ⊥ = λ sides. true≢false (sym (c.are_sides.ensures.1 sides) ∙ c.if-not-are_sides.true) in
    pair_elsewhere c.requires lead apart
