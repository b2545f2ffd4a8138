use Rattle.std.proofs.Common.{◌≡◌, ◌∙◌, ℕ, List, sym, ap, ap₂, subst}
use Rattle.kb_word.specs.Presentations.{PresentationParts, parts_of}
use Rattle.kb_coset.specs.Marked.{marked_parts}
use Rattle.kb_machine.specs.States.{Problem, below}
use Rattle.kb_reduced.specs.Reduced.{IsReducedComplete}
use Rattle.kb_book.specs.Problems.{problem_of as problem_within}
use Rattle.kb_coset.specs.CosetWords.{Cosets}
use Rattle.kb_cmd_elements.specs.CosetAnswers.{marked_of, subgroup_file}
use Rattle.kb_cmd_elements.specs.Given.{KbcosGiven}
use Rattle.kb_cmd_elements.proofs.coset_outcome.complete_cosets.Goals as goal

pub told-requires-clause-marked : goal.told-requires-clause-marked
told-requires-clause-marked g c =
    let parts : PresentationParts = parts_of c.args.presentation in
    let P : ℕ → Type 0 = λ n. parts_of c.in_ok-marking.marking ≡ marked_parts n c.args.generators.items parts in
    let Q : List (List ℕ) → Type 0 = λ words. parts_of c.in_ok-marking.marking ≡ marked_parts c.args.presentation.n words parts in
    subst P (sym c.args.presentation.is_presentation.one_name_each) (subst Q c.as_slice.ensures.value c.in_ok-marking.ensures.parts)

pub told-requires-clause-reduced : goal.told-requires-clause-reduced
told-requires-clause-reduced g c =
    let says = rw c.in-Confluent.is at c.in_ok-rules.ensures in
    let P : Problem → Type 0 = λ problem. IsReducedComplete (below problem) problem.relations c.in-Confluent.rules.rules in
    subst P says.0 says.1.reduced

pub shown-requires-clause-halted : goal.shown-requires-clause-halted
shown-requires-clause-halted g c = let says = rw c.in-Halted.is at c.in_ok-rules.ensures in says.1

pub shown-requires-clause-reduced : goal.shown-requires-clause-reduced
shown-requires-clause-reduced g c = let says = rw c.in-Halted.is at c.in_ok-rules.ensures in says.2

pub returns-in-Confluent : goal.returns-in-Confluent
returns-in-Confluent g c =
    let given : KbcosGiven = c.args.task.now in
    let name : c.in_ok-name.name ≡ subgroup_file given.file =
    c.in_ok-name.ensures ∙ ap (λ (it : KbcosGiven). subgroup_file it.file) c.task.view_is in
    c.told.ensures given (sym name)

pub returns-in-Halted : goal.returns-in-Halted
returns-in-Halted g c =
    let given : KbcosGiven = c.args.task.now in
    let parts : PresentationParts = parts_of c.args.presentation in
    let cosets : Cosets = record { parts = parts; generators = c.args.generators.items } in
    let name : c.in_ok-name.name ≡ subgroup_file given.file =
    c.in_ok-name.ensures ∙ ap (λ (it : KbcosGiven). subgroup_file it.file) c.task.view_is in
    let P : ℕ → Type 0 = λ n. parts_of c.in_ok-marking.marking ≡ marked_parts n c.args.generators.items parts in
    let Q : List (List ℕ) → Type 0 = λ words. parts_of c.in_ok-marking.marking ≡ marked_parts c.args.presentation.n words parts in
    let marking : parts_of c.in_ok-marking.marking ≡ marked_of cosets =
    subst P (sym c.args.presentation.is_presentation.one_name_each) (subst Q c.as_slice.ensures.value c.in_ok-marking.ensures.parts) in
    let says = rw c.in-Halted.is at c.in_ok-rules.ensures in
    let lines : c.task.inside.limits.rules ≡ given.lines = ap (λ (it : KbcosGiven). it.lines) c.task.view_is in
    let letters : c.task.inside.limits.len ≡ given.letters = ap (λ (it : KbcosGiven). it.letters) c.task.view_is in
    let problem_by : PresentationParts → Problem = λ p. problem_within p c.task.inside.limits.rules c.task.inside.limits.len in
    c.shown.ensures given cosets (sym name) marking
    (says.0 ∙ ap problem_by marking ∙ ap₂ (problem_within (marked_of cosets)) lines letters)
