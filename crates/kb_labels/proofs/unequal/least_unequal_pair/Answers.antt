use Rattle.std.proofs.Common.{ℕ, List, [], ◌∷◌, ◌++◌, ap, ◌∙◌, subst}
use Rattle.kb_word.specs.Words.{Pair}
use Rattle.kb_word.specs.WordOrders.{Below}
use Rattle.kb_word.specs.Rewriting.{AreDecreasing, NormalForm}
use Rattle.kb_labels.proofs.WrongPairs.{is_least_pair, no_pair, unequal_of_wrong}
use Rattle.kb_labels.proofs.unequal.least_unequal_pair.Goals as goal

pub returns-in-None-clause-none : goal.returns-in-None-clause-none
returns-in-None-clause-none g c = λ equal_sides one_normal.
    let presentation = c.args.presentation.now in
    let rules = g.R.Reducer.rules c.args.reducer.now in
    let pairs = c.args.multiplier.now in
    let x : ℕ = c.args.x in
    let end : List ℕ = c.in_ok-end.end in
    let order = c.list.result.now.order in
    let D : List Pair → Type 0 = λ rs. AreDecreasing (Below order) rs in
    let decreasing = subst D c.list.ensures.rules c.as_slice-rules.ensures.decreasing in
    let N : List ℕ → Type 0 = λ w. NormalForm rules w end in
    let normal : NormalForm rules (x ∷ []) end =
    subst N (c.in_ok-push.ensures.ok ∙ ap (λ w. w ++ x ∷ []) c.new-generator.ensures) c.in_ok-end.ensures in
    let mutually = presentation.is_presentation.mutual_inverses in
    let none = rw c.in-None.is at c.in_ok-least_first.ensures.none in
    no_pair presentation rules x pairs c.requires.group mutually c.requires.alphabet c.table.ensures.automaton order decreasing
    equal_sides one_normal end normal none

pub returns-in-Some-2-clause-found : goal.returns-in-Some-2-clause-found
returns-in-Some-2-clause-found g c = λ equal_sides one_normal.
    let presentation = c.args.presentation.now in
    let rules = g.R.Reducer.rules c.args.reducer.now in
    let pairs = c.args.multiplier.now in
    let x : ℕ = c.args.x in
    let end : List ℕ = c.in_ok-end.end in
    let order = c.list.result.now.order in
    let D : List Pair → Type 0 = λ rs. AreDecreasing (Below order) rs in
    let decreasing = subst D c.list.ensures.rules c.as_slice-rules.ensures.decreasing in
    let N : List ℕ → Type 0 = λ w. NormalForm rules w end in
    let normal : NormalForm rules (x ∷ []) end =
    subst N (c.in_ok-push.ensures.ok ∙ ap (λ w. w ++ x ∷ []) c.new-generator.ensures) c.in_ok-end.ensures in
    let mutually = presentation.is_presentation.mutual_inverses in
    let least = rw c.in-Some.is at c.in_ok-least_first.ensures.found in
    let second = rw c.in-Some-2.is at c.in_ok-second-in-Some.ensures.found in
    is_least_pair presentation rules x pairs c.requires.group mutually c.requires.alphabet c.table.ensures.automaton order decreasing
    equal_sides one_normal end normal c.in-Some.first c.in-Some-2.second
    least.least second

pub returns-clause-none : goal.returns-clause-none
returns-clause-none g c = λ equal_sides one_normal.
    let presentation = c.args.presentation.now in
    let rules = g.R.Reducer.rules c.args.reducer.now in
    let pairs = c.args.multiplier.now in
    let x : ℕ = c.args.x in
    let end : List ℕ = c.in_ok-end.end in
    let order = c.list.result.now.order in
    let D : List Pair → Type 0 = λ rs. AreDecreasing (Below order) rs in
    let decreasing = subst D c.list.ensures.rules c.as_slice-rules.ensures.decreasing in
    let N : List ℕ → Type 0 = λ w. NormalForm rules w end in
    let normal : NormalForm rules (x ∷ []) end =
    subst N (c.in_ok-push.ensures.ok ∙ ap (λ w. w ++ x ∷ []) c.new-generator.ensures) c.in_ok-end.ensures in
    let mutually = presentation.is_presentation.mutual_inverses in
    let least = rw c.in-Some.is at c.in_ok-least_first.ensures.found in
    let none = rw c.in-None-2.is at c.in_ok-second-in-Some.ensures.none in
    let pair = unequal_of_wrong presentation rules x pairs c.requires.group mutually c.requires.alphabet c.table.ensures.automaton order decreasing
    equal_sides one_normal end normal c.in-Some.first least.holds in
    absurd (none pair.0 pair.1)
