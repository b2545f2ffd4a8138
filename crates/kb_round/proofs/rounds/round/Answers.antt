use Rattle.std.proofs.Common.{rules, ◌≡◌, ℕ, List, None, ap, length, sym, ◌∙◌, subst}
use Rattle.kb_diff.specs.Groups.{Group}
use Rattle.kb_diffwa.specs.Multipliers.{AreMultipliers, CountedPlaces}
use Rattle.kb_diffwa.specs.Rivals.{CountedRivals}
use Rattle.kb_diff.specs.Groups.{group_of}
use Rattle.kb_round.specs.Figures.{AreFiguresOf, figures_of, largest_of, states_of}
use Rattle.kb_round.specs.Figures.AreFiguresOf.{checked, no_acceptor, no_multipliers}
use Rattle.kb_round.specs.Rounds.{AreMadeOf, IsAcceptorOf}
use Rattle.kb_round.specs.declared.answers.Construction.TheVariants as constructions
use Rattle.kb_round.specs.declared.answers.Figures.{Figures}
use Rattle.kb_round.specs.declared.answers.Round.TheVariants.{TooManyStates}
use Rattle.kb_round.specs.Rounds.IsCounted.{acceptor, multipliers}
use Rattle.kb_round.proofs.rounds.round.Goals as goal

pub returns-in_default-clause-says : goal.returns-in_default-clause-says
returns-in_default-clause-says g c =
    let given = c.args.differences.now in
    let C : Group → Type 0 = λ group. CountedRivals group given.words c.args.limit in
    acceptor (subst C c.requires.same (c.in_ok-acceptor.ensures.none (search rules)))

pub returns-in_default-2-clause-says : goal.returns-in_default-2-clause-says
returns-in_default-2-clause-says g c =
    let given = c.args.differences.now in
    let made = c.in-Some.acceptor in
    let A : Group → Type 0 = λ group. IsAcceptorOf group given.words made in
    let C : Group → Type 0 = λ group. CountedPlaces group given.words made.table c.args.limit in
    multipliers (subst A c.requires.same (rw c.in-Some.is at c.in_ok-acceptor.ensures.found))
    (subst C c.requires.same (c.in_ok-multipliers.ensures.none (search rules)))

pub returns-in_default-clause-figures : goal.returns-in_default-clause-figures
returns-in_default-clause-figures g c =
    let given = c.args.differences.now in
    let F : Figures → Type 0 =
    λ figures. AreFiguresOf c.args.presentation.now given.group.rules given.words c.args.limit (TooManyStates constructions.Acceptor) figures in
    subst F (sym (c.figures_of-figures.ensures ∙ ap (λ (n : ℕ). figures_of n 0 0 None) c.len-count.ensures.count)) no_acceptor

pub returns-in_default-2-clause-figures : goal.returns-in_default-2-clause-figures
returns-in_default-2-clause-figures g c =
    let given = c.args.differences.now in
    let made = c.in-Some.acceptor in
    let A : Group → Type 0 = λ group. IsAcceptorOf group given.words made in
    let F : Figures → Type 0 =
    λ figures. AreFiguresOf c.args.presentation.now given.group.rules given.words c.args.limit (TooManyStates constructions.Multipliers) figures in
    let figures =
    c.figures_of-figures-in_default-2.ensures ∙ ap (λ (n : ℕ). figures_of n c.len-states.result 0 None) c.len-count.ensures.count
    ∙ ap (λ (n : ℕ). figures_of (length given.words) n 0 None) c.len-states.ensures in
    subst F (sym figures) (no_multipliers (subst A c.requires.same (rw c.in-Some.is at c.in_ok-acceptor.ensures.found)))

pub returns-clause-figures : goal.returns-clause-figures
returns-clause-figures g c =
    let given = c.args.differences.now in
    let made = c.in-Some.acceptor in
    let multipliers = c.in-Some-2.multipliers.items in
    let broken = c.in_ok-round.broken in
    let A : Group → Type 0 = λ group. IsAcceptorOf group given.words made in
    let M : Group → Type 0 = λ group. AreMultipliers group given.words made group.n multipliers in
    let are : AreMadeOf (group_of c.args.presentation.now given.group.rules) given.words made multipliers = record {
      accepts = subst A c.requires.same (rw c.in-Some.is at c.in_ok-acceptor.ensures.found);
      multiply = subst M c.requires.same (rw c.in-Some-2.is at c.in_ok-multipliers.ensures.multiply);
      canonical = rw c.in-Some-2.is at c.in_ok-multipliers.ensures.canonical;
    } in
    let F : Figures → Type 0 =
    λ figures. AreFiguresOf c.args.presentation.now given.group.rules given.words c.args.limit c.in_ok-round.round figures in
    let figures =
    c.figures_of.ensures ∙ ap (λ (n : ℕ). figures_of n c.len-states.result c.largest-most.result broken) c.len-count.ensures.count
    ∙ ap (λ (n : ℕ). figures_of (length given.words) n c.largest-most.result broken) c.len-states.ensures
    ∙ ap (λ (n : ℕ). figures_of (length given.words) (states_of made) n broken) (c.largest-most.ensures ∙ ap largest_of c.deref.ensures.value) in
    subst F (sym figures) (checked are c.in_ok-round.ensures.broken)
