use Rattle.std.proofs.Common.{ℕ, ◌<◌, ◌^◌, ◌∷◌, ◌++◌, All, List, [], subst, sym, ap, ◌∙◌, arith}
use Rattle.kb_word.specs.Words.{Pair, OneOf}
use Rattle.kb_word.specs.Rewriting.{IsIrreducible}
use Rattle.kb_rules.specs.Ending.{IsFirstEnding}
use Rattle.kb_rules.proofs.Endings.{irreducible_more}
use Rattle.kb_rules.proofs.Scanning.{IsCut, cut_irreducible, cut_step, cut_range}
use Rattle.kb_index.specs.Automata.{Sides}
use Rattle.kb_index.proofs.Fronts.{first_ending, front_cut, none_ending}
use Rattle.kb_index.proofs.reading.read_letter.Goals as goal

pub returns-in_default-clause-irreducible : goal.returns-in_default-clause-irreducible
returns-in_default-clause-irreducible c =
    let list : List Pair = c.args.list.now.rules in
    let sides : Sides = c.args.automaton.now in
    let whole : List ℕ = c.args.workspace.now.front ++ c.args.letter ∷ [] in
    let P : List ℕ → Type 0 = λ w. IsIrreducible (OneOf list) w in
    subst P (sym c.in_ok-state.ensures.word)
    (irreducible_more list c.args.workspace.now.front c.args.letter c.requires.irreducible
    (none_ending list sides c.requires.automaton whole c.in_ok-state.state c.in_ok-state.ensures.state c.in_default.ensures))

pub cut-kept-requires-clause-ends : goal.cut-kept-requires-clause-ends
cut-kept-requires-clause-ends c =
    let list : List Pair = c.args.list.now.rules in
    let sides : Sides = c.args.automaton.now in
    let front : List ℕ = c.args.workspace.now.front in
    let whole : List ℕ = front ++ c.args.letter ∷ [] in
    let F : List ℕ → Type 0 = λ w. IsFirstEnding list w c.in-Some.place c.in-Some-get.rule.now in
    let first : F whole =
    first_ending list sides c.requires.automaton whole c.in_ok-state.state c.in-Some.place c.in-Some-get.rule.now c.in_ok-state.ensures.state
    c.in-Some.ensures (sym c.in-Some-get.ensures.rule) in
    let at : F c.advance.new.front = subst F (sym c.in_ok-state.ensures.word) first in
    at.ends

pub returns-clause-states : goal.returns-clause-states
returns-clause-states c =
    front_cut c.args.automaton.now.words c.advance.new.front c.cut-kept.new.front c.advance.new.states.items
    c.cut-kept.new.states.items c.cut-kept.result (omega (arith, c.cut-kept.ensures.kept)) c.in_ok-state.ensures.states
    c.cut-kept.ensures.word c.cut-kept.ensures.states

pub returns-clause-irreducible : goal.returns-clause-irreducible
returns-clause-irreducible c =
    let list : List Pair = c.args.list.now.rules in
    let sides : Sides = c.args.automaton.now in
    let front : List ℕ = c.args.workspace.now.front in
    let whole : List ℕ = front ++ c.args.letter ∷ [] in
    let F : List ℕ → Type 0 = λ w. IsFirstEnding list w c.in-Some.place c.in-Some-get.rule.now in
    let first : F whole =
    first_ending list sides c.requires.automaton whole c.in_ok-state.state c.in-Some.place c.in-Some-get.rule.now c.in_ok-state.ensures.state
    c.in-Some.ensures (sym c.in-Some-get.ensures.rule) in
    let C : List ℕ → Type 0 = λ w. IsCut w c.in-Some-get.rule.now.0 c.cut-kept.result c.cut-kept.new.front in
    let cut : C c.advance.new.front = record { at = c.cut-kept.ensures.kept; is = c.cut-kept.ensures.word } in
    cut_irreducible front c.args.letter c.requires.irreducible first (subst C c.in_ok-state.ensures.word cut)

pub returns-clause-some : goal.returns-clause-some
returns-clause-some c =
    let list : List Pair = c.args.list.now.rules in
    let sides : Sides = c.args.automaton.now in
    let front : List ℕ = c.args.workspace.now.front in
    let whole : List ℕ = front ++ c.args.letter ∷ [] in
    let F : List ℕ → Type 0 = λ w. IsFirstEnding list w c.in-Some.place c.in-Some-get.rule.now in
    let first : F whole =
    first_ending list sides c.requires.automaton whole c.in_ok-state.state c.in-Some.place c.in-Some-get.rule.now c.in_ok-state.ensures.state
    c.in-Some.ensures (sym c.in-Some-get.ensures.rule) in
    let C : List ℕ → Type 0 = λ w. IsCut w c.in-Some-get.rule.now.0 c.cut-kept.result c.cut-kept.new.front in
    let cut : C c.advance.new.front = record { at = c.cut-kept.ensures.kept; is = c.cut-kept.ensures.word } in
    let back = c.in_ok-put_back.ensures.ok ∙ ap (λ (r : List ℕ). r ++ c.args.workspace.now.unread) c.right.ensures in
    cut_step front c.args.letter c.args.workspace.now.unread c.put_back.new.self c.requires.irreducible first
    (subst C c.in_ok-state.ensures.word cut) back

pub returns-clause-range : goal.returns-clause-range
returns-clause-range c =
    let list : List Pair = c.args.list.now.rules in
    let sides : Sides = c.args.automaton.now in
    let front : List ℕ = c.args.workspace.now.front in
    let whole : List ℕ = front ++ c.args.letter ∷ [] in
    let F : List ℕ → Type 0 = λ w. IsFirstEnding list w c.in-Some.place c.in-Some-get.rule.now in
    let first : F whole =
    first_ending list sides c.requires.automaton whole c.in_ok-state.state c.in-Some.place c.in-Some-get.rule.now c.in_ok-state.ensures.state
    c.in-Some.ensures (sym c.in-Some-get.ensures.rule) in
    let C : List ℕ → Type 0 = λ w. IsCut w c.in-Some-get.rule.now.0 c.cut-kept.result c.cut-kept.new.front in
    let cut : C c.advance.new.front = record { at = c.cut-kept.ensures.kept; is = c.cut-kept.ensures.word } in
    let R : List ℕ → Type 0 = λ w. All (λ x. x < 2 ^ 16) w in
    let back = c.in_ok-put_back.ensures.ok ∙ ap (λ (r : List ℕ). r ++ c.args.workspace.now.unread) c.right.ensures in
    let right = subst R c.right.ensures c.put_back.ensures.range in
    cut_range (λ x. x < 2 ^ 16) front c.args.letter c.args.workspace.now.unread c.put_back.new.self first
    (subst C c.in_ok-state.ensures.word cut) back c.requires.range right
