use Rattle.std.proofs.Common.{ℕ, ◌<◌, ◌≤◌, List, [], ◌∷◌, ◌++◌, length, sym, ap, ◌∙◌, subst, arith}
use Rattle.kb_trie.specs.States.{word}
use Rattle.kb_overlap.specs.Ways.{AreReached}
use Rattle.kb_overlap.proofs.Reached.{reached_first, reached_none}
use Rattle.kb_overlap.proofs.prefixes.Prefixes.first_level.Goals as goal
use Rattle.kb_overlap.proofs.prefixes.Prefixes.first_level.Goals.{then-depth-gt0+in_ok-push, else-depth-gt0}

pub returns : goal.returns
returns c tail stands irreducible =
    let prefixes = c.args.self.now in
    let words : List (List ℕ) = prefixes.automaton.now.words in
    let known = c.requires.prefixes.states in
    let state : ℕ = c.args.state in
    let R : List ℕ → Type 0 = λ level. AreReached prefixes.rules.now words tail 0 level in
    elim c.if-depth-gt0.branch [
      | then-depth-gt0+in_ok-push w ↦
          let level = ap (λ v. v.items) w.level-is ∙ w.in_ok-push.ensures.items
          ∙ ap (λ (xs : List ℕ). xs ++ state ∷ []) c.new-level.ensures.items in
          let some : 0 < length (word words state) = omega (arith, c.depth.ensures, w.if-depth-gt0.true) in
          subst R (sym level) (reached_first known tail state stands irreducible some)
      | else-depth-gt0 w ↦
          let level = ap (λ v. v.items) w.level-is ∙ c.new-level.ensures.items in
          let none : length (word words state) ≤ 0 = omega (arith, c.depth.ensures, w.if-depth-gt0.false) in
          subst R (sym level) (reached_none known tail state stands none)
    ]
