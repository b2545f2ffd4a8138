use Rattle.std.proofs.Common.{◌≡◌, ℕ, ◌+◌, List, [], ◌∷◌, ◌++◌, Some, None, sym, ap, ◌∙◌, subst, arith, Vec, Global}
use Rattle.kb_diffwa.specs.declared.rivals.Rivals.{Rivals}
use Rattle.kb_diffwa.specs.RivalSets.{followed}
use Rattle.kb_diffwa.proofs.LetterMoves.{AreMovesTo, all_letters, none_more, one_more}
use Rattle.kb_diffwa.proofs.rival_sets.RivalSetsMachine.moves.Goals.{in-Some+in_ok-push, in_default}
use Rattle.kb_diffwa.proofs.rival_sets.RivalSetsMachine.moves.Goals as goal

pub loop-index-preserved : goal.loop-index-preserved
loop-index-preserved c =
    let it = c.args.self.now in
    let set = c.args.set.now in
    let bound = c.loop-index.index in
    let moves = c.loop-index.moves.items in
    let P : List (ℕ × List Rivals) → Type 0 = AreMovesTo it.n it.differences it.letters.items set (bound + 1) in
    elim c.match-branch-2.branch [
      | in-Some+in_ok-push w ↦
          let next = w.in-Some.next in
          let leads : followed it.n it.differences it.letters.items set (bound + 1) ≡ Some next =
          sym c.in_ok-next.ensures ∙ w.in-Some.is in
          let from : w.from.result ≡ bound + 1 = w.from.ensures in
          let more : c.match-branch-2.moves.items ≡ moves ++ (bound + 1, next) ∷ [] =
          ap (λ (v : Vec (ℕ × List Rivals) Global). v.items) w.moves-is ∙ w.in_ok-push.ensures.items
          ∙ ap (λ (z : ℕ). moves ++ (z, next) ∷ []) from in
          subst P (sym more) (one_more it.n it.differences it.letters.items set bound moves next leads c.loop-index.invariant)
      | in_default w ↦
          let leads : followed it.n it.differences it.letters.items set (bound + 1) ≡ None =
          sym c.in_ok-next.ensures ∙ w.in_default.is in
          let same : c.match-branch-2.moves.items ≡ moves =
          ap (λ (v : Vec (ℕ × List Rivals) Global). v.items) w.moves-is in
          subst P (sym same) (none_more it.n it.differences it.letters.items set bound moves leads c.loop-index.invariant)
    ]

pub returns : goal.returns
returns c =
    let it = c.args.self.now in
    let end : c.loop-index.index ≡ it.n = omega arith in
    let P : ℕ → Type 0 = λ bound. AreMovesTo it.n it.differences it.letters.items c.args.set.now bound c.loop-index.moves.items in
    all_letters it.n it.differences it.letters.items c.args.set.now c.loop-index.moves.items (subst P end c.loop-index.invariant)
