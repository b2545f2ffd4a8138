use Rattle.std.proofs.Common.{◌≡◌, ℕ, suc, ◌+◌, ◌≤◌, max, List, [], ◌∷◌, ◌++◌, length, Option, refl, sym, ap, ◌∙◌, subst, arith}
use Rattle.kb_compose.specs.declared.tail.Tail.{Tail}
use Rattle.kb_compose.specs.declared.tail.Tail.TheVariants.{At}
use Rattle.kb_compose.specs.Tails.{tail_after, tails}
use Rattle.kb_compose.specs.Progress.{AreMovesBelow}
use Rattle.kb_compose.proofs.Endings.{move_more, move_none, moves_whole, no_tail}
use Rattle.kb_compose.proofs.tails.Tails.letters.Goals.{in-Some+in_ok-push, in_default}
use Rattle.kb_compose.proofs.tails.Tails.letters.Goals as goal

pub loop-letter-preserved : goal.loop-letter-preserved
loop-letter-preserved c =
    let self = c.args.self.now in
    let follow : ℕ → Option Tail = tail_after self.symbols.n self.first.now self.second.now c.args.pair in
    let letter = c.loop-letter.letter in
    let before = c.loop-letter.invariant in
    let moves = c.loop-letter.moves.items in
    let one : suc letter ≡ letter + 1 = omega arith in
    let P : List (ℕ × Tail) → Type 0 = λ l. AreMovesBelow follow (letter + 1) l in
    let within : letter + 1 ≤ self.symbols.n + 1 = omega (arith, c.loop-letter-test.true, c.padding-padding.ensures) in
    elim c.match-after.branch [
      | in-Some+in_ok-push w ↦
          let tail = w.in-Some.tail in
          let more = move_more follow letter moves before.below before.positive tail (sym c.after.ensures ∙ w.in-Some.is) in
          let Q : ℕ → Type 0 = λ k. AreMovesBelow follow k (moves ++ (letter, tail) ∷ []) in
          record {
            positive = omega arith;
            within = within;
            below = subst P (sym w.in_ok-push.ensures.items ∙ ap (λ v. v.items) (sym w.moves-is)) (subst Q one more);
          }
      | in_default w ↦
          let same = move_none follow letter moves before.below before.positive (sym c.after.ensures ∙ w.in_default.is) in
          let Q : ℕ → Type 0 = λ k. AreMovesBelow follow k moves in
          record {
            positive = omega arith;
            within = within;
            below = subst P (ap (λ v. v.items) (sym w.moves-is)) (subst Q one same);
          }
    ]

pub returns : goal.returns
returns c =
    let self = c.args.self.now in
    let n = self.symbols.n in
    let first = self.first.now in
    let second = self.second.now in
    let pair = c.args.pair in
    let before = c.loop-letter.invariant in
    moves_whole (tail_after n first second pair) c.loop-letter.letter c.loop-letter.moves.items before.below before.positive
    (tails n first second self.pairs.now) (At pair) (max n (length self.pairs.now)) (λ k. refl) (omega (arith, before.within))
    (λ k past. no_tail n first second pair k (λ is. omega (arith, is.1, c.loop-letter-test.false, c.padding-padding.ensures)))
