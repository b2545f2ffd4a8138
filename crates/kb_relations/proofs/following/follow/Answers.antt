use Rattle.std.proofs.Common.{ℕ, ◌<◌, ◌≤◌, List, sym, subst}
use Rattle.std.proofs.Math.ListN.{drop_of_length-le}
use Rattle.kb_word.specs.Relations.{IsOver}
use Rattle.kb_fsa.specs.Language.{generators}
use Rattle.kb_structure.specs.Structure.{Follows}
use Rattle.kb_structure.specs.StructureOf.{OfAutomata}
use Rattle.kb_relations.specs.Progress.{AreFollowedTo}
use Rattle.kb_relations.proofs.LeastImages.{none_followed, one_more, all_followed}
use Rattle.kb_relations.proofs.following.follow.Goals as goal

pub loop-letter-init : goal.loop-letter-init
loop-letter-init c =
    let acceptor = c.args.acceptor.now in let multipliers = c.args.multipliers.now in
    let letters = c.letters-letters.result.now in let from = c.args.from.now in
    let P : List ℕ → Type 0 = AreFollowedTo acceptor multipliers letters from 0 in
    subst P (sym c.in_ok-end.ensures)
    (none_followed acceptor multipliers c.requires.automata letters from c.requires.from)

pub loop-letter-preserved : goal.loop-letter-preserved
loop-letter-preserved c =
    let acceptor = c.args.acceptor.now in let multipliers = c.args.multipliers.now in
    let letters = c.letters-letters.result.now in
    let P : List ℕ → Type 0 = IsOver (generators acceptor.alphabet) in
    let over = subst P (sym c.letters-letters.ensures.letters) c.requires.word in
    let letter = c.letter-item.result in
    let Q : ℕ → Type 0 = λ y. (0 < y) × (y ≤ generators acceptor.alphabet) in
    let is_letter = subst Q (sym c.letter-item.is) (over c.loop-letter.letter-index letter c.loop-letter-test.true) in
    one_more acceptor multipliers c.requires.automata letters c.args.from.now c.loop-letter.letter-index
    letter c.loop-letter.end c.in_ok-end-2.end c.loop-letter-test.true c.letter-item.is is_letter c.loop-letter.invariant c.in_ok-end-2.ensures

pub returns : goal.returns
returns c =
    let acceptor = c.args.acceptor.now in let multipliers = c.args.multipliers.now in
    let letters = c.letters-letters.result.now in let from = c.args.from.now in
    let end = c.loop-letter.end in
    let P : List ℕ → Type 0 = λ word. OfAutomata acceptor multipliers (λ structure. Follows structure word from end) in
    subst P c.letters-letters.ensures.letters
    (all_followed acceptor multipliers c.requires.automata letters from c.loop-letter.letter-index end
    (drop_of_length-le letters c.loop-letter-test.false) c.loop-letter.invariant)
