use Rattle.std.proofs.Common.{◌≡◌, ◌<◌, ◌≤◌, Some, None, get_or, sym, ap, ◌∙◌, subst, arith}
use Rattle.std.proofs.lemmas.Bool.{le-ltb, lt-ltb}
use Rattle.kb_trie.specs.States.{States}
use Rattle.kb_wa.specs.Dictionary.{LeftSides, dictionary}
use Rattle.kb_wa.proofs.Moves.{letter_leads, unless_left, unless_none}
use Rattle.kb_wa.proofs.dictionary.Dictionary.follow.Goals as goal

pub returns-then-number_at-gt0 : goal.returns-then-number_at-gt0
returns-then-number_at-gt0 c =
    let trie : States = c.self.inside.trie in
    let n : c.self.inside.n ≡ c.args.self.now.n = ap (λ (sides : LeftSides). sides.n) c.self.view_is in
    let follows = letter_leads c.self.inside.n trie c.args.state c.args.letter c.step-next.result c.count.ensures.words
    (omega (arith, c.count.ensures.count)) c.requires.positive (omega arith) c.step-next.ensures in
    let kept : 0 < get_or trie.numbers c.step-next.result 0 = omega (arith, c.number_at.ensures, c.if-number_at-gt0.true) in
    let P : LeftSides → Type 0 = λ sides. None ≡ (dictionary sides.n sides.trie).follow c.args.state c.args.letter in
    subst P c.self.view_is
    (sym (follows ∙ unless_left trie c.step-next.result (lt-ltb 0 (get_or trie.numbers c.step-next.result 0) kept)))

pub returns : goal.returns
returns c =
    let trie : States = c.self.inside.trie in
    let n : c.self.inside.n ≡ c.args.self.now.n = ap (λ (sides : LeftSides). sides.n) c.self.view_is in
    let follows = letter_leads c.self.inside.n trie c.args.state c.args.letter c.step-next.result c.count.ensures.words
    (omega (arith, c.count.ensures.count)) c.requires.positive (omega arith) c.step-next.ensures in
    let none : get_or trie.numbers c.step-next.result 0 ≤ 0 = omega (arith, c.number_at.ensures, c.if-number_at-gt0.false) in
    let P : LeftSides → Type 0 = λ sides.
    Some c.step-next.result ≡ (dictionary sides.n sides.trie).follow c.args.state c.args.letter in
    subst P c.self.view_is
    (sym (follows ∙ unless_none trie c.step-next.result (le-ltb 0 (get_or trie.numbers c.step-next.result 0) none)))
