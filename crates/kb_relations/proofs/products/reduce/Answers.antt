use Rattle.std.proofs.Common.{◌≡◌, ◌∙◌, ◌<◌, ◌≤◌, ℕ, [], ◌++◌, drop, get_or, length, take, sym, ap, subst}
use Rattle.std.proofs.lemmas.List.{take_at}
use Rattle.kb_fsa.specs.Language.{generators}
use Rattle.kb_relations.proofs.LeastImages.{one_more}
use Rattle.kb_relations.specs.Trails.{AreTrails}
use Rattle.kb_relations.proofs.products.reduce.Goals as goal

pub loop-letter-preserved : goal.loop-letter-preserved
loop-letter-preserved c =
    let acceptor = c.args.acceptor.now in
    let multipliers = c.args.multipliers.now in
    let word = c.args.word.now in
    let index : ℕ = c.loop-letter.letter-index in
    let letter : ℕ = c.letter-item.result in
    let trails = c.loop-letter.trails in
    let new = c.multiply.new.trails in
    let before = c.loop-letter.invariant in
    let after = c.in_ok-multiply.ensures in
    let letters = c.letters-letter-items in
    let within : index < length word = subst (λ w. index < length w) letters.ensures.letters c.loop-letter-test.true in
    let is : letter ≡ get_or word index letter = c.letter-item.is ∙ ap (λ w. get_or w index letter) letters.ensures.letters in
    let is_letter : (0 < letter) × (letter ≤ generators acceptor.alphabet) =
    subst (λ y. (0 < y) × (y ≤ generators acceptor.alphabet)) (sym is) (c.requires.word index letter within) in
    let long : length new ≡ trails.len = after.trails.one_each ∙ sym before.1.one_each ∙ sym trails.ok.0 in
    let same : take trails.len (new ++ drop (length new) trails.items) ≡ new = take_at new (drop (length new) trails.items) trails.len long in (
      one_more acceptor multipliers c.requires.automata word [] index letter c.loop-letter.reached c.multiply.new.reached within
          is is_letter before.0 after.image,
      subst (AreTrails multipliers c.multiply.new.reached) (sym same) after.trails,
    )
