use Rattle.std.proofs.Common.{◌≡◌, ◌∙◌, ◌+◌, ◌-◌, ◌<◌, ◌≤◌, ℕ, List, ◌++◌, length, set, take, refl, sym, ap, subst, arith}
use Rattle.std.proofs.lemmas.Option.{slice_get_read}
use Rattle.kb_fsa.specs.Language.{generators}
use Rattle.kb_structure.specs.Structure.{Multiplies}
use Rattle.kb_structure.specs.StructureOf.{OfAutomata}
use Rattle.kb_relations.proofs.LeastImages.{multiplier_at, reads_pairs, first_over, has_image}
use Rattle.kb_relations.specs.Trails.{AreTrails, IsTrail}
use Rattle.kb_relations.proofs.Images.{image_of_accepted}
use Rattle.kb_relations.proofs.TrailLemmas.{trail_at, trails_cut, trails_grown}
use Rattle.kb_relations.proofs.products.multiply.Goals as goal

pub extend-requires-clause-alphabet : goal.extend-requires-clause-alphabet
extend-requires-clause-alphabet c =
    let acceptor = c.args.acceptor.now in
    let multipliers = c.args.multipliers.now in
    let letter : ℕ = c.args.letter in
    let multiplier = c.index-multipliers-index.result in
    let place : ℕ = c.from-index.result - 1 in
    let one_each = c.requires.automata.fit.one_each in
    let number : c.from-index.result ≡ letter = c.from-index.ensures ∙ c.number.ensures in
    let low = c.requires.letter in
    let next : place + 1 ≡ letter = omega arith in
    let within : place < length multipliers = omega arith in
    let at = multiplier_at multipliers place letter multiplier next within c.index-multipliers-index.is in
    reads_pairs acceptor multipliers c.requires.automata c.alphabet.ensures.automaton letter c.requires.letter multiplier at

pub extend-requires-clause-word : goal.extend-requires-clause-word
extend-requires-clause-word c =
    let acceptor = c.args.acceptor.now in
    let multipliers = c.args.multipliers.now in
    let letter : ℕ = c.args.letter in
    let multiplier = c.index-multipliers-index.result in
    let place : ℕ = c.from-index.result - 1 in
    let one_each = c.requires.automata.fit.one_each in
    let number : c.from-index.result ≡ letter = c.from-index.ensures ∙ c.number.ensures in
    let low = c.requires.letter in
    let next : place + 1 ≡ letter = omega arith in
    let within : place < length multipliers = omega arith in
    let at = multiplier_at multipliers place letter multiplier next within c.index-multipliers-index.is in
    first_over acceptor multipliers c.requires.automata c.alphabet.ensures.automaton letter c.requires.letter multiplier at
    c.args.reached.now c.requires.reached

pub extend-requires-clause-trail : goal.extend-requires-clause-trail
extend-requires-clause-trail c =
    let acceptor = c.args.acceptor.now in
    let multipliers = c.args.multipliers.now in
    let letter : ℕ = c.args.letter in
    let multiplier = c.index-multipliers-index.result in
    let place : ℕ = c.from-index.result - 1 in
    let one_each = c.requires.automata.fit.one_each in
    let number : c.from-index.result ≡ letter = c.from-index.ensures ∙ c.number.ensures in
    let low = c.requires.letter in
    let next : place + 1 ≡ letter = omega arith in
    let within : place < length multipliers = omega arith in
    let trails = c.args.trails.now in
    let trail = c.index-trails-index.result in
    subst (IsTrail multiplier c.args.reached.now) c.index-trails-index.is
    (trail_at multipliers c.args.reached.now trails c.requires.trails place multiplier trail within
    c.index-multipliers-index.is c.index-trails-index.is)

pub image-requires-clause-alphabet : goal.image-requires-clause-alphabet
image-requires-clause-alphabet c =
    let acceptor = c.args.acceptor.now in
    let multipliers = c.args.multipliers.now in
    let letter : ℕ = c.args.letter in
    let multiplier = c.index-multipliers-index.result in
    let place : ℕ = c.from-index.result - 1 in
    let one_each = c.requires.automata.fit.one_each in
    let number : c.from-index.result ≡ letter = c.from-index.ensures ∙ c.number.ensures in
    let low = c.requires.letter in
    let next : place + 1 ≡ letter = omega arith in
    let within : place < length multipliers = omega arith in
    let at = multiplier_at multipliers place letter multiplier next within c.index-multipliers-index.is in
    reads_pairs acceptor multipliers c.requires.automata c.alphabet.ensures.automaton letter c.requires.letter multiplier at

pub image-requires-clause-letter : goal.image-requires-clause-letter
image-requires-clause-letter c =
    let acceptor = c.args.acceptor.now in
    let multipliers = c.args.multipliers.now in
    let letter : ℕ = c.args.letter in
    let multiplier = c.index-multipliers-index.result in
    let place : ℕ = c.from-index.result - 1 in
    let one_each = c.requires.automata.fit.one_each in
    let number : c.from-index.result ≡ letter = c.from-index.ensures ∙ c.number.ensures in
    let low = c.requires.letter in
    let next : place + 1 ≡ letter = omega arith in
    let within : place < length multipliers = omega arith in
    let at = multiplier_at multipliers place letter multiplier next within c.index-multipliers-index.is in
    let same : generators multiplier.alphabet ≡ generators acceptor.alphabet =
    ap generators (c.requires.automata.fit.pairs letter multiplier at) in
    let Letter : ℕ → Type 0 = λ n. (0 < letter) × (letter ≤ n) in
    subst Letter (sym same) c.requires.letter

pub image-requires-clause-word : goal.image-requires-clause-word
image-requires-clause-word c =
    let acceptor = c.args.acceptor.now in
    let multipliers = c.args.multipliers.now in
    let letter : ℕ = c.args.letter in
    let multiplier = c.index-multipliers-index.result in
    let place : ℕ = c.from-index.result - 1 in
    let one_each = c.requires.automata.fit.one_each in
    let number : c.from-index.result ≡ letter = c.from-index.ensures ∙ c.number.ensures in
    let low = c.requires.letter in
    let next : place + 1 ≡ letter = omega arith in
    let within : place < length multipliers = omega arith in
    let at = multiplier_at multipliers place letter multiplier next within c.index-multipliers-index.is in
    first_over acceptor multipliers c.requires.automata c.alphabet.ensures.automaton letter c.requires.letter multiplier at
    c.args.reached.now c.requires.reached

pub image-requires-clause-image : goal.image-requires-clause-image
image-requires-clause-image c =
    let acceptor = c.args.acceptor.now in
    let multipliers = c.args.multipliers.now in
    let letter : ℕ = c.args.letter in
    let multiplier = c.index-multipliers-index.result in
    let place : ℕ = c.from-index.result - 1 in
    let one_each = c.requires.automata.fit.one_each in
    let number : c.from-index.result ≡ letter = c.from-index.ensures ∙ c.number.ensures in
    let low = c.requires.letter in
    let next : place + 1 ≡ letter = omega arith in
    let within : place < length multipliers = omega arith in
    let at = multiplier_at multipliers place letter multiplier next within c.index-multipliers-index.is in
    has_image acceptor multipliers c.requires.automata c.alphabet.ensures.automaton letter c.requires.letter multiplier at
    c.args.reached.now c.requires.reached

pub returns-clause-image : goal.returns-clause-image
returns-clause-image c =
    let acceptor = c.args.acceptor.now in
    let multipliers = c.args.multipliers.now in
    let letter : ℕ = c.args.letter in
    let multiplier = c.index-multipliers-index.result in
    let place : ℕ = c.from-index.result - 1 in
    let one_each = c.requires.automata.fit.one_each in
    let number : c.from-index.result ≡ letter = c.from-index.ensures ∙ c.number.ensures in
    let low = c.requires.letter in
    let next : place + 1 ≡ letter = omega arith in
    let within : place < length multipliers = omega arith in
    let at = multiplier_at multipliers place letter multiplier next within c.index-multipliers-index.is in
    let change = c.in_ok-change.change in
    let word = c.args.reached.now in
    let image : c.append.new.self ≡ take change.kept word ++ change.end =
    c.in_ok-append.ensures.ok ∙ ap (λ w. w ++ change.end) c.truncate.ensures in
    let P : List ℕ → Type 0 = λ w. OfAutomata acceptor multipliers (λ structure. Multiplies structure letter word w) in
    subst P (sym image) (image_of_accepted acceptor multipliers c.requires.automata letter multiplier at word
    (take change.kept word ++ change.end) c.in_ok-change.ensures.image)

pub returns-clause-trails : goal.returns-clause-trails
returns-clause-trails c =
    let acceptor = c.args.acceptor.now in
    let multipliers = c.args.multipliers.now in
    let letter : ℕ = c.args.letter in
    let multiplier = c.index-multipliers-index.result in
    let place : ℕ = c.from-index.result - 1 in
    let one_each = c.requires.automata.fit.one_each in
    let number : c.from-index.result ≡ letter = c.from-index.ensures ∙ c.number.ensures in
    let low = c.requires.letter in
    let next : place + 1 ≡ letter = omega arith in
    let within : place < length multipliers = omega arith in
    let change = c.in_ok-change.change in
    let word = c.args.reached.now in
    let image : c.append.new.self ≡ take change.kept word ++ change.end =
    c.in_ok-append.ensures.ok ∙ ap (λ w. w ++ change.end) c.truncate.ensures in
    let trails = c.args.trails.now in
    let trail = c.extend.new.self in
    let is = slice_get_read multipliers (length multipliers) place multiplier refl within c.index-multipliers-index.is in
    let grown = trails_grown multipliers word trails c.requires.trails place multiplier trail is c.in_ok-extend.ensures.trail in
    let P : List ℕ → Type 0 = λ w. AreTrails multipliers w c.cut.new.trails in
    subst P (sym image) (trails_cut multipliers word (set trails place trail) grown change.end change.kept c.cut.new.trails
    c.in_ok-change.ensures.kept c.cut.ensures.one_each c.cut.ensures.cut)
