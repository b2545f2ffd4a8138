use Rattle.std.proofs.Common.{◌≡◌, ◌∙◌, ◌-◌, ℕ, List, [], ◌∷◌, ◌++◌, length, get_or, take, sym, ap, subst, arith}
use Rattle.kb_leastpair.specs.LeastPair.{IsAccepted, IsEnd}
use Rattle.kb_relations.specs.Trails.{state_beside_itself}
use Rattle.kb_relations.proofs.Beside.{accepted_longer, accepted_shorter}
use Rattle.kb_relations.proofs.change.image.Goals as goal

pub returns-then-is_lengthened-clause-image : goal.returns-then-is_lengthened-clause-image
returns-then-is_lengthened-clause-image c =
    let multiplier = c.args.multiplier.now in
    let word = c.args.word.now in
    let letter : ℕ = c.args.letter in
    let long = c.requires.whole in
    let len = c.len-len.ensures in
    let beside = state_beside_itself multiplier word in
    let state : c.state.result ≡ beside (length word) =
    c.state.ensures ∙ c.requires.trail.each c.len-len.result (omega (arith, long, len)) ∙ ap beside len in
    let P : ℕ → Type 0 = λ s. IsEnd multiplier s [] (letter ∷ []) in
    let is_end = subst P state (c.is_lengthened.ensures c.if-is_lengthened.true) in
    let end : c.push.new.self ≡ letter ∷ [] =
    c.in_ok-push.ensures.ok ∙ ap (λ w. w ++ letter ∷ []) c.new-end.ensures in
    let Q : ℕ → Type 0 = λ k. IsAccepted multiplier word (take k word ++ c.push.new.self) in
    let R : List ℕ → Type 0 = λ w. IsAccepted multiplier word (take (length word) word ++ w) in
    subst Q (sym len) (subst R (sym end) (accepted_longer multiplier word letter c.requires.word is_end))

pub returns-then-is_shortened-clause-image : goal.returns-then-is_shortened-clause-image
returns-then-is_shortened-clause-image c =
    let multiplier = c.args.multiplier.now in
    let word = c.args.word.now in
    let place : ℕ = c.len-len.result - 1 in
    let last : ℕ = c.index-letters-len.result in
    let long = c.requires.whole in
    let len = c.len-len.ensures in
    let some = c.if-len-gt0.true in
    let beside = state_beside_itself multiplier word in
    let state : c.state-then-len-gt0.result ≡ beside place =
    c.state-then-len-gt0.ensures ∙ c.requires.trail.each place (omega (arith, long, len)) in
    let P : ℕ → Type 0 = λ s. IsEnd multiplier s (last ∷ []) [] in
    let is_end = subst P state (c.is_shortened.ensures c.if-is_shortened.true) in
    let is_last : last ≡ get_or word place last =
    c.index-letters-len.is ∙ ap (λ w. get_or w place last) c.letters.ensures.letters in
    let R : List ℕ → Type 0 = λ w. IsAccepted multiplier word (take place word ++ w) in
    subst R (sym c.new-end-then-is_shortened.ensures)
    (accepted_shorter multiplier word place last c.requires.word (omega (arith, len, some)) is_last is_end)
