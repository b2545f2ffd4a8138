use Rattle.std.proofs.Common.{◌≡◌, ◌+◌, ◌-◌, ◌<◌, ◌∷◌, ◌++◌, [], List, ℕ, length, get_or, take, drop, ap, ◌∙◌, subst, arith}
use Rattle.std.proofs.lemmas.List.{get_or_read}
use Rattle.kb_fsa.specs.Table.{state_after}
use Rattle.kb_fsarat.specs.Successors.{NoneLater}
use Rattle.kb_fsarat.proofs.SuccessorLemmas.{later_none, later_more, next_found}
use Rattle.kb_fsarat.proofs.successor.next_along.Goals as goal
use Rattle.kb_fsarat.proofs.successor.next_along.Goals.{After-first_move}

pub loop-place-init : goal.loop-place-init
loop-place-init c =
    let own = ap length c.letters-letters.ensures.letters in
    later_none c.args.layers.now.table _ c.args.word.now (length c.letters-letters.result.now) (omega arith)

-- the place within the word, and what stands there
within : (c : After-first_move) → c.loop-place.place - 1 < length c.args.word.now
within c =
    let own = ap length c.letters-letters.ensures.letters in
    let low = c.loop-place.auto.place in
    let some = c.loop-place-test.true in
    omega arith

letter : (c : After-first_move) → c.from-floor.result ≡ get_or c.args.word.now (c.loop-place.place - 1) 0
letter c =
    let some = c.loop-place-test.true in
    let low = c.loop-place.auto.place in
    c.from-floor.ensures ∙ c.number.ensures
    ∙ get_or_read c.letters-letters.result.now (c.loop-place.place - 1) c.index-letters-place.result (omega arith) c.index-letters-place.is 0
    ∙ ap (λ letters. get_or letters (c.loop-place.place - 1) 0) c.letters-letters.ensures.letters

-- how many letters come after it
rest : (c : After-first_move) → length c.letters-letters.result.now - 1 - (c.loop-place.place - 1) ≡ length c.args.word.now - 1 - (c.loop-place.place - 1)
rest c = ap (λ (letters : List ℕ). length letters - 1 - (c.loop-place.place - 1)) c.letters-letters.ensures.letters

state : (c : After-first_move) → get_or c.args.states.now (c.loop-place.place - 1) 0
    ≡ state_after c.args.layers.now.table (take (c.loop-place.place - 1) c.args.word.now)
state c = c.requires.along.reached (c.loop-place.place - 1) 0 (let low = within c in let count = c.requires.count in omega arith)

-- no later text goes on from the place after it
later : (c : After-first_move) → NoneLater c.args.layers.now.table
    (state_after c.args.layers.now.table (take (c.loop-place.place - 1 + 1) c.args.word.now)) (drop (c.loop-place.place - 1 + 1) c.args.word.now)
later c =
    let some = c.loop-place-test.true in
    let same : c.loop-place.place ≡ c.loop-place.place - 1 + 1 = omega arith in
    let P : ℕ → Type 0 = λ place.
    NoneLater c.args.layers.now.table (state_after c.args.layers.now.table (take place c.args.word.now)) (drop place c.args.word.now) in
    subst P same c.loop-place.invariant

pub loop-place-preserved : goal.loop-place-preserved
loop-place-preserved c =
    let at = (goal.at.loop-place-preserved c).After-first_move in
    later_more c.args.layers.now.table c.args.word.now (c.loop-place.place - 1) _ c.from-floor.result
    (get_or c.args.states.now (c.loop-place.place - 1) 0) (within at) (rest at) (letter at) (state at) c.in_default.ensures.none (later at)

pub returns-in-Some-clause-some : goal.returns-in-Some-clause-some
returns-in-Some-clause-some c =
    let at = (goal.at.returns-in-Some-clause-some c).After-first_move in
    next_found c.args.layers.now.table c.args.word.now c.push.new.self c.in_ok-next.next (c.loop-place.place - 1) _ c.from-floor.result
    (get_or c.args.states.now (c.loop-place.place - 1) 0) c.in-Some.symbol c.in-Some.target (within at) (rest at) (letter at) (state at)
    c.in-Some.ensures.some (later at)
    (c.in_ok-push.ensures.ok ∙ ap (λ front. front ++ c.new.result ∷ []) (c.truncate.ensures ∙ ap (take (c.loop-place.place - 1)) c.in_ok-front.ensures)
    ∙ ap (λ symbol. take (c.loop-place.place - 1) c.args.word.now ++ symbol ∷ []) c.new.ensures)
    c.in_ok-next.ensures
