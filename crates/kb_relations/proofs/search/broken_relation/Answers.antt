use Rattle.std.proofs.Common.{ℕ, IfSome, Option, Some, length, ap, ◌∙◌, subst}
use Rattle.kb_draw.specs.First.{IsFirstFound}
use Rattle.kb_relations.specs.declared.stop.Stop.{Stop}
use Rattle.kb_relations.specs.declared.stop.Stop.TheVariants.{LedApart}
use Rattle.kb_relations.specs.Stops.{GoesOnAt, StopsAt}
use Rattle.kb_relations.proofs.Searching.{accepted_word, alike_before, all_alike, apart_here, first_broken, first_counted, sides_over, stops_within}
use Rattle.kb_relations.proofs.search.broken_relation.Goals as goal
use Rattle.kb_relations.proofs.search.broken_relation.Goals.{In-Some-LedApart}

-- what is found where the sides of a relation lead apart
found_apart : (g : _) (c : In-Some-LedApart g) → IsFirstFound (length c.args.relations.now)
    (StopsAt c.args.relations.now c.args.acceptor.now c.args.multipliers.now c.args.limit)
    (GoesOnAt c.args.relations.now c.args.acceptor.now c.args.multipliers.now c.args.limit)
    (LedApart c.in-Some-LedApart.index c.in-Some-LedApart.word)
found_apart g c =
    let relations = c.args.relations.now in let acceptor = c.args.acceptor.now in let multipliers = c.args.multipliers.now in
    let P : Option Stop → Type 0 = λ found. IfSome found (IsFirstFound (length relations) (StopsAt relations acceptor multipliers c.args.limit)
    (GoesOnAt relations acceptor multipliers c.args.limit)) in
    subst P (c.in-Some-LedApart.is ∙ ap Some c.in-Some-LedApart.field-0-is) c.in_ok-first_found.ensures.found

pub both_ends-requires-clause-left : goal.both_ends-requires-clause-left
both_ends-requires-clause-left g c =
    let relations = c.args.relations.now in let acceptor = c.args.acceptor.now in let multipliers = c.args.multipliers.now in
    let limit : ℕ = c.args.limit in
    let index : ℕ = c.in-Some-LedApart.index in let word = c.in-Some-LedApart.word in
    let found = found_apart g (goal.at.both_ends-requires-clause-left g c).In-Some-LedApart in
    let relation = c.index-relations-index.result in let is = c.index-relations-index.is in
    let within = stops_within relations acceptor multipliers limit found.place index word found.has in
    let sides = sides_over relations acceptor multipliers limit index relation within is c.requires.relations in sides.0

pub both_ends-requires-clause-right : goal.both_ends-requires-clause-right
both_ends-requires-clause-right g c =
    let relations = c.args.relations.now in let acceptor = c.args.acceptor.now in let multipliers = c.args.multipliers.now in
    let limit : ℕ = c.args.limit in
    let index : ℕ = c.in-Some-LedApart.index in let word = c.in-Some-LedApart.word in
    let found = found_apart g (goal.at.both_ends-requires-clause-right g c).In-Some-LedApart in
    let relation = c.index-relations-index.result in let is = c.index-relations-index.is in
    let within = stops_within relations acceptor multipliers limit found.place index word found.has in
    let sides = sides_over relations acceptor multipliers limit index relation within is c.requires.relations in sides.1

pub both_ends-requires-clause-word : goal.both_ends-requires-clause-word
both_ends-requires-clause-word g c =
    let relations = c.args.relations.now in let acceptor = c.args.acceptor.now in let multipliers = c.args.multipliers.now in
    let limit : ℕ = c.args.limit in
    let index : ℕ = c.in-Some-LedApart.index in let word = c.in-Some-LedApart.word in
    let found = found_apart g (goal.at.both_ends-requires-clause-word g c).In-Some-LedApart in
    let relation = c.index-relations-index.result in let is = c.index-relations-index.is in
    let within = stops_within relations acceptor multipliers limit found.place index word found.has in
    let apart = apart_here relations acceptor multipliers limit index relation within is found.place word found.has in
    accepted_word relations acceptor multipliers limit index relation within is c.requires.automata c.requires.relations word
    (apart.apart c.requires.automata)

pub returns-in-None : goal.returns-in-None
returns-in-None g c =
    let relations = c.args.relations.now in
    all_alike relations c.args.acceptor.now c.args.multipliers.now c.args.limit c.requires.automata (length relations)
    (rw c.in-None.is at c.in_ok-first_found.ensures.none)

pub returns-in-Some-TooManyStates : goal.returns-in-Some-TooManyStates
returns-in-Some-TooManyStates g c =
    let relations = c.args.relations.now in let acceptor = c.args.acceptor.now in let multipliers = c.args.multipliers.now in
    let P : Option Stop → Type 0 = λ found. IfSome found (IsFirstFound (length relations) (StopsAt relations acceptor multipliers c.args.limit)
    (GoesOnAt relations acceptor multipliers c.args.limit)) in
    let found = subst P (c.in-Some-TooManyStates.is ∙ ap Some c.in-Some-TooManyStates.field-0-is) c.in_ok-first_found.ensures.found in
    first_counted relations acceptor multipliers c.args.limit c.requires.automata found.place c.in-Some-TooManyStates.index found.earlier found.has

pub returns-in_ok-left-in-Some-LedApart : goal.returns-in_ok-left-in-Some-LedApart
returns-in_ok-left-in-Some-LedApart g c =
    let relations = c.args.relations.now in let acceptor = c.args.acceptor.now in let multipliers = c.args.multipliers.now in
    let limit : ℕ = c.args.limit in
    let index : ℕ = c.in-Some-LedApart.index in let word = c.in-Some-LedApart.word in
    let found = found_apart g (goal.at.returns-in_ok-left-in-Some-LedApart g c).In-Some-LedApart in
    let relation = c.index-relations-index.result in let is = c.index-relations-index.is in
    let within = stops_within relations acceptor multipliers limit found.place index word found.has in
    let apart = apart_here relations acceptor multipliers limit index relation within is found.place word found.has in
    let ends = c.in_ok-left-in-Some-LedApart in
    first_broken relations acceptor multipliers limit index relation within is c.requires.automata c.requires.relations word
    (apart.apart c.requires.automata) ends.left ends.right ends.ensures.left ends.ensures.right
    (alike_before relations acceptor multipliers limit c.requires.automata found.place index word found.earlier found.has) apart.few
