use Rattle.std.proofs.Common.{◌+◌, ◌<◌, List, take, ℕ, ℤ, pos, length, get_or, refl, sym, subst, w64, SFits, rules, arith}
use Rattle.std.proofs.lemmas.Int.{to_z-of_z}
use Rattle.std.proofs.lemmas.List.{take_all, get_or_default}
use Rattle.std.proofs.lemmas.List.Elements.{Contains-get_or}
use Rattle.kb_fsafile.specs.Reading.{AreStates}
use Rattle.kb_fsafile.proofs.NumberLemmas.{states_more, whole_list}
use Rattle.kb_fsafile.proofs.accepting.listed_within.Goals as goal

pub returns-in_default-clause-fault : goal.returns-in_default-clause-fault
returns-in_default-clause-fault c =
    let numbers = c.args.numbers.now in
    let z = get_or numbers c.loop-number.number-index (pos 0) in
    let fits : SFits w64 (get_or c.args.numbers.now c.loop-number.number-index (pos 0)) = search rules in
    let none = simp to_z-of_z at c.in_default.ensures.none in
    let within : c.loop-number.number-index < length c.args.numbers.now = omega arith in
    (refl, z, (numbers, refl, Contains-get_or numbers c.loop-number.number-index (pos 0) within), none)

pub loop-number-preserved : goal.loop-number-preserved
loop-number-preserved c =
    let numbers = c.args.numbers.now in
    let z = get_or numbers c.loop-number.number-index (pos 0) in
    let fits : SFits w64 (get_or c.args.numbers.now c.loop-number.number-index (pos 0)) = search rules in
    let is = simp to_z-of_z at c.in-Some.ensures.is in
    let within : c.loop-number.number-index < length c.args.numbers.now = omega arith in
    let P : List ℕ → Type 0 = λ states. AreStates c.args.count (take (c.loop-number.number-index + 1) c.args.numbers.now) states in
    subst P (sym c.in_ok-push.ensures.items)
    (states_more c.args.count numbers c.loop-number.number-index z c.loop-number.states.items c.in-Some.state within (get_or_default numbers c.loop-number.number-index (pos 0) z within)
    c.loop-number.invariant is c.in-Some.ensures.positive c.in-Some.ensures.within)

pub returns-clause-read : goal.returns-clause-read
returns-clause-read c =
    let P : List ℤ → Type 0 = λ ns. AreStates c.args.count ns c.loop-number.states.items in
    whole_list c.args.count c.args.numbers.now c.loop-number.states (subst P (take_all c.loop-number.number-index c.args.numbers.now (omega arith)) c.loop-number.invariant)
