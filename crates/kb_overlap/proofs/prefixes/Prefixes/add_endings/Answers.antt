use Rattle.std.proofs.Common.{ℕ, ◌-◌, ◌<◌, List, length, subst, arith}
use Rattle.kb_trie.specs.States.{word}
use Rattle.kb_index.specs.Lefts.{IsLongestLeft}
use Rattle.kb_overlap.specs.Ways.{Gains, HasLeft}
use Rattle.kb_overlap.proofs.Ended.{IsNextEnd, ending_first, ending_more, ending_all, next_shorter}
use Rattle.kb_overlap.proofs.prefixes.Prefixes.add_endings.Goals as goal

pub loop-place-init : goal.loop-place-init
loop-place-init c =
    let prefixes = c.args.self.now in
    let words : List (List ℕ) = prefixes.automaton.now.words in
    let end : ℕ = c.end_at-end.result in
    let P : List (List ℕ) → Type 0 = λ lefts. IsLongestLeft words lefts c.args.state end in
    ending_first prefixes.rules.now words c.args.index c.args.state c.args.read c.args.beyond end c.args.found.now.items
    (subst P c.requires.prefixes.is c.end_at-end.ensures)

pub loop-place-smaller : goal.loop-place-smaller
loop-place-smaller c =
    let prefixes = c.args.self.now in
    let words : List (List ℕ) = prefixes.automaton.now.words in
    let end : ℕ = c.loop-place.end in
    let next : ℕ = c.end_at-end-in-loop-place.result in
    let longer : c.args.beyond < length (word words end) = omega (arith, c.depth.ensures, c.loop-place-test.true) in
    let P : List (List ℕ) → Type 0 = λ lefts. IsLongestLeft words lefts c.link.result next in
    let is : IsNextEnd prefixes.rules.now words end next =
    record { link = c.link.result; is_link = c.link.ensures; is = subst P c.requires.prefixes.is c.end_at-end-in-loop-place.ensures } in
    next_shorter c.requires.prefixes.states end c.args.beyond next longer c.loop-place.invariant.within is

pub loop-place-preserved : goal.loop-place-preserved
loop-place-preserved c =
    let prefixes = c.args.self.now in
    let words : List (List ℕ) = prefixes.automaton.now.words in
    let end : ℕ = c.loop-place.end in
    let next : ℕ = c.end_at-end-in-loop-place.result in
    let longer : c.args.beyond < length (word words end) = omega (arith, c.depth.ensures, c.loop-place-test.true) in
    let P : List (List ℕ) → Type 0 = λ lefts. IsLongestLeft words lefts c.link.result next in
    let is : IsNextEnd prefixes.rules.now words end next =
    record { link = c.link.result; is_link = c.link.ensures; is = subst P c.requires.prefixes.is c.end_at-end-in-loop-place.ensures } in
    let Q : ℕ → Type 0 =
    λ long. Gains (HasLeft prefixes.rules.now c.args.index (word words end) (c.args.read - long)) c.loop-place.found.items c.add_at.new.found.items in
    ending_more c.requires.prefixes.states c.args.index c.args.state c.args.read c.args.beyond end next c.args.found.now.items
    c.loop-place.found.items c.add_at.new.found.items c.requires.read longer is c.loop-place.invariant
    (subst Q c.depth-in-loop-place.ensures c.in_ok-add_at.ensures)

pub returns : goal.returns
returns c =
    let prefixes = c.args.self.now in
    let words : List (List ℕ) = prefixes.automaton.now.words in
    let end : ℕ = c.loop-place.end in
    ending_all prefixes.rules.now words c.args.index c.args.state c.args.read c.args.beyond end c.args.found.now.items c.loop-place.found.items
    (omega (arith, c.depth.ensures, c.loop-place-test.false)) c.loop-place.invariant
