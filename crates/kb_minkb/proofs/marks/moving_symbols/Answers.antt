use Rattle.std.proofs.Common.{◌≡◌, ℕ, length, sym, subst}
use Rattle.std.specs.Slice.Iter.{iter_rest}
use Rattle.std.specs.Iterator.Adapters.{zip_first, zip_second}
use Rattle.std.proofs.lemmas.List.{length_push}
use Rattle.std.proofs.lemmas.Slice.Zip.{zip_turn, zip_end}
use Rattle.kb_minkb.specs.Marks.{AreFirstMarked}
use Rattle.kb_minkb.proofs.MarkLemmas.{no_automaton_marked, one_automaton_marked, all_automata_marked}
use Rattle.kb_minkb.proofs.marks.moving_symbols.Goals as goal

pub loop-multiplier-init : goal.loop-multiplier-init
loop-multiplier-init c = no_automaton_marked c.args.multipliers.now c.args.states.now c.in_ok-marks.marks.items

pub loop-multiplier-preserved : goal.loop-multiplier-preserved
loop-multiplier-preserved c =
    let multipliers = c.args.multipliers.now in
    let states = c.args.states.now in
    let done = c.loop-multiplier.yielded in
    let first : iter_rest (zip_first c.into_iter-multiplier-iterator.result) ≡ multipliers = cc in
    let second : iter_rest (zip_second c.into_iter-multiplier-iterator.result) ≡ states = cc in
    let turn = zip_turn multipliers states done c.into_iter-multiplier-iterator.result c.loop-multiplier.multiplier-iterator c.next.new.self c.next.result
    first second c.loop-multiplier.yielded_by (c.in-Some.multiplier, c.in-Some.state) c.in-Some.is c.next.ensures.steps in
    let multiplier = c.in-Some.multiplier.now in
    let state : ℕ = c.in-Some.state.now in
    let after = c.mark_moves.new.marks.items in
    subst (λ (many : ℕ). AreFirstMarked multipliers states many after)
    (sym (length_push done (c.in-Some.multiplier, c.in-Some.state)))
    (one_automaton_marked multipliers states (length done) multiplier state turn.0 turn.1 (turn.2 multiplier) (turn.3 state)
    c.loop-multiplier.marks.items after c.loop-multiplier.invariant c.mark_moves.ensures)

pub returns : goal.returns
returns c =
    let multipliers = c.args.multipliers.now in
    let states = c.args.states.now in
    let done = c.loop-multiplier.yielded in
    let first : iter_rest (zip_first c.into_iter-multiplier-iterator.result) ≡ multipliers = cc in
    let second : iter_rest (zip_second c.into_iter-multiplier-iterator.result) ≡ states = cc in
    let end = zip_end multipliers states done c.into_iter-multiplier-iterator.result c.loop-multiplier.multiplier-iterator c.next.new.self c.next.result
    first second c.loop-multiplier.yielded_by c.in-None.is c.next.ensures.steps in
    all_automata_marked multipliers states (length done) c.loop-multiplier.marks.items end c.loop-multiplier.invariant
