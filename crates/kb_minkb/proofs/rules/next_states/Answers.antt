use Rattle.std.proofs.Common.{◌≡◌, ℕ, [], ◌∷◌, ◌++◌, length, sym, ap, ◌∙◌, subst}
use Rattle.std.specs.Slice.Iter.{iter_rest}
use Rattle.std.specs.Iterator.Adapters.{zip_first, zip_second}
use Rattle.std.proofs.lemmas.List.{length_push}
use Rattle.std.proofs.lemmas.Slice.Zip.{zip_turn, zip_end}
use Rattle.kb_fsa.specs.Table.{step}
use Rattle.kb_minkb.specs.Progress.{first_states}
use Rattle.kb_minkb.proofs.Gathered.{next_states_more, all_next_states}
use Rattle.kb_minkb.proofs.rules.next_states.Goals as goal

pub loop-multiplier-preserved : goal.loop-multiplier-preserved
loop-multiplier-preserved c =
    let multipliers = c.args.multipliers.now in
    let states = c.args.states.now in
    let symbol : ℕ = c.args.symbol in
    let done = c.loop-multiplier.yielded in
    let first : iter_rest (zip_first c.into_iter-multiplier-iterator.result) ≡ multipliers = cc in
    let second : iter_rest (zip_second c.into_iter-multiplier-iterator.result) ≡ states = cc in
    let turn = zip_turn multipliers states done c.into_iter-multiplier-iterator.result c.loop-multiplier.multiplier-iterator c.next.new.self c.next.result
    first second c.loop-multiplier.yielded_by (c.in-Some.multiplier, c.in-Some.state) c.in-Some.is c.next.ensures.steps in
    let multiplier = c.in-Some.multiplier.now in
    let state : ℕ = c.in-Some.state.now in
    let next = c.loop-multiplier.next.items in
    let more : c.push.new.self.items ≡ next ++ step multiplier.table state symbol ∷ [] =
    c.in_ok-push.ensures.items ∙ ap (λ (s : ℕ). next ++ s ∷ []) c.guessed_step.ensures in
    subst (λ (many : ℕ). c.push.new.self.items ≡ first_states multipliers states symbol many)
    (sym (length_push done (c.in-Some.multiplier, c.in-Some.state)))
    (more ∙ ap (λ l. l ++ step multiplier.table state symbol ∷ []) c.loop-multiplier.invariant
    ∙ sym (next_states_more multipliers states symbol (length done) multiplier state turn.0 turn.1 (turn.2 multiplier) (turn.3 state)))

pub returns : goal.returns
returns c =
    let multipliers = c.args.multipliers.now in
    let states = c.args.states.now in
    let symbol : ℕ = c.args.symbol in
    let done = c.loop-multiplier.yielded in
    let first : iter_rest (zip_first c.into_iter-multiplier-iterator.result) ≡ multipliers = cc in
    let second : iter_rest (zip_second c.into_iter-multiplier-iterator.result) ≡ states = cc in
    let end = zip_end multipliers states done c.into_iter-multiplier-iterator.result c.loop-multiplier.multiplier-iterator c.next.new.self c.next.result
    first second c.loop-multiplier.yielded_by c.in-None.is c.next.ensures.steps in
    c.from_vec.ensures ∙ c.loop-multiplier.invariant ∙ all_next_states multipliers states symbol (length done) end
