use Rattle.std.proofs.Common.{◌≡◌, ◌+◌, ◌<◌, ◌≤◌, max, length, get_or, sym, ◌∙◌, rules}
use Rattle.kb_fsa.specs.Table.{step, after, is_accepting}
use Rattle.kb_fsa.specs.PairSymbols.{pair_symbol}
use Rattle.kb_fsa.specs.Padding.{padded}
use Rattle.kb_fsa.specs.Language.{generators}
use Rattle.kb_fsa.proofs.Lookups.{after-more, after-all}
use Rattle.kb_fsa.proofs.Paddings.{length-padded, drop-padded}
use Rattle.kb_fsa.proofs.fsa.Fsa.accepts_pair.Goals as goal

pub loop-place-preserved : goal.loop-place-preserved
loop-place-preserved c =
    let table = c.args.self.now.table in
    let n = generators c.args.self.now.alphabet in
    let u = c.args.u.now in
    let v = c.args.v.now in
    let place = c.loop-place.place in
    let within : place < max (length u) (length v) = search rules in
    let next : c.step-state.result ≡ step table c.loop-place.state (pair_symbol n (get_or u place (n + 1)) (get_or v place (n + 1))) = search rules in
    after-more table c.loop-place.state c.step-state.result _ place (padded n u v) (drop-padded n u v place within) next ∙ c.loop-place.invariant

pub returns : goal.returns
returns c =
    let table = c.args.self.now.table in
    let text = padded (generators c.args.self.now.alphabet) c.args.u.now c.args.v.now in
    let past : length text ≤ c.loop-place.place = search (rules, length-padded) in
    let last : c.loop-place.state ≡ after table table.initial text =
    sym (after-all table c.loop-place.state c.loop-place.place text past) ∙ c.loop-place.invariant in
    let is : c.is_accepting.result ≡ is_accepting table (after table table.initial text) = search rules in
    (λ yes. sym is ∙ yes, λ yes. is ∙ yes)
