use Rattle.std.proofs.Common.{◌≡◌, ◌≤◌, ◌<◌, ℕ, List, fold, length, get_or, sym, ◌∙◌, ap, arith}
use Rattle.std.proofs.lemmas.List.{get_or-map, take_all}
use Rattle.kb_word.specs.Words.{Pair}
use Rattle.kb_publish.specs.LiveLines.{NumberedRule}
use Rattle.kb_publish.specs.declared.change.Change.{Change}
use Rattle.kb_publish.specs.Editions.{changed, lines_by}
use Rattle.kb_publish.proofs.Changing.{live_more}
use Rattle.kb_publish.proofs.changes.add_live.Goals as goal

pub loop-place-preserved : goal.loop-place-preserved
loop-place-preserved g c =
    let live = c.args.live.now in
    let rules = c.args.rules.now in
    let place = c.loop-place.place in
    let line = c.new.result in
    let within : place < length live = c.loop-place-test.true in
    let number : line.number ≡ get_or live place 0 = ap (λ (l : NumberedRule). l.number) c.new.ensures in
    let own = c.index-rules-place.result in
    let copied : line.rule ≡ own = ap (λ (l : NumberedRule). l.rule) c.new.ensures ∙ c.in_ok-rule.ensures in (
      omega (arith, within),
      λ start version rule same before.
          let read : own ≡ rule (get_or live place 0) =
          c.index-rules-place.is ∙ ap (λ (r : List Pair). get_or r place own) same ∙ get_or-map rule live place 0 own within in
          let is_rule : line.rule ≡ rule line.number = copied ∙ read ∙ ap rule (sym number) in
          ap (λ (l : List (Change g.row.N.Denot)). fold changed start l) c.in_ok-push.ensures.items
          ∙ live_more start c.loop-place.changes.items rule version live place line within number is_rule
          (c.loop-place.invariant.1 start version rule same before),
    )

pub returns : goal.returns
returns g c = λ start version rule same before.
    let live = c.args.live.now in
    let all : length live ≤ c.loop-place.place = omega (arith, c.loop-place-test.false) in
    c.loop-place.invariant.1 start version rule same before
    ∙ ap (λ (l : List ℕ). lines_by rule version l) (take_all c.loop-place.place live all)
