use Rattle.std.proofs.Common.{◌≡◌, ◌+◌, ℕ, List, get_or, sym, ap, ◌∙◌, subst, arith}
use Rattle.std.proofs.lemmas.List.{get_or_default}
use Rattle.std.proofs.lemmas.Result.{IfOk-weaker}
use Rattle.kb_fsamin.specs.Partitions.{part_of}
use Rattle.kb_fsamin.specs.Splitting.{AreNumbered}
use Rattle.kb_fsamin.proofs.Numberings.{numbered_more, numbered_same}
use Rattle.kb_fsamin.proofs.splitting.by_symbol.Goals as goal

pub loop-symbol-preserved : goal.loop-symbol-preserved
loop-symbol-preserved c =
    let P : List ℕ → Type 0 = λ l. AreNumbered (λ k. get_or c.args.symbols.now k 0) (c.loop-symbol.symbol-index + 1) c.insert_full.new.self.keys l in
    subst P (sym c.in_ok-push.ensures.items)
    (numbered_more (λ k. get_or c.args.symbols.now k 0) c.loop-symbol.symbol-index c.loop-symbol.seen.keys c.insert_full.new.self.keys c.loop-symbol.numbers.items
    c.in_ok-number.number c.in_ok-number.ensures.keys c.in_ok-number.ensures.index c.loop-symbol.invariant)

pub new-requires-clause-known : goal.new-requires-clause-known
new-requires-clause-known c k d h =
    let all = c.loop-symbol.invariant in
    let at = all.place k (omega (arith, all.one_each)) in
    omega (arith, at.0, get_or_default c.loop-symbol.numbers.items k d 0 h, c.len.ensures.len)

pub returns-clause-same : goal.returns-clause-same
returns-clause-same c =
    IfOk-weaker c.new.result (λ cords. cords.of.items ≡ c.loop-symbol.numbers.items) _
    (λ cords is k other h i same.
    ap (λ l. part_of l k) is
    ∙ numbered_same (λ k. get_or c.args.symbols.now k 0) c.loop-symbol.symbol-index c.loop-symbol.seen.keys c.loop-symbol.numbers.items c.loop-symbol.invariant k other
    (omega arith) (omega arith) same
    ∙ ap (λ l. part_of l other) (sym is))
    c.new.ensures.of
