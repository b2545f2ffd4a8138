use Rattle.std.proofs.Common.{◌≡◌, ℕ, map, ap, ◌∙◌, rules}
use Rattle.std.specs.Map.Iter.{deref_pair}
use Rattle.std.proofs.lemmas.Map.Iter.{iter_end}
use Rattle.kb_fsafile.specs.RowsRead.{moves_among}
use Rattle.kb_fsafile.proofs.RowLemmas.{ascends_ordered, some_is}
use Rattle.kb_fsafile.proofs.rows.row_of.Goals as goal

pub returns-clause-moves : goal.returns-clause-moves
returns-clause-moves c =
    let whole : map (deref_pair {K = ℕ} {X = ℕ}) c.loop-symbol.yielded ≡ c.args.entries.now.entries = search (rules, iter_end) in
    c.loop-symbol.invariant ∙ ap moves_among whole

pub returns-clause-ordered : goal.returns-clause-ordered
returns-clause-ordered c = ascends_ordered c.args.entries.now.entries c.into_iter-symbol-iterator.ensures.into_iter_gives.5
