use Rattle.std.proofs.Common.{◌≤◌, ◌<◌, ◌+◌, ◌-◌, ◌/◌, length, get_or, rules}
use Rattle.kb_fsa.proofs.PairSymbolLaws.{first_within}
use Rattle.kb_fsa.proofs.Unpadding.{symbol_at, pair_gathered}
use Rattle.kb_fsa.proofs.texts.pair_of.Goals as goal

pub push_letter-requires : goal.push_letter-requires
push_letter-requires c =
    let is = symbol_at c.args.n c.args.text.now c.loop-symbol.symbol-index c.requires.padded (search rules) in
    let n = c.args.n in
    let most : n ≤ 65534 = c.requires.generators in
    let below : (get_or c.args.text.now c.loop-symbol.symbol-index 0 - 1) / (n + 1) < n + 1 = first_within n _ is in
    search (rules, below, most)

pub returns : goal.returns
returns c =
    let past : length c.args.text.now ≤ c.loop-symbol.symbol-index = search rules in
    pair_gathered c.args.n c.args.text.now c.loop-symbol.first c.loop-symbol.second c.loop-symbol.symbol-index c.requires.padded past
    (search rules) (search rules)
