use Rattle.std.proofs.Common.{map, sym, ap, ◌∙◌, subst, arith}
use Rattle.std.proofs.lemmas.List.{take_all}
use Rattle.kb_fsa.specs.Table.{IsRow}
use Rattle.kb_compose.specs.Along.{twice}
use Rattle.kb_compose.proofs.Identities.{row_twice}
use Rattle.kb_compose.proofs.identity.row_of_pairs.Goals as goal

pub returns-clause-row : goal.returns-clause-row
returns-clause-row c =
    let n = c.args.symbols.n in
    let row = c.args.row.now in
    let all = take_all c.loop-letter.letter-index row (omega (arith, c.loop-letter-test.false)) in
    subst IsRow (sym (c.loop-letter.invariant ∙ ap (map (twice n)) all)) (row_twice n row c.requires.row c.requires.letters)
