use Rattle.std.proofs.Common.{◌≡◌, ◌++◌, drop}
use Rattle.kb_fsa.specs.Padding.{first_letters, second_letters}
use Rattle.kb_fsa.proofs.texts.pair_of.Given as goal

abbrev pub invariant-loop-symbol : goal.invariant-loop-symbol
invariant-loop-symbol l =
    (l.first ++ first_letters l.n (drop l.symbol-index l.text) ≡ first_letters l.n l.text)
    × (l.second ++ second_letters l.n (drop l.symbol-index l.text) ≡ second_letters l.n l.text)
