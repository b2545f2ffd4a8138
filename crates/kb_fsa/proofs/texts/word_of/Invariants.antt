use Rattle.std.proofs.Common.{◌≡◌, take}
use Rattle.kb_fsa.proofs.texts.word_of.Given as goal

abbrev pub invariant-loop-symbol : goal.invariant-loop-symbol
invariant-loop-symbol l = l.word ≡ take l.symbol-index l.text
