use Rattle.std.proofs.Common.{◌≡◌, drop}
use Rattle.kb_word.specs.Relations.{inverse_word}
use Rattle.kb_word.proofs.InverseLemmas.{inverted}
use Rattle.kb_word.proofs.presentation.Presentation.inverse_of.Given as goal

abbrev pub invariant-loop-letter : goal.invariant-loop-letter
invariant-loop-letter l =
    inverted (inverse_word l.self.inv (drop l.letter-index l.word)) l.inverse ≡ inverse_word l.self.inv l.word
