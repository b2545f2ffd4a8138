use Rattle.kb_diffwa.proofs.LetterMoves.{AreMovesTo}
use Rattle.kb_diffwa.proofs.rival_sets.RivalSetsMachine.moves.Given as goal

abbrev pub invariant-loop-index : goal.invariant-loop-index
invariant-loop-index l = AreMovesTo l.self.n l.self.differences l.self.letters.items l.set l.index l.moves.items
