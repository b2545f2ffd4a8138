use Rattle.kb_word.specs.Relations.{IsOver}
use Rattle.kb_fsa.specs.Language.{generators}
use Rattle.kb_checks.proofs.batches.power.Given as goal

abbrev pub invariant-loop : goal.invariant-loop
invariant-loop l = IsOver (generators l.acceptor.alphabet) l.word
