use Rattle.std.proofs.Common.{refl, ap}
use Rattle.kb_trie.specs.States.{States}
use Rattle.kb_trie.proofs.Grown.{grows_none, grows_one, has_word_new}
use Rattle.kb_trie.proofs.automaton.Automaton.go_to.Goals as goal

pub returns-in-Some-clause-word : goal.returns-in-Some-clause-word
returns-in-Some-clause-word c = record { within = c.in-Some.ensures.some.within; is = c.in-Some.ensures.some.spelled }

pub returns-in-Some-clause-grows : goal.returns-in-Some-clause-grows
returns-in-Some-clause-grows c = grows_none _ _ _ refl refl

pub returns-clause-word : goal.returns-clause-word
returns-clause-word c = has_word_new _ _ _ _ c.in_ok-next.ensures.words c.in_ok-next.ensures.state

pub returns-clause-grows : goal.returns-clause-grows
returns-clause-grows c = grows_one _ _ _ c.in_ok-next.ensures.words c.in_ok-next.ensures.numbers

pub returns-in_err-next-clause-grows : goal.returns-in_err-next-clause-grows
returns-in_err-next-clause-grows c = grows_none _ _ _ (ap (λ (s : States). s.words) c.in_err-next.ensures.err) (ap (λ (s : States). s.numbers) c.in_err-next.ensures.err)
