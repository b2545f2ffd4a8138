use Rattle.std.proofs.Common.{◌≡◌, ℕ, ◌+◌, List, get_or, length, max, take, sym, ap, ◌∙◌}
use Rattle.std.proofs.lemmas.List.{get_or_default, take_all}
use Rattle.std.proofs.lemmas.List.Sums.{fold_more}
use Rattle.kb_fsa.specs.Language.{Automaton}
use Rattle.kb_round.specs.Figures.{largest_of, states_of}
use Rattle.kb_round.proofs.making.largest.Goals as goal

pub returns : goal.returns
returns c =
    c.loop-fsa.invariant ∙ ap largest_of (take_all c.loop-fsa.fsa-index c.args.automata.now c.loop-fsa-test.false)
