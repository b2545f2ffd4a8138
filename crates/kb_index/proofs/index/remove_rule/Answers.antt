use Rattle.std.proofs.Common.{List, ℕ, sym, ap, ◌∙◌}
use Rattle.std.specs.List.{remove}
use Rattle.kb_word.specs.Words.{Pair}
use Rattle.kb_index.specs.Lefts.{lefts_of}
use Rattle.kb_index.proofs.Sides.{sides_removed}
use Rattle.kb_index.proofs.index.remove_rule.Goals as goal

pub returns-clause-automaton : goal.returns-clause-automaton
returns-clause-automaton c =
    c.in_ok-remove.ensures.ok ∙ ap (λ (ls : List (List ℕ)). remove ls c.args.place) c.requires.automaton
    ∙ sym (sides_removed c.args.rules.now.rules c.args.place) ∙ ap (λ (rs : List Pair). lefts_of rs) (sym c.remove-rule.ensures.rules)
