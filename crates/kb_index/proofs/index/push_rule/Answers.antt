use Rattle.std.proofs.Common.{◌≡◌, ◌-◌, List, length, sym, ap, ◌∙◌, arith}
use Rattle.std.proofs.lemmas.List.{length_push}
use Rattle.std.specs.List.{remove}
use Rattle.kb_word.specs.Words.{Pair}
use Rattle.kb_index.specs.Lefts.{lefts_of}
use Rattle.kb_index.proofs.Sides.{last_removed, left_some}
use Rattle.kb_index.proofs.index.push_rule.Goals as goal

pub push-requires-2 : goal.push-requires-2
push-requires-2 c none = left_some c.args.rules.now.order c.args.rule.now c.requires.falls (sym c.left.ensures ∙ none)

pub returns-in-Err-clause-err : goal.returns-in-Err-clause-err
returns-in-Err-clause-err c =
    let rules : List Pair = c.args.rules.now.rules in
    let last : length rules ≡ c.len.result - 1 =
    omega (arith, c.len.ensures, ap length c.in_ok-push.ensures.ok, length_push rules c.in_ok-copy.copy) in
    c.remove-rule.ensures.rules ∙ ap (λ (rs : List Pair). remove rs (c.len.result - 1)) c.in_ok-push.ensures.ok
    ∙ last_removed rules c.in_ok-copy.copy (c.len.result - 1) last

pub returns-in-Err-clause-automaton : goal.returns-in-Err-clause-automaton
returns-in-Err-clause-automaton c =
    c.in-Err.ensures.err ∙ c.requires.automaton ∙ ap (λ (rs : List Pair). lefts_of rs) (sym (returns-in-Err-clause-err c))
