use Rattle.std.proofs.Common.{List, sym, subst, ◌∙◌}
use Rattle.kb_word.specs.Words.{Pair}
use Rattle.kb_word.specs.Overlap.{IsConfluent}
use Rattle.kb_complete.proofs.Rounds.{continues_itself}
use Rattle.kb_complete.proofs.LastLines.{is_completed}
use Rattle.kb_complete.proofs.ending.completed.Goals as goal

pub reduced_complete-requires-clause-reducer : goal.reduced_complete-requires-clause-reducer
reduced_complete-requires-clause-reducer g c = sym c.list-rules.ensures.rules

pub reduced_complete-requires-clause-confluent : goal.reduced_complete-requires-clause-confluent
reduced_complete-requires-clause-confluent g c =
    subst (λ (r : List Pair). IsConfluent r) (sym (c.list-rules.ensures.rules ∙ c.reducer-reducer.ensures.rules)) c.requires.confluent

pub returns-clause-says : goal.returns-clause-says
returns-clause-says g c =
    let course = c.args.book.course in
    let rules = c.list-rules.ensures.rules ∙ c.reducer-reducer.ensures.rules in
    let order = c.list-rules.ensures.order ∙ c.reducer-reducer.ensures.order in (
      continues_itself course,
      is_completed c.reduced_by_the_same_congruence.ensures c.rules_that_cover_are_confluent.ensures.confluent
          c.rules_that_cover_are_confluent.ensures.same course c.list-rules.result.now c.in_ok-reduced.reduced c.book_is_sound.ensures c.requires.settled rules
          order
          (subst (λ (r : List Pair). IsConfluent r) (sym rules) c.requires.confluent)
          c.in_ok-reduced.ensures.order c.in_ok-reduced.ensures.reduced,
    )

pub returns-clause-known : goal.returns-clause-known
returns-clause-known g c = λ finder knows. knows
