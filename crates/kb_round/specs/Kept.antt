-- Word differences of a reduced complete system.
-- Epstein et al., Word Processing in Groups, 2.3 and chapter 6.
use Rattle.std.specs.Prelude.{◌≡◌, ℕ, List, [], Contains}
use Rattle.kb_word.specs.Words.{Pair, OneOf}
use Rattle.kb_word.specs.WordOrders.{Below}
use Rattle.kb_word.specs.Relations.{relations_of}
use Rattle.kb_word.specs.declared.presentation.Presentation.{Presentation}
use Rattle.kb_word.specs.declared.word_order.WordOrder.TheVariants.{ShortLex}
use Rattle.kb_diff.specs.Groups.{EachInverts, group_of}
use Rattle.kb_diff.specs.Differences.{HaveDifferences}
use Rattle.kb_reduced.specs.Reduced.{IsReducedComplete}

-- The rules are the reduced complete system of a group, and all differences of both sides of each rule are kept.
pub record KeepsReduced (presentation : Presentation) (rules : List Pair)
    (words : List (List ℕ)) : Type 0 where
  pub group : EachInverts presentation.n presentation.inv
  pub shortlex : presentation.order ≡ ShortLex
  pub reduced : IsReducedComplete (Below presentation.order)
      (relations_of presentation.inv presentation.eqs) rules
  pub empty : Contains words []
  pub kept : (rule : Pair) → OneOf rules rule
      → HaveDifferences (group_of presentation rules) words rule.0 rule.1
