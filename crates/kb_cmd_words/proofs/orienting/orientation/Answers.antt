use Rattle.std.proofs.Common.{inl, inr}
use Rattle.kb_word.specs.WordOrderLaws.{word_orders}
use Rattle.kb_cmd_words.proofs.ValueLemmas.{never}
use Rattle.kb_cmd_words.proofs.orienting.orientation.Goals as goal

-- two words of which neither is less are equal
pub returns-else-less-2-clause-none : goal.returns-else-less-2-clause-none
returns-else-less-2-clause-none c _ = elim ((word_orders c.args.order.now).total c.args.left c.args.right) [
  | inl same ↦ same
  | inr (inl less) ↦ absurd (never (c.if-less-2.ensures.1 less))
  | inr (inr less) ↦ absurd (never (c.if-less.ensures.1 less))
]
