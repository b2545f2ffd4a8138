use Rattle.kb_word.specs.WordOrderLaws.{word_orders}
use Rattle.kb_overlap.proofs.Criterion.{primes_suffice}
use Rattle.kb_overlap.proofs.laws.composite_overlaps_need_no_look.Goals as goal

pub returns : goal.returns
returns c order rules decreasing joined = primes_suffice (word_orders order) rules decreasing joined
