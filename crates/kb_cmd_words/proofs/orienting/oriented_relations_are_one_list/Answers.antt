use Rattle.std.proofs.Common.{[]}
use Rattle.kb_word.specs.WordOrderLaws.{word_orders}
use Rattle.kb_cmd_words.specs.OrientationLaws.{one_orienting}
use Rattle.kb_cmd_words.proofs.orienting.oriented_relations_are_one_list.Goals as goal

pub returns : goal.returns
returns c order = one_orienting (word_orders order) []
