use Rattle.kb_wordreader.proofs.NameLemmas.{ok_from, ascii_utf8}
use Rattle.kb_wordreader.proofs.product.text_of.Goals as goal

pub unwrap-requires : goal.unwrap-requires
unwrap-requires c = ok_from _ _ _ _ c.from_utf8.ensures.cases (ascii_utf8 c.args.bytes.now c.requires)
