use Rattle.std.proofs.Common.{sym, ap, ◌∙◌}
use Rattle.kb_lexing.proofs.FrontTokens.{tokens_of}
use Rattle.kb_record.specs.View.{first_place_in}
use Rattle.kb_record.proofs.cursor.Cursor.place.Goals as goal

pub returns : goal.returns
returns c =
    let next = c.args.self.now.next in
    ap (λ text. first_place_in (tokens_of text)) next.ends ∙ ap first_place_in (sym next.first)
