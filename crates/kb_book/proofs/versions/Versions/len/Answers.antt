use Rattle.std.proofs.Common.{sym, ap, ◌∙◌, length}
use Rattle.std.proofs.lemmas.List.FromFn.{length-map-range_with_len}
use Rattle.kb_book.specs.Lives.{VersionsParts, numbers_from}
use Rattle.kb_book.proofs.versions.Versions.len.Goals as goal

pub returns : goal.returns
returns c =
    sym (length-map-range_with_len (numbers_from 1 c.self.inside.lives.items) 0 c.self.inside.count)
    ∙ ap (λ (v : VersionsParts). length v.published) c.self.view_is
