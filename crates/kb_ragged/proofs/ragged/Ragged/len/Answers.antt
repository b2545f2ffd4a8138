use Rattle.std.proofs.Common.{rules, ◌≡◌, length, ap, ◌∙◌, sym}
use Rattle.kb_ragged.proofs.RaggedLemmas.{length-cut}
use Rattle.kb_ragged.proofs.ragged.Ragged.len.Goals as goal

pub returns : goal.returns
returns g c =
    let arrays = c.self.inside.arrays.value in
    let counted : c.len.result ≡ length arrays.ends.items = search rules in
    counted ∙ sym (length-cut 0 arrays.ends.items arrays.items.items) ∙ ap length c.self.view_is
