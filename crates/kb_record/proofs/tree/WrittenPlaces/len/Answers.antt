use Rattle.std.proofs.Common.{◌≡◌, length, sym, ◌∙◌, rules}
use Rattle.std.proofs.lemmas.List.{length-map}
use Rattle.kb_record.specs.View.{place_from}
use Rattle.kb_record.proofs.tree.WrittenPlaces.len.Goals as goal

pub returns : goal.returns
returns c =
    let self = c.args.self.now in
    let count : length self.begins.items ≡ c.len.result = search rules in
    sym count ∙ sym (length-map self.begins.items (place_from self.text.now))
