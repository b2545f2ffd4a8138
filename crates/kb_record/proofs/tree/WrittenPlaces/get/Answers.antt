use Rattle.std.proofs.Common.{◌≡◌, ◌<◌, length, option_map, Some, refl, sym, ap, ◌∙◌, arith, slice_get}
use Rattle.std.proofs.lemmas.List.{length-map}
use Rattle.std.proofs.lemmas.Option.{slice_get-map, slice_get_read}
use Rattle.kb_lexing.proofs.FrontTokens.{tokens_of}
use Rattle.kb_record.specs.View.{place_from, first_place_in}
use Rattle.kb_record.proofs.tree.WrittenPlaces.get.Goals as goal

pub index-requires : goal.index-requires
index-requires c =
    let self = c.args.self.now in
    let n = length-map self.begins.items (place_from self.text.now) in
    omega (arith, n, c.requires, self.begins.ok)

pub returns : goal.returns
returns c =
    let self = c.args.self.now in
    let n = length-map self.begins.items (place_from self.text.now) in
    let few : c.args.place < length self.begins.items = omega (arith, n, c.requires) in
    let found : slice_get self.begins.items c.args.place ≡ Some c.index.result.now = slice_get_read self.begins.items (length self.begins.items) c.args.place _ refl few c.index.ensures in
    slice_get-map (place_from self.text.now) self.begins.items c.args.place ∙ ap (option_map (place_from self.text.now)) found
    ∙ ap (λ text. Some (first_place_in (tokens_of text))) (sym c.text_from.ensures)
