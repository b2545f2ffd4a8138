use Rattle.std.proofs.Common.{◌≡◌, length, Some, ◌∙◌, ap, arith}
use Rattle.kb_record.specs.Tree.{word_value}
use Rattle.kb_record.specs.View.{value_view, word_view}
use Rattle.kb_record.specs.Listed.{listed}
use Rattle.kb_fields.proofs.PlaceLemmas.{two_listed}
use Rattle.kb_presfile.proofs.values.two_words.Goals as goal

pub returns-clause-found : goal.returns-clause-found
returns-clause-found c =
    let list = c.in_ok-place_count.ensures.list in
    let two : length (listed (value_view c.args.value.now)) ≡ 2 = omega (arith, list.1) in
    two_listed (value_view c.args.value.now) (word_value (word_view c.in_ok-word_at.field-0)) (word_value (word_view c.in_ok-word_at-2.field-0)) list.0 two
    (c.place.ensures ∙ ap Some c.in_ok-word_at.ensures.found) (c.place-2.ensures ∙ ap Some c.in_ok-word_at-2.ensures.found)
