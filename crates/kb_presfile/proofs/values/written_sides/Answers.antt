use Rattle.std.proofs.Common.{◌≡◌, Some, sym, ap, ◌∙◌, option_map}
use Rattle.std.proofs.lemmas.Option.{IfSome_then, same_Some}
use Rattle.kb_record.specs.View.{value_view, written_place}
use Rattle.kb_fields.proofs.Outcomes.{IfNone_then}
use Rattle.kb_presfile.proofs.values.written_sides.Goals as goal

pub returns-in-Some-clause-found : goal.returns-in-Some-clause-found
returns-in-Some-clause-found c =
    let seen : written_place c.args.text ≡ Some (value_view c.in-Some.value) = sym c.in_ok-value.ensures ∙ ap (option_map value_view) c.in-Some.is in
    IfSome_then c.two_words.result c.two_words.ensures.found (λ sides is. seen ∙ ap Some is)

pub returns-in-Some-clause-none : goal.returns-in-Some-clause-none
returns-in-Some-clause-none c =
    let seen : written_place c.args.text ≡ Some (value_view c.in-Some.value) = sym c.in_ok-value.ensures ∙ ap (option_map value_view) c.in-Some.is in
    IfNone_then c.two_words.result c.two_words.ensures.none (λ none sides is. none sides (same_Some _ _ (sym seen ∙ is)))
