use Rattle.std.proofs.Common.{◌≡◌, ◌∷◌, ◌++◌, [], nat_eq, false, sym, ap, ◌∙◌}
use Rattle.std.specs.Prelude.{codes, Ok, Err}
use Rattle.std.specs.Cmp.Lexicographic.{pointwise}
use Rattle.kb_record.specs.Meaning.{unknown_generator}
use Rattle.kb_record.proofs.WordMeanings.{letter_found, letter_unknown, name_known, name_unknown}
use Rattle.kb_record.proofs.meaning.name_of.Goals as goal

pub returns-in_default : goal.returns-in_default
returns-in_default c =
    let text = c.args.name.now in
    let other : pointwise nat_eq text (codes "IdWord") ≡ false = sym c.eq.ensures ∙ c.if-eq.false in
    name_unknown _ text other (letter_unknown _ text c.in_default.ensures.none) ∙ ap (λ x. Err (unknown_generator x)) (sym c.in_ok-name.ensures)

pub returns : goal.returns
returns c =
    let text = c.args.name.now in
    let other : pointwise nat_eq text (codes "IdWord") ≡ false = sym c.eq.ensures ∙ c.if-eq.false in
    name_known _ text _ other (letter_found _ text _ c.in-Some.ensures.found c.in-Some.ensures.first) ∙ ap Ok (sym (c.in_ok-push.ensures.ok ∙ ap (λ w. w ++ c.in-Some.letter ∷ []) c.new-word.ensures))
