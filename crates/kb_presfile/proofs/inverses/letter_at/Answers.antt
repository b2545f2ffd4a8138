use Rattle.std.proofs.Common.{◌≡◌, ℕ, List, None, Some, refl, sym, ap, subst, ◌∙◌}
use Rattle.kb_record.specs.Meaning.{letter_from}
use Rattle.kb_record.proofs.WordMeanings.{letter_found, letter_unknown}
use Rattle.kb_presfile.proofs.InverseLemmas.{same_text}
use Rattle.kb_presfile.proofs.inverses.letter_at.Goals as goal

pub returns-in-Some-number_of-clause-some : goal.returns-in-Some-number_of-clause-some
returns-in-Some-number_of-clause-some c = λ name at.
    let found = letter_found c.args.names.now c.in-Some.name.now c.in-Some-number_of.letter c.in-Some-number_of.ensures.found c.in-Some-number_of.ensures.first in
    let same : c.in-Some.name.now ≡ name = same_text (c.in-Some.ensures ∙ at) in
    (refl, let P : List ℕ → Type 0 = λ text. letter_from 1 c.args.names.now text ≡ Some c.in-Some-number_of.letter in subst P same found)

pub returns-in_ok-from_str-in-None-clause-fault : goal.returns-in_ok-from_str-in-None-clause-fault
returns-in_ok-from_str-in-None-clause-fault c =
    let missed = letter_unknown c.args.names.now c.in-Some.name.now c.in-None.ensures.none in
    let copied = c.in_ok-from_str-in-None.ensures in
    let P : List ℕ → Type 0 = λ text. letter_from 1 c.args.names.now text ≡ None in
    record { name = c.in_ok-from_str-in-None.field-0; refused = refl; stands = sym c.in-Some.ensures ∙ ap Some (sym copied); unknown = subst P (sym copied) missed }
