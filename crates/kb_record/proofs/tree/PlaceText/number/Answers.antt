use Rattle.std.proofs.Common.{◌≡◌, ℤ, List, Option, Some, None, subst}
use Rattle.std.specs.Prelude.{IfSome, IfNone, MatchOption}
use Rattle.kb_lexing.specs.Token.{Token}
use Rattle.kb_record.specs.Tree.{number_value}
use Rattle.kb_record.specs.Reading.{remaining, first_number}
use Rattle.kb_record.specs.View.{first_place_in}
use Rattle.kb_record.proofs.PlaceTexts.{first_number_is, no_first_number}
use Rattle.kb_record.proofs.tree.PlaceText.number.Goals as goal

abbrev Takes : List Token → List Token → Option ℤ → Type 0
Takes tokens rest result = MatchOption result ((first_number tokens ≡ None) × (rest ≡ tokens)) (λ z. first_number tokens ≡ Some (z, rest))

found_of : (tokens rest : List Token) (result : Option ℤ) → Takes tokens rest result → IfSome result (λ z. first_place_in tokens ≡ Some (number_value z))
found_of tokens rest None h = tt
found_of tokens rest (Some z) h = first_number_is tokens rest z h

none_of : (tokens rest : List Token) (result : Option ℤ) → Takes tokens rest result → IfNone result ((z : ℤ) → first_place_in tokens ≡ Some (number_value z) → ⊥)
none_of tokens rest None h = λ z. no_first_number tokens z h.0
none_of tokens rest (Some z) h = tt

pub returns-clause-found : goal.returns-clause-found
returns-clause-found c =
    let P : List Token → Type 0 = λ tokens. IfSome c.take_number.result (λ z. first_place_in tokens ≡ Some (number_value z)) in
    subst P c.new-tokens.ensures (found_of (remaining c.new-tokens.result) (remaining c.take_number.new.self) c.take_number.result c.take_number.ensures.passes)

pub returns-clause-none : goal.returns-clause-none
returns-clause-none c =
    let P : List Token → Type 0 = λ tokens. IfNone c.take_number.result ((z : ℤ) → first_place_in tokens ≡ Some (number_value z) → ⊥) in
    subst P c.new-tokens.ensures (none_of (remaining c.new-tokens.result) (remaining c.take_number.new.self) c.take_number.result c.take_number.ensures.passes)
