use Rattle.std.proofs.Common.{◌≡◌, ℤ, List, ◌∷◌, Option, Some, None}
use Rattle.std.specs.Prelude.{IfSome, MatchOption}
use Rattle.kb_lexing.specs.Token.{Token, number}
use Rattle.kb_record.specs.Reading.{remaining, first_number}
use Rattle.kb_record.proofs.NumberLists.{number_first}
use Rattle.kb_record.proofs.numbers.passed_number.Goals as goal

found_of : (tokens rest : List Token) (result : Option ℤ) → MatchOption result ((first_number tokens ≡ None) × (rest ≡ tokens)) (λ z. first_number tokens ≡ Some (z, rest)) → IfSome result (λ z. tokens ≡ number z ∷ rest)
found_of tokens rest None h = tt
found_of tokens rest (Some z) h = number_first tokens rest z h

pub returns-clause-spelled : goal.returns-clause-spelled
returns-clause-spelled c = found_of (remaining c.args.tokens.now) (remaining c.take_number.new.self) c.take_number.result c.take_number.ensures.passes
