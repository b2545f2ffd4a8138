use Rattle.std.proofs.Common.{ℕ, List, sym, subst}
use Rattle.std.proofs.lemmas.Bool.{MatchBool-at_true}
use Rattle.std.proofs.lemmas.Option.{MatchOption-at_some, MatchOption-at_none}
use Rattle.kb_lexing.specs.Token.{Token}
use Rattle.kb_record.specs.Nesting.{deepest}
use Rattle.kb_record.specs.Reading.{remaining, read_value, IsRead}
use Rattle.kb_record.specs.View.{first_place_in}
use Rattle.kb_record.specs.Repeats.{HasFieldTwiceAt, IsFirstRepeatedAt}
use Rattle.kb_record.proofs.PlaceRepeats.{first_of_place, none_of_place}
use Rattle.kb_record.proofs.tree.PlaceText.repeated_name.Goals as goal

pub returns-in_default-2-clause-none : goal.returns-in_default-2-clause-none
returns-in_default-2-clause-none c = λ (q : List ℕ).
    let none = MatchOption-at_none _ _ c.in_default-2.is c.in_ok-name.ensures.none in
    subst (λ (ts : List Token). HasFieldTwiceAt (first_place_in ts) q → ⊥) c.new-tokens.ensures
    (none_of_place (remaining c.new-tokens.result) (remaining c.opens.new.tokens) c.in-Some.of_record c.in-Some.ensures.opened q none)

pub returns-then-branch-clause-some : goal.returns-then-branch-clause-some
returns-then-branch-clause-some c =
    let found = MatchOption-at_some _ _ c.in-Some-2.name c.in-Some-2.is c.in_ok-name.ensures.some in
    let read : IsRead (read_value deepest (remaining c.new-tokens.result)) =
    subst (λ (ts : List Token). IsRead (read_value deepest ts)) (sym c.new-tokens.ensures) (MatchBool-at_true _ _ c.if-branch.true c.in_ok-begins_with_value.ensures) in
    subst (λ (ts : List Token). IsFirstRepeatedAt (first_place_in ts) c.in-Some-2.name.now) c.new-tokens.ensures
    (first_of_place (remaining c.new-tokens.result) (remaining c.opens.new.tokens) c.in-Some.of_record c.in-Some.ensures.opened c.in-Some-2.name.now read found)
