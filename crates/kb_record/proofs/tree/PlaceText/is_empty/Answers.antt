use Rattle.std.proofs.Common.{◌≡◌, ◌≢◌, List, Bool, true, false, None, sym, subst}
use Rattle.std.specs.Bool.{MatchBool}
use Rattle.kb_lexing.specs.Token.{Token}
use Rattle.kb_record.specs.Reading.{remaining, ends_place}
use Rattle.kb_record.specs.View.{first_place_in}
use Rattle.kb_record.proofs.PlaceTexts.{place_ended, place_full}
use Rattle.kb_record.proofs.tree.PlaceText.is_empty.Goals as goal

ended_or_full : (tokens : List Token) (ended : Bool) → ended ≡ ends_place tokens → MatchBool ended (first_place_in tokens ≡ None) (first_place_in tokens ≢ None)
ended_or_full tokens true e = place_ended tokens (sym e)
ended_or_full tokens false e = λ none. (let full = place_full tokens (sym e) in cc)

pub returns : goal.returns
returns c =
    let P : List Token → Type 0 = λ tokens. MatchBool c.ends_place.result (first_place_in tokens ≡ None) (first_place_in tokens ≢ None) in
    subst P c.new-tokens.ensures (ended_or_full (remaining c.new-tokens.result) c.ends_place.result c.ends_place.ensures)
