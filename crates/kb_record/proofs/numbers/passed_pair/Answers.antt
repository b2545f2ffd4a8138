use Rattle.std.proofs.Common.{◌≡◌, ℤ, List, ◌∷◌, ◌++◌, Some, sym, ap, ◌∙◌, arith, rules, to_z-of_z, w64, SFits}
use Rattle.kb_lexing.specs.Token.{Token, number, open_square, close_square, comma}
use Rattle.kb_record.specs.Lists.{entry_place}
use Rattle.kb_record.specs.Numbers.{tokens_at}
use Rattle.kb_record.specs.Reading.{remaining, behind}
use Rattle.kb_record.specs.declared.cursor.Mark.TheVariants.{OpenSquare, CloseSquare, Comma}
use Rattle.kb_record.proofs.PassedMarks.{behind-is}
use Rattle.kb_record.proofs.numbers.passed_pair.Goals as goal

-- the tokens of two numbers in brackets
pair_spelled : (first second first' second' : ℤ) (tokens rest : List Token) → first' ≡ first → second' ≡ second → tokens ≡ open_square ∷ number first ∷ comma ∷ number second ∷ close_square ∷ rest → tokens ≡ tokens_at (entry_place (first', second')) ++ rest
pair_spelled first second first' second' tokens rest e f h =
    h ∙ ap (λ z. open_square ∷ number z ∷ comma ∷ number second ∷ close_square ∷ rest) (sym e) ∙ ap (λ z. open_square ∷ number first' ∷ comma ∷ number z ∷ close_square ∷ rest) (sym f)

pub returns-clause-spelled : goal.returns-clause-spelled
returns-clause-spelled c =
    let first = c.in_ok-first.first in
    let second = c.in_ok-second.second in
    let opened : behind OpenSquare (remaining c.args.tokens.now) ≡ Some (remaining c.take.new.self) = grind arith in
    let goes_on : behind Comma (remaining c.passed_number.new.tokens) ≡ Some (remaining c.take-2.new.self) = grind arith in
    let ends : behind CloseSquare (remaining c.passed_number-2.new.tokens) ≡ Some (remaining c.take-3.new.self) = grind arith in
    let fits : SFits w64 first = search rules in
    let fits' : SFits w64 second = search rules in
    pair_spelled first second _ _ (remaining c.args.tokens.now) (remaining c.take-3.new.self) (to_z-of_z fits) (to_z-of_z fits')
    (behind-is OpenSquare _ _ opened
    ∙ ap (λ ts. open_square ∷ ts) (c.in_ok-first.ensures.spelled ∙ ap (λ ts. number first ∷ ts) (behind-is Comma _ _ goes_on ∙ ap (λ ts. comma ∷ ts) (c.in_ok-second.ensures.spelled ∙ ap (λ ts. number second ∷ ts) (behind-is CloseSquare _ _ ends)))))
