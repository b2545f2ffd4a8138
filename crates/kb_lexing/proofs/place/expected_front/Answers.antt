use Rattle.std.proofs.Common.{refl, sym, subst}
use Rattle.std.specs.Prelude.{codes}
use Rattle.kb_lexing.specs.Token.{assign, dots, rec_word}
use Rattle.kb_lexing.specs.Lexemes.{IsLongestFront}
use Rattle.kb_lexing.specs.Possible.{BeginsExpected}
use Rattle.kb_lexing.specs.declared.place.Expected.TheVariants as variant
use Rattle.kb_lexing.proofs.ExpectedFronts.{one_spelling, assign_alone, dots_alone, rec_alone}
use Rattle.kb_lexing.proofs.place.expected_front.Goals as goal

pub returns-in-Assign : goal.returns-in-Assign
returns-in-Assign c =
    let bytes = c.args.bytes.now in
    let n = c.common_front.result in
    subst (λ e. IsLongestFront (BeginsExpected e) bytes n) (sym c.in-Assign.is)
    (one_spelling variant.Assign assign (codes ":=") bytes n tt refl assign_alone c.common_front.ensures)

pub returns-in-Dots : goal.returns-in-Dots
returns-in-Dots c =
    let bytes = c.args.bytes.now in
    let n = c.common_front-in-Dots.result in
    subst (λ e. IsLongestFront (BeginsExpected e) bytes n) (sym c.in-Dots.is)
    (one_spelling variant.Dots dots (codes "..") bytes n tt refl dots_alone c.common_front-in-Dots.ensures)

pub returns-in-Rec : goal.returns-in-Rec
returns-in-Rec c =
    let bytes = c.args.bytes.now in
    let n = c.common_front-in-Rec.result in
    subst (λ e. IsLongestFront (BeginsExpected e) bytes n) (sym c.in-Rec.is)
    (one_spelling variant.Rec rec_word (codes "rec") bytes n tt refl rec_alone c.common_front-in-Rec.ensures)
