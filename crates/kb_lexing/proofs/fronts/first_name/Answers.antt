use Rattle.std.proofs.Common.{◌≡◌, ◌+◌, take, get_or, sym, subst, ◌∙◌, rules}
use Rattle.std.specs.Prelude.{codes}
use Rattle.std.proofs.lemmas.List.{take_rest}
use Rattle.std.proofs.lemmas.Slice.Eq.{bytes_eq-Decides}
use Rattle.kb_lexing.specs.Spelling.{BeginsNames, GoesOnAsName}
use Rattle.kb_lexing.specs.Lexemes.{IsLongestFront}
use Rattle.kb_lexing.proofs.FirstTokens.{word_ascii}
use Rattle.kb_lexing.proofs.NameFronts.{rec_first}
use Rattle.kb_lexing.proofs.fronts.first_name.Goals as goal

pub returns-then-eq-clause-none : goal.returns-then-eq-clause-none
returns-then-eq-clause-none c =
    let text = c.args.text.now in
    let n = c.name_rest_len.result in
    let longest = subst (λ rest. IsLongestFront GoesOnAsName rest n) (take_rest text 1) c.name_rest_len.ensures in
    let at : BeginsNames (get_or text 0 0) = search rules in
    let is : take (1 + n) text ≡ codes "rec" =
    sym c.split_at.ensures.front ∙ (bytes_eq-Decides c.split_at.result.0.now c.as_slice.result.now).0 (sym c.eq.ensures ∙ c.if-eq.true) ∙ c.as_slice.ensures in
    rec_first text n at longest is

pub returns-clause-ascii : goal.returns-clause-ascii
returns-clause-ascii c =
    let text = c.args.text.now in
    let n = c.name_rest_len.result in
    let longest = subst (λ rest. IsLongestFront GoesOnAsName rest n) (take_rest text 1) c.name_rest_len.ensures in
    let at : BeginsNames (get_or text 0 0) = search rules in
    rw c.split_at.ensures.front (word_ascii text n at longest.formed)
