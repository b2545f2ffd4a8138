use Rattle.std.proofs.Common.{◌≡◌, ◌≢◌, ℕ, ◌+◌, ◌-◌, ◌<◌, List, length, take, drop, get_or, sym, ap, ◌∙◌, subst, arith}
use Rattle.std.proofs.lemmas.List.{take_rest}
use Rattle.std.specs.Prelude.{take_while}
use Rattle.std.specs.List.{AllByRecursion}
use Rattle.kb_lexing.specs.Spelling.{FirstToken, IsStringByte}
use Rattle.kb_lexing.specs.Lexemes.{IsLongestFront, is_string_byte}
use Rattle.kb_lexing.specs.Token as tree
use Rattle.kb_lexing.proofs.FirstTokens.{string_first, string_none, string_ascii, string_within}
use Rattle.kb_lexing.proofs.LongestFronts.{longest_string}
use Rattle.kb_lexing.proofs.lexer.string.Goals as goal
use Rattle.kb_lexing.proofs.lexer.string.Goals.{then-close-text-via-then-close-text, then-close-text-via-else-close-text+then-text-close-ne34}

-- the bytes behind the first `"`
inside : (text : List ℕ) (n : ℕ) → n ≡ length (take_while is_string_byte (take (length text - 1) (drop 1 text)))
    → IsLongestFront (AllByRecursion IsStringByte) (drop 1 text) n
inside text n counted =
    subst (λ rest. IsLongestFront (AllByRecursion IsStringByte) rest n) (take_rest text 1) (longest_string _ n counted)

pub ascii-requires : goal.ascii-requires
ascii-requires c =
    let text = c.args.text.now in
    let n = c.string_len-len.result in
    let same : n ≡ 1 + n - 1 = omega arith in
    subst (λ k. AllByRecursion (λ byte. byte < 128) (take k (drop 1 text))) same
    (string_ascii (take n (drop 1 text)) (inside text n c.string_len-len.ensures).formed)

pub returns-then-close-text : goal.returns-then-close-text
returns-then-close-text c =
    let text = c.args.text.now in
    let n = c.string_len-len.result in
    let unclosed : 1 + n < length text → get_or text (1 + n) 0 ≢ 34 = λ some closed.
    elim c.then-close-text.branch [
      | then-close-text-via-then-close-text w ↦ omega arith
      | then-close-text-via-else-close-text+then-text-close-ne34 w ↦ w.if-text-close-ne34.true closed
    ] in
    string_none text n c.requires (inside text n c.string_len-len.ensures) unclosed

pub returns : goal.returns
returns c =
    let text = c.args.text.now in
    let n = c.string_len-len.result in
    let front = inside text n c.string_len-len.ensures in
    let some : 1 + n < length text = omega (arith, string_within text n c.requires front) in
    let found = string_first text n c.requires front some c.if-text-close-ne34.false in
    let same : 1 + n - 1 ≡ n = omega arith in
    let spelled : c.ascii.result.now ≡ take n (drop 1 text) = c.ascii.ensures ∙ ap (λ k. take k (drop 1 text)) same in
    (subst (λ bytes. FirstToken text (tree.string bytes) (drop (n + 2) text)) (sym spelled) found.first, found.some, found.within)
