-- Texts that end with others: so where a token stands is told by how much of the text is left.
use Rattle.std.proofs.Common.{◌≡◌, ℕ, ◌-◌, ◌≤◌, List, [], ◌++◌, length, take, drop, Option, Some, None, refl, sym, ap, ◌∙◌, arith, append_assoc, length-append}
use Rattle.std.proofs.Math.Seq.{drop-append_seam}
use Rattle.std.proofs.lemmas.List.{take-append-drop, length-drop}
use Rattle.kb_lexing.specs.Lexemes.{IsFirstLexeme}
use Rattle.kb_lexing.specs.declared.token.Lexeme.{Lexeme}
use Rattle.kb_lexing.proofs.Lexings.{gap_front}
use Rattle.kb_record.specs.Ends.{EndsWith}

-- the text is some front, and then the other
record Front (text end : List ℕ) : Type 0 where
  pub front : List ℕ
  pub is : text ≡ front ++ end

ends_behind : (text end : List ℕ) → Front text end → EndsWith text end
ends_behind text end h =
    let before : length text - length end ≡ length h.front = omega (arith, ap length h.is, length-append h.front end) in
    ap (λ n. drop n text) before ∙ ap (drop (length h.front)) h.is ∙ drop-append_seam h.front end

front_of : (text end : List ℕ) → EndsWith text end → Front text end
front_of text end h =
    let k = length text - length end in
    record { front = take k text; is = sym (take-append-drop k text) ∙ ap (λ x. take k text ++ x) h }

pub ends_itself : (text : List ℕ) → EndsWith text text
ends_itself text = ends_behind text text (record { front = []; is = refl })

-- what is behind the first token of an end is an end
pub ends_behind_token : (whole text : List ℕ) (lexeme : Option Lexeme) → EndsWith whole text → IsFirstLexeme text lexeme
    → (found : Lexeme) → lexeme ≡ Some found → EndsWith whole found.rest.now
ends_behind_token whole text None h first found is = cc
ends_behind_token whole text (Some lexeme) h first found is =
    let gap = gap_front text in
    let before = front_of whole text h in
    let same : lexeme.rest.now ≡ found.rest.now = cc in
    let front = before.front ++ gap.front ++ first.spelling in
    ends_behind whole found.rest.now
    (record {
      front = front;
      is = before.is ∙ ap (λ x. before.front ++ x) gap.whole ∙ ap (λ x. before.front ++ (gap.front ++ x)) first.whole
          ∙ sym (append_assoc before.front gap.front (first.spelling ++ lexeme.rest.now)) ∙ sym (append_assoc (before.front ++ gap.front) first.spelling lexeme.rest.now)
          ∙ ap (λ x. front ++ x) same;
    })

pub end_within : (text end : List ℕ) → EndsWith text end → length end ≤ length text
end_within text end h = omega (arith, ap length h, length-drop (length text - length end) text)
