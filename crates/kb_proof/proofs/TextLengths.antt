-- What a text of few bytes bounds: the lines of its log, the letters of their sides, and their steps.
use Rattle.std.proofs.Common.{◌≡◌, ◌⊎◌, ℕ, zero, suc, ◌+◌, ◌<◌, ◌≤◌, List, [], ◌∷◌, ◌++◌, length, map, decimal, codes, ap, subst, inl, inr, arith, option_to_list, Option, None, Some, length-append}
use Rattle.std.specs.Prelude.{slice_get, Result, Ok, Err, IfOk}
use Rattle.std.specs.List.{join_with_byte}
use Rattle.std.proofs.lemmas.List.{length-map}
use Rattle.kb_word.specs.Printed.{text_of_word, letter_name}
use Rattle.kb_machine.specs.declared.line.Line.{Line}
use Rattle.kb_machine.specs.declared.line.LogStep.{LogStep}
use Rattle.kb_proof.specs.Printed.{field_texts, header, listed, text_of_step, text_of_steps, text_of_line, text_of_open, text_of_lines, text_of_waiting, text_of_body}
use Rattle.kb_proof.specs.Reading.{IsLogOf}
use Rattle.kb_proof.specs.declared.error.LogError.{LogError}
use Rattle.kb_proof.specs.declared.log.Log.{Log}
use Rattle.kb_proof.specs.declared.log.Version.{Version}
use Rattle.kb_proof.specs.declared.log.Version.TheVariants.{Two}

-- ---- parts of a text

join_count : (c : ℕ) (xs : List (List ℕ)) → length xs ≤ length (join_with_byte c xs) + 1
join_count c [] = omega arith
join_count c (x ∷ []) = omega arith
join_count c (x ∷ y ∷ xs) =
    let rest = join_count c (y ∷ xs) in
    omega (arith, rest, length-append x (c ∷ join_with_byte c (y ∷ xs)))

join_head : (c : ℕ) (x : List ℕ) (xs : List (List ℕ)) → length x ≤ length (join_with_byte c (x ∷ xs))
join_head c x [] = omega arith
join_head c x (y ∷ xs) = omega (arith, length-append x (c ∷ join_with_byte c (y ∷ xs)))

join_tail : (c : ℕ) (x : List ℕ) (xs : List (List ℕ)) → length (join_with_byte c xs) ≤ length (join_with_byte c (x ∷ xs))
join_tail c x [] = omega arith
join_tail c x (y ∷ xs) = omega (arith, length-append x (c ∷ join_with_byte c (y ∷ xs)))

word_count : (names : List (List ℕ)) (w : List ℕ) → length w ≤ length (text_of_word names w) + 1
word_count names [] = omega arith
word_count names (x ∷ w) =
    omega (arith, join_count 42 (map (letter_name names) (x ∷ w)), length-map (x ∷ w) (letter_name names))

steps_count : (steps : List LogStep) → length steps ≤ length (text_of_steps steps) + 1
steps_count [] = omega arith
steps_count (step ∷ steps) =
    omega (arith, join_count 44 (map text_of_step (step ∷ steps)), length-map (step ∷ steps) text_of_step)

-- ---- lines

-- the sides have at most so many letters, and the derivations so many steps
pub record IsSmall (most : ℕ) (line : Line) : Type 0 where
  pub left : length line.left ≤ most
  pub right : length line.right ≤ most
  pub first : length line.first_steps.items ≤ most
  pub second : length line.second_steps.items ≤ most

-- a line is small where the text of its fields, behind anything, is short
fields_small : (names : List (List ℕ)) (sign begin : List ℕ) (line : Line) (most : ℕ)
    → length (join_with_byte 32 (begin ∷ listed Two sign (field_texts names line))) < most → IsSmall most line
fields_small names sign begin line most short =
    let texts = field_texts names line in
    let colon = codes ":" in
    let last = colon ∷ texts.second ∷ [] in
    let after_colon = texts.first ∷ last in
    let after_right = colon ∷ after_colon in
    let after_sign = texts.right ∷ after_right in
    let after_left = sign ∷ after_sign in
    let after_origin = texts.left ∷ after_left in
    let after_begin = texts.origin ∷ after_origin in
    let a = join_tail 32 begin after_begin in
    let b = join_tail 32 texts.origin after_origin in
    let l = join_head 32 texts.left after_left in
    let c = join_tail 32 texts.left after_left in
    let d = join_tail 32 sign after_sign in
    let r = join_head 32 texts.right after_right in
    let e = join_tail 32 texts.right after_right in
    let f = join_tail 32 colon after_colon in
    let g = join_head 32 texts.first last in
    let h = join_tail 32 texts.first last in
    let i = join_tail 32 colon (texts.second ∷ []) in
    record {
      left = omega (arith, short, a, b, l, word_count names line.left);
      right = omega (arith, short, a, b, c, d, r, word_count names line.right);
      first = omega (arith, short, a, b, c, d, e, f, g, steps_count line.first_steps.items);
      second = omega (arith, short, a, b, c, d, e, f, h, i, steps_count line.second_steps.items);
    }

-- lines of a short text are small
lines_small : (names : List (List ℕ)) (k : ℕ) (lines : List Line) (most : ℕ) → length (text_of_lines Two names k lines) ≤ most
    → (index : ℕ) (line : Line) → slice_get lines index ≡ Some line → IsSmall most line
lines_small names k [] most short index line at = absurd (cc at)
lines_small names k (first ∷ lines) most short zero line at =
    let same : first ≡ line = cc at in
    let long = length-append (text_of_line Two names k first) (10 ∷ text_of_lines Two names (k + 1) lines) in
    subst (IsSmall most) same (fields_small names (codes "->") (decimal k) first most (omega (arith, short, long)))
lines_small names k (first ∷ lines) most short (suc index) line at =
    let long = length-append (text_of_line Two names k first) (10 ∷ text_of_lines Two names (k + 1) lines) in
    lines_small names (k + 1) lines most (omega (arith, short, long)) index line at

-- there are few of them
lines_few : (version : Version) (names : List (List ℕ)) (k : ℕ) (lines : List Line)
    → length lines ≤ length (text_of_lines version names k lines)
lines_few version names k [] = omega arith
lines_few version names k (line ∷ lines) =
    let long = length-append (text_of_line version names k line) (10 ∷ text_of_lines version names (k + 1) lines) in
    omega (arith, long, lines_few version names (k + 1) lines)

-- ---- logs

-- what stands at a place of two lists stands in one of them
at_append : {X : Type 0} (xs ys : List X) (index : ℕ) (x : X) → slice_get (xs ++ ys) index ≡ Some x
    → (slice_get xs index ≡ Some x) ⊎ ((other : ℕ) × (slice_get ys other ≡ Some x))
at_append [] ys index x at = inr (index, at)
at_append (y ∷ xs) ys zero x at = inl at
at_append (y ∷ xs) ys (suc index) x at = at_append xs ys index x at

waiting_small : (names : List (List ℕ)) (waiting : Option Line) (most : ℕ) → length (text_of_waiting Two names waiting) ≤ most
    → (index : ℕ) (line : Line) → slice_get (option_to_list waiting) index ≡ Some line → IsSmall most line
waiting_small names None most short index line at = absurd (cc at)
waiting_small names (Some waiting) most short (suc index) line at = absurd (cc at)
waiting_small names (Some waiting) most short zero line at =
    let same : waiting ≡ line = cc at in
    let long = length-append (text_of_open Two names waiting) (10 ∷ []) in
    subst (IsSmall most) same (fields_small names (codes "<>") (codes "open") waiting most (omega (arith, short, long)))

-- where the text of a log has at most so many bytes, its lines are small
pub body_small : (names : List (List ℕ)) (lines : List Line) (waiting : Option Line) (most : ℕ)
    → length (text_of_body Two names lines waiting) ≤ most
    → (index : ℕ) (line : Line) → slice_get (lines ++ option_to_list waiting) index ≡ Some line → IsSmall most line
body_small names lines waiting most short index line at =
    let long = length-append (text_of_lines Two names 1 lines) (text_of_waiting Two names waiting) in
    elim (at_append lines (option_to_list waiting) index line at) [
      | inl here ↦ lines_small names 1 lines most (omega (arith, short, long)) index line here
      | inr there ↦ waiting_small names waiting most (omega (arith, short, long)) there.0 line there.1
    ]

waiting_few : (waiting : Option Line) → length (option_to_list waiting) ≤ 1
waiting_few None = omega arith
waiting_few (Some line) = omega arith

-- and there are few
pub body_few : (names : List (List ℕ)) (lines : List Line) (waiting : Option Line) (most : ℕ)
    → length (text_of_body Two names lines waiting) ≤ most → length (lines ++ option_to_list waiting) ≤ most + 1
body_few names lines waiting most short =
    let long = length-append (text_of_lines Two names 1 lines) (text_of_waiting Two names waiting) in
    omega (arith, short, long, lines_few Two names 1 lines, waiting_few waiting, length-append lines (option_to_list waiting))

-- ---- logs that are read

-- no more lines are read than there are bytes
pub few_read : (version : Version) (names : List (List ℕ)) (bytes body : List ℕ) (result : Result Log LogError)
    → bytes ≡ header version ++ body → IfOk result (IsLogOf version names body)
    → IfOk result (λ log. length log.lines.items ≤ length bytes)
few_read version names bytes body (Ok log) whole is =
    let lines = text_of_lines version names 1 log.lines.items in
    let waiting = text_of_waiting version names log.waiting in
    let few = lines_few version names 1 log.lines.items in
    omega (arith, few, ap length whole, ap length is.whole, length-append (header version) body, length-append lines waiting)
few_read version names bytes body (Err error) whole is = tt
