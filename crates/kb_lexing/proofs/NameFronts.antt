-- The name with which a text begins.
use Rattle.std.proofs.Common.{◌≡◌, ◌≢◌, ℕ, ◌+◌, ◌-◌, ◌≤◌, length, List, [], ◌∷◌, ◌++◌, false, take, drop, get_or, refl, sym, subst, arith, one-add}
use Rattle.std.specs.Prelude.{codes, ◌==◌}
use Rattle.std.proofs.lemmas.Bool.Decides.{nat_tests}
use Rattle.std.proofs.lemmas.List.{take_rest}
use Rattle.kb_lexing.specs.Token.{name, rec_word}
use Rattle.kb_lexing.specs.Spelling.{BeginsNames, GoesOnAsName, IsName, FirstToken, is_blank, after_gap}
use Rattle.kb_lexing.specs.Lexemes.{IsLongestFront, GoesOnAt}
use Rattle.kb_lexing.proofs.FirstTokens.{same_head, word_first}
use Rattle.kb_lexing.proofs.LongestFronts.{longest_stop}
use Rattle.kb_lexing.proofs.OneToken.{one_token}

pub name_first : (text : List ℕ) (m : ℕ) → BeginsNames (get_or text 0 0) → IsLongestFront GoesOnAsName (drop 1 text) m → take (1 + m) text ≢ codes "rec"
    → FirstToken text (name (take (1 + m) text)) (drop (1 + m) text)
name_first [] m at h other = absurd (omega arith)
name_first (b ∷ rest) m at h other =
    let differ : b ∷ take m rest ≢ codes "rec" = rw one-add at other in
    let is_name : IsName (take (1 + m) (b ∷ rest)) = rw one-add (at, h.formed, differ) in
    (word_first (b ∷ rest) m (name (take (1 + m) (b ∷ rest))) at h (refl, is_name)).first

-- where the word is `rec`
pub rec_first : (text : List ℕ) (m : ℕ) → BeginsNames (get_or text 0 0) → IsLongestFront GoesOnAsName (drop 1 text) m → take (1 + m) text ≡ codes "rec"
    → (spelling rest : List ℕ) → ¬ FirstToken text (name spelling) rest
rec_first text m at h is spelling rest first =
    let same = one_token text rec_word (name spelling) (drop (1 + m) text) rest (word_first text m rec_word at h is).first first in
    let token = same.token_same in
    cc

-- where names don't begin with the first byte
pub no_name_first : (text : List ℕ) → ¬ BeginsNames (get_or text 0 0) → (spelling rest : List ℕ) → ¬ FirstToken text (name spelling) rest
no_name_first text other spelling rest first = go text spelling first.spelling first.whole first.spelled.0 first.spelled.1 other
  where
    go : (text name spelled : List ℕ) → text ≡ spelled ++ rest → spelled ≡ name → IsName name → ¬ BeginsNames (get_or text 0 0) → ⊥
    go text [] spelled whole is h other = h
    go text (c ∷ more) [] whole is h other = cc
    go [] (c ∷ more) (d ∷ spelled) whole is h other = cc
    go (b ∷ bytes) (c ∷ more) (d ∷ spelled) whole is h other =
        other (subst (λ x. BeginsNames x) (sym (same_head whole)) (subst (λ x. BeginsNames x) (sym (same_head is)) h.0))

-- no gap stands before a name
no_gap : (b : ℕ) (rest : List ℕ) → BeginsNames b → after_gap (b ∷ rest) ≡ b ∷ rest
no_gap b rest at =
    let blank : is_blank b ≡ false = grind (arith, nat_tests) in
    let hash : (b == 35) ≡ false = grind (arith, nat_tests) in
    rw (blank, hash)

-- a name of one byte, where the text goes on otherwise
pub short_first : (text : List ℕ) → 1 ≤ length text → BeginsNames (get_or text 0 0) → ¬ GoesOnAt (take (length text - 1) (drop 1 text))
    → FirstToken (after_gap text) (name (get_or text 0 0 ∷ [])) (take (length text - 1) (drop 1 text))
short_first [] some at ends = absurd (omega arith)
short_first (b ∷ rest) some at ends =
    let whole : take (length (b ∷ rest) - 1) (drop 1 (b ∷ rest)) ≡ rest = take_rest (b ∷ rest) 1 in
    let stops : ¬ GoesOnAt rest = subst (λ x. ¬ GoesOnAt x) whole ends in
    rw (whole, no_gap b rest at) (name_first (b ∷ rest) 0 at (longest_stop rest stops) (λ e. cc))
