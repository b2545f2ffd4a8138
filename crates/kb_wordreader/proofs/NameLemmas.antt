-- Letters of names.
use Rattle.std.proofs.Common.{◌≡◌, ◌≢◌, ℕ, zero, suc, ◌<◌, List, [], ◌∷◌, Option, None, Some, get_or, refl, sym, arith}
use Rattle.std.specs.Prelude.{IfSome, IfNone, Contains, Result, Ok, Err, MatchResult, IsOk}
use Rattle.std.specs.List.{AllByRecursion}
use Rattle.std.specs.Str.{IsUtf8}
use Rattle.std.proofs.lemmas.Str.{IsUtf8-from_ascii}
use Rattle.kb_word.specs.Names.{name_of}
use Rattle.kb_record.proofs.WordMeanings.{letter_found, letter_unknown}
use Rattle.kb_wordreader.specs.Letters.{letter_of}

-- what is found by a name is its letter
pub number_is : (names : List (List ℕ)) (text : List ℕ) (found : Option ℕ) → IfSome found (λ x. name_of names x ≡ Some text)
    → IfSome found (λ x. (earlier : ℕ) → earlier < x → name_of names earlier ≢ Some text) → IfNone found (¬ Contains names text) → found ≡ letter_of names text
number_is names text None is first none = sym (letter_unknown names text none)
number_is names text (Some x) is first none = sym (letter_found names text x is first)

-- each byte below 128, by its place
ascii_at : (bytes : List ℕ) → AllByRecursion (λ byte. byte < 128) bytes → (i : ℕ) → get_or bytes i 0 < 128
ascii_at [] h i = omega arith
ascii_at (b ∷ bytes) h zero = h.0
ascii_at (b ∷ bytes) h (suc i) = ascii_at bytes h.1 i

pub ascii_utf8 : (bytes : List ℕ) → AllByRecursion (λ byte. byte < 128) bytes → IsUtf8 bytes
ascii_utf8 bytes h = IsUtf8-from_ascii bytes (ascii_at bytes h)

pub ok_from : {T E : Type 0} (r : Result T E) (P : T → Type 0) (Q : Type 0) (R : E → Type 0) → MatchResult r P (λ e. ¬ Q × R e) → Q → IsOk r
ok_from (Ok x) P Q R h q = refl
ok_from (Err e) P Q R h q = absurd (h.0 q)
