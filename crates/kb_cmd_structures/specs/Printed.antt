-- The text of word differences: a line of the format, a line for the empty word, and a line for each other difference
-- with its number, the equality at which it was first seen, and the place.
use Rattle.std.specs.Prelude.{ℕ, suc, Bool, true, false, List, [], ◌∷◌, ◌++◌, Option, Some, None, codes, decimal, slice_get}
use Rattle.kb_io.specs.Bytes.{newline}
use Rattle.kb_word.specs.Printed.{text_of_word}
use Rattle.kb_kept.specs.declared.equality.Equality.{Equality}
use Rattle.kb_kept.specs.declared.seen.Seen.{Seen}
use Rattle.kb_kept.specs.declared.listing.Listing.{Listing}

-- the word of a generator, or the empty word
abbrev pub word_of : Option ℕ → List ℕ
word_of None = []
word_of (Some x) = x ∷ []

-- the words of an equality: u, v and the generator, each with a blank behind it
abbrev pub text_of_equality : List (List ℕ) → Option Equality → List ℕ
text_of_equality names None = []
text_of_equality names (Some equality) =
    text_of_word names equality.u ++ 32
    ∷ (text_of_word names equality.v ++ 32 ∷ (text_of_word names (word_of equality.x) ++ 32 ∷ []))

-- a difference, the words of its equality, and the place
abbrev pub text_of_seen : List (List ℕ) → List Equality → Seen → List ℕ
text_of_seen names equalities seen =
    text_of_word names seen.word ++ 32
    ∷ (text_of_equality names (slice_get equalities seen.equality) ++ decimal seen.place)

-- the lines of differences, numbered from this number on
abbrev pub text_of_kept : List (List ℕ) → List Equality → ℕ → List Seen → List ℕ
text_of_kept names equalities number [] = []
text_of_kept names equalities number (seen ∷ kept) =
    decimal number ++ 32
    ∷ (text_of_seen names equalities seen ++ newline
    ∷ text_of_kept names equalities (suc number) kept)

-- the line of the difference that is needed, where that is asked for and there is one
abbrev pub text_of_needed : List (List ℕ) → List Equality → Option Seen → Bool → List ℕ
text_of_needed names equalities None with_needed = []
text_of_needed names equalities (Some needed) false = []
text_of_needed names equalities (Some needed) true =
    codes "need " ++ (text_of_seen names equalities needed ++ newline ∷ [])

abbrev pub text_of_differences : List (List ℕ) → Listing → Bool → List ℕ
text_of_differences names listing with_needed =
    codes "diff 1\n1 IdWord\n"
    ++ (text_of_kept names listing.equalities.items 2 listing.kept.items
    ++ text_of_needed names listing.equalities.items listing.needed with_needed)
