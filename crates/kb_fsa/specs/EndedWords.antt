-- Which word of a pair has ended, along a text of pairs.
use Rattle.std.specs.Prelude.{◌≡◌, ℕ, ◌+◌, ◌*◌, ◌%◌, ◌<◌, Bool, ◌&&◌, nat_lt, nat_le, List, [], ◌∷◌, Option, Some, None, if◌then◌else◌}
use Rattle.kb_fsa.specs.declared.alphabet.Alphabet.{Alphabet}
use Rattle.kb_fsa.specs.declared.alphabet.Alphabet.TheVariants.{Plain, Pair}
use Rattle.kb_fsa.specs.declared.ended.Ended.{Ended}
use Rattle.kb_fsa.specs.declared.ended.Ended.TheVariants.{Neither, First, Second}
use Rattle.kb_fsa.specs.PairSymbols.{pair_symbol, pads_first, pads_second}
use Rattle.kb_fsa.specs.Language.{symbols}

-- which word of a pair the symbol pads
abbrev pub word_padded : ℕ → ℕ → Ended
word_padded n symbol =
    if pads_first n symbol then First else (if pads_second n symbol then Second else Neither)

-- which word has ended after a symbol that pads a word or none, unless the symbol has a letter of a word that has ended
abbrev pub ended_next : Ended → Ended → Option Ended
ended_next Neither next = Some next
ended_next First First = Some First
ended_next Second Second = Some Second
ended_next ended next = None

-- the number is that of a symbol
abbrev pub is_symbol : Alphabet → ℕ → Bool
is_symbol alphabet symbol = nat_lt 0 symbol && nat_le symbol (symbols alphabet)

-- which word has ended after the symbol, if it may follow; in a plain text each may, and no word is padded
abbrev pub ended_after : Alphabet → Ended → ℕ → Option Ended
ended_after (Plain n) ended symbol = if is_symbol (Plain n) symbol then Some Neither else None
ended_after (Pair n) ended symbol =
    if is_symbol (Pair n) symbol then ended_next ended (word_padded n symbol) else None

-- which word has ended after the text
abbrev pub ended_by : Alphabet → Option Ended → List ℕ → Option Ended
ended_by alphabet None text = None
ended_by alphabet (Some ended) [] = Some ended
ended_by alphabet (Some ended) (symbol ∷ text) =
    ended_by alphabet (ended_after alphabet ended symbol) text

-- the symbols that may follow are apart by a stride, from the first on
abbrev pub first_after : Alphabet → Ended → ℕ
first_after (Plain n) ended = 1
first_after (Pair n) Neither = 1
first_after (Pair n) First = pair_symbol n (n + 1) 1
first_after (Pair n) Second = pair_symbol n 1 (n + 1)

abbrev pub stride_after : Alphabet → Ended → ℕ
stride_after (Pair n) Second = n + 1
stride_after alphabet ended = 1

-- the symbol is a stride's
abbrev pub IsInStride : Alphabet → Ended → ℕ → Type 0
IsInStride (Plain n) ended symbol = 0 < symbol
IsInStride (Pair n) Neither symbol = 0 < symbol
IsInStride (Pair n) First symbol = (n + 1) * n < symbol
IsInStride (Pair n) Second symbol = (0 < symbol) × (symbol % (n + 1) ≡ 0)
