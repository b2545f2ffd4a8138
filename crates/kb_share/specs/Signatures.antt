-- Signatures of words: each window, which is so many neighbouring letters, marks one of 64 bits.
use Rattle.std.specs.Prelude.{◌≡◌, ℕ, ◌+◌, ◌*◌, ◌/◌, ◌%◌, ◌^◌, ◌<◌, ◌≤◌, List, [], ◌∷◌, length, take, drop, bit_or}

-- The hash of a window's letters, from that of those before. Which one it is matters for speed alone.
unfoldable pub hash_on : ℕ → List ℕ → ℕ
hash_on hash [] = hash
hash_on hash (letter ∷ rest) = hash_on ((hash * 0x9e37_79b9_7f4a_7c15 % 2 ^ 64 + letter) % 2 ^ 64) rest

-- The bit of a window, by multiplicative hashing: Knuth, The Art of Computer Programming, volume 3, 6.4.
unfoldable pub bit_number : ℕ → ℕ
bit_number hash = hash * 0xd6e8_feb8_6659_fd93 % 2 ^ 64 / 2 ^ 58

-- the number that has the bit of this hash alone
unfoldable pub bit_alone : ℕ → ℕ
bit_alone hash = (1 * 2 ^ (bit_number hash % 64)) % 2 ^ 64

-- the number that has the window's bit alone
abbrev pub mark : List ℕ → ℕ
mark window = bit_alone (hash_on 0 window)

-- the mark of the window of this many letters at the place
abbrev pub window_mark : ℕ → List ℕ → ℕ → ℕ
window_mark size word place = mark (take size (drop place word))

-- all bits of the first number are bits of the second
abbrev pub AreWithin : ℕ → ℕ → Type 0
AreWithin bits more = bit_or bits more ≡ more

-- the first marks are within the bits
abbrev pub HasFirst : (ℕ → ℕ) → ℕ → ℕ → Type 0
HasFirst marks count bits = (index : ℕ) → index < count → AreWithin (marks index) bits

-- the bits are those of the first marks, and no others
pub record AreBitsOf (marks : ℕ → ℕ) (count bits : ℕ) : Type 0 where
  pub has : HasFirst marks count bits
  pub least : (more : ℕ) → HasFirst marks count more → AreWithin bits more

-- the bits have the marks of the word's windows of this size
abbrev pub HasWindows : ℕ → List ℕ → ℕ → Type 0
HasWindows size word bits = (place : ℕ) → place + size ≤ length word → AreWithin (window_mark size word place) bits

-- the bits have the marks of the word's windows of all sizes that are marked
pub record HasMarks (word : List ℕ) (bits : ℕ) : Type 0 where
  pub letters : HasWindows 1 word bits
  pub pairs : HasWindows 2 word bits
  pub fives : HasWindows 5 word bits
  pub twelves : HasWindows 12 word bits

-- the bits are those of the word's marks, and no others
pub record IsSignature (word : List ℕ) (bits : ℕ) : Type 0 where
  pub has : HasMarks word bits
  pub least : (more : ℕ) → HasMarks word more → AreWithin bits more
