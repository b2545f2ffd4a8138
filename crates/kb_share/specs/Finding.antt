-- What a finder knows of a book's live lines, and what it finds.
use Rattle.std.specs.Prelude.{◌≡◌, ◌≢◌, ℕ, ◌<◌, ◌≤◌, List, Some, length, slice_get}
use Rattle.std.specs.List.{Contains}
use Rattle.kb_word.specs.Words.{Pair, IsFactor}
use Rattle.kb_machine.specs.Lines.{numbered, rules_of}
use Rattle.kb_machine.specs.declared.line.Line.{Line}
use Rattle.kb_machine.specs.States.{State}
use Rattle.kb_share.specs.Signatures.{HasMarks, AreWithin}
use Rattle.kb_share.specs.declared.finding.Finder.{Finder}
use Rattle.kb_share.specs.declared.finding.Kept.{Kept}
use Rattle.kb_share.specs.declared.finding.Side.{Side}
use Rattle.kb_share.specs.declared.finding.Side.TheVariants.{Left, Right}
use Rattle.kb_share.specs.declared.signature.Signature.{Signature}

-- a side of a rule
abbrev pub side_of : Side → Pair → List ℕ
side_of Left rule = rule.0
side_of Right rule = rule.1

-- the signatures of a side
abbrev pub row_of : Kept → Side → List Signature
row_of kept Left = kept.lefts.items
row_of kept Right = kept.rights.items

-- the signature at the place has all marks of the word
pub record HasAt (row : List Signature) (place : ℕ) (word : List ℕ) : Type 0 where
  pub signature : Signature
  pub at : slice_get row place ≡ Some signature
  pub marks : HasMarks word signature.bits

-- the line with this number is kept at the place
pub record IsKeptAt (rules : List Pair) (kept : Kept) (place number : ℕ) : Type 0 where
  pub rule : Pair
  pub is_rule : numbered rules number ≡ Some rule
  pub left : HasAt kept.lefts.items place rule.0
  pub right : HasAt kept.rights.items place rule.1

-- each of the numbers has its signatures in both rows, at its own place
pub record AgreesWith (rules : List Pair) (kept : Kept) : Type 0 where
  pub lefts : length kept.lefts.items ≡ length kept.numbers.items
  pub rights : length kept.rights.items ≡ length kept.numbers.items
  pub each : (place number : ℕ) → slice_get kept.numbers.items place ≡ Some number
      → IsKeptAt rules kept place number

-- what is kept agrees with the lines, and each live line that was met is kept
pub record KnowsLines (finder : Finder) (lines : List Line) (live : List ℕ) : Type 0 where
  pub met : finder.met ≤ length lines
  pub agrees : AgreesWith (rules_of lines) finder.kept
  pub all : (number : ℕ) → Contains live number → 0 < number → number ≤ finder.met
      → Contains finder.kept.numbers.items number

-- the finder agrees with the book
abbrev pub Knows : Finder → State → Type 0
Knows finder state = KnowsLines finder state.lines state.live

-- the numbers are picked at whose places, before the count, the signature of the row has all the bits
abbrev pub PicksBelow : ℕ → List ℕ → List Signature → ℕ → List ℕ → Type 0
PicksBelow count numbers row bits picked =
    (place number : ℕ) (signature : Signature) → place < count
    → slice_get numbers place ≡ Some number → slice_get row place ≡ Some signature
    → AreWithin bits signature.bits → Contains picked number

-- the kept lines are picked whose signature of this side has all the bits
abbrev pub PicksAll : Kept → Side → ℕ → List ℕ → Type 0
PicksAll kept side bits picked =
    PicksBelow (length (row_of kept side)) kept.numbers.items (row_of kept side) bits picked

-- the line with this number is live, and has the word as a factor on this side
pub record HasFactorAt (side : Side) (lines : List Line) (live : List ℕ) (word : List ℕ)
    (number : ℕ) : Type 0 where
  pub is_live : Contains live number
  pub rule : Pair
  pub is_rule : numbered (rules_of lines) number ≡ Some rule
  pub factor : IsFactor (side_of side rule) word

-- all live lines other than line k were found that have its left side as a factor on this side
abbrev pub FindsLines : Side → List Line → List ℕ → ℕ → List ℕ → Type 0
FindsLines side lines live k found =
    (own : Pair) → numbered (rules_of lines) k ≡ Some own
    → (number : ℕ) → number ≢ k → HasFactorAt side lines live own.0 number → Contains found number

-- and so of a book's state
abbrev pub FindsAll : Side → State → ℕ → List ℕ → Type 0
FindsAll side state k found = FindsLines side state.lines state.live k found
