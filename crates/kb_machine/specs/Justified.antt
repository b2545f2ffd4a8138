-- What a log has to say of each of its lines.
use Rattle.std.specs.Prelude.{◌≡◌, ◌≢◌, ℕ, List, [], Some, slice_get, take}
use Rattle.kb_word.specs.Words.{Pair, OneOf, IsFactor}
use Rattle.kb_word.specs.Rewriting.{IsIrreducible}
use Rattle.kb_machine.specs.Lines.{numbered, rules_of, IsPairOf, replaced}
use Rattle.kb_machine.specs.Derivations.{Any, Derives, DerivesBoth}
use Rattle.kb_machine.specs.declared.line.Line.{Line}
use Rattle.kb_machine.specs.declared.origin.Origin.{Origin}
use Rattle.kb_machine.specs.declared.origin.Origin.TheVariants.{Relation, Overlap, Killed, Shortened}

-- the sides of the line come by its derivations from the pair of its origin, and no rule before it reduces the left one
pub record ComesFromPair (relations earlier : List Pair) (line : Line) : Type 0 where
  pub pair : Pair
  pub is_pair : IsPairOf relations earlier line.origin pair
  pub derived : DerivesBoth Any earlier pair line.first_steps.items line.second_steps.items
      line.left line.right
  pub left_is_irreducible : IsIrreducible (OneOf earlier) line.left

-- the left side of another rule is a factor of that of rule k
pub record HasAnotherFactor (rules : List Pair) (k : ℕ) : Type 0 where
  pub own : Pair
  pub other : ℕ
  pub rule : Pair
  pub is_own : numbered rules k ≡ Some own
  pub is_rule : numbered rules other ≡ Some rule
  pub another : other ≢ k
  pub factor : IsFactor own.0 rule.0

-- the line has the left side of rule k, and a right side that comes by its derivation from that of rule k
pub record ShortensRule (earlier : List Pair) (k : ℕ) (line : Line) : Type 0 where
  pub rule : Pair
  pub is_rule : numbered earlier k ≡ Some rule
  pub left : line.left ≡ rule.0
  pub right : Derives Any earlier rule.1 line.first_steps.items line.right
  pub changed : line.right ≢ rule.1
  pub no_second : line.second_steps.items ≡ []

-- the line follows, by its origin, from the relations and the rules of the lines before it
abbrev pub FollowsBy : List Pair → List Pair → Origin → Line → Type 0
FollowsBy relations earlier (Relation k) line = ComesFromPair relations earlier line
FollowsBy relations earlier (Overlap i j place) line = ComesFromPair relations earlier line
FollowsBy relations earlier (Killed k) line =
    ComesFromPair relations earlier line × HasAnotherFactor earlier k
FollowsBy relations earlier (Shortened k) line = ShortensRule earlier k line

-- Each line follows from the relations and the lines before it and decreases; each relation is used
-- once at most, and each line is replaced once at most.
pub record IsJustified (below : List ℕ → List ℕ → Type 0) (relations : List Pair)
    (lines : List Line) : Type 0 where
  pub follows : (index : ℕ) (line : Line) → slice_get lines index ≡ Some line
      → FollowsBy relations (take index (rules_of lines)) line.origin line
  pub decreases : (index : ℕ) (line : Line) → slice_get lines index ≡ Some line
      → below line.right line.left
  pub relations_once : (index other k : ℕ) (line another : Line) → slice_get lines index ≡ Some line
      → slice_get lines other ≡ Some another → line.origin ≡ Relation k
      → another.origin ≡ Relation k → index ≡ other
  pub replaced_once : (index other k : ℕ) (line another : Line) → slice_get lines index ≡ Some line
      → slice_get lines other ≡ Some another → replaced line.origin ≡ Some k
      → replaced another.origin ≡ Some k → index ≡ other
