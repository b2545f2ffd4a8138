-- Which versions have which lines.
use Rattle.std.specs.Prelude.{ℕ, suc, ◌<◌, ◌≤◌, ◌⊎◌, Bool, ◌&&◌, nat_le, nat_lt, if◌then◌else◌, List, [], ◌∷◌}
use Rattle.kb_book.specs.declared.versions.Life.{Life}

-- What versions are seen as: the live numbers of each version that was published, the numbers that are live now, how
-- many lines there are, how many more may be made without taking memory, and how many more versions there may be.
pub record VersionsParts : Type 0 where
  pub published : List (List ℕ)
  pub live : List ℕ
  pub lines : ℕ
  pub room : ℕ
  pub more : ℕ

-- so many versions there may be, fewer than the number after which lines go that live
abbrev pub most : ℕ
most = 4294967294

-- the version at the place has the line: it was published after the line was made, and before it went
abbrev pub is_in : Life → ℕ → Bool
is_in life place = nat_le life.born place && nat_lt place life.gone

-- the numbers of the lines that the version at the place has, where the first line has number k
abbrev pub numbers_from : ℕ → List Life → ℕ → List ℕ
numbers_from k [] place = []
numbers_from k (life ∷ lives) place =
    if is_in life place
    then k ∷ numbers_from (suc k) lives place
    else numbers_from (suc k) lives place

-- the line came when so many versions at most were published, and went then, or lives
pub record IsWithin (count : ℕ) (life : Life) : Type 0 where
  pub born : life.born ≤ count
  pub gone : (life.gone ≤ count) ⊎ (most < life.gone)
