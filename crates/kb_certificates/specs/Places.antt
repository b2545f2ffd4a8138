-- What the generator of a place has. Places are numbered from 0 on, and generators from 1 on.
use Rattle.std.specs.Prelude.{◌≡◌, ℕ, ◌+◌, List}
use Rattle.kb_leastpair.specs.LeastPair.{IsLeastWord, IsLeastPair}
use Rattle.kb_certificates.specs.First.{IsLeastTriple}

-- the generator of the place has no certificate with a word
abbrev pub LacksWord : (ℕ → List ℕ → Type 0) → ℕ → Type 0
LacksWord Certificate place = (u : List ℕ) → ¬ Certificate (place + 1) u

-- x is the generator of the place, and the word is the least of its certificates
pub record HasWord (Certificate : ℕ → List ℕ → Type 0) (place x : ℕ) (u : List ℕ) : Type 0 where
  pub number : x ≡ place + 1
  pub least : IsLeastWord (Certificate (place + 1)) u

-- the same two of certificates with two words
abbrev pub LacksPair : (ℕ → List ℕ → List ℕ → Type 0) → ℕ → Type 0
LacksPair Certificate place = (u v : List ℕ) → ¬ Certificate (place + 1) u v

pub record HasPair (Certificate : ℕ → List ℕ → List ℕ → Type 0) (place x : ℕ)
    (u v : List ℕ) : Type 0 where
  pub number : x ≡ place + 1
  pub least : IsLeastPair (Certificate (place + 1)) u v

-- and of those with three words
abbrev pub LacksTriple : (ℕ → List ℕ → List ℕ → List ℕ → Type 0) → ℕ → Type 0
LacksTriple Certificate place = (u v w : List ℕ) → ¬ Certificate (place + 1) u v w

pub record HasTriple (Certificate : ℕ → List ℕ → List ℕ → List ℕ → Type 0) (place x : ℕ)
    (u v w : List ℕ) : Type 0 where
  pub number : x ≡ place + 1
  pub least : IsLeastTriple (Certificate (place + 1)) u v w
