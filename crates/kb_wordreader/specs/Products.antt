-- Products of names.
use Rattle.std.specs.Prelude.{◌≡◌, ℕ, List, [], ◌∷◌, ◌++◌, Option, None, Some, Result, Ok, Err}
use Rattle.kb_lexing.specs.Token.{Token, name, star}
use Rattle.kb_lexing.specs.Spelling.{FirstToken, TokensOf, after_gap}
use Rattle.kb_record.specs.Tree.{named, Factors, factor}
use Rattle.kb_record.specs.Faults.{Evaluates}
use Rattle.kb_record.specs.declared.error.WordError.{WordError}
use Rattle.kb_record.specs.Meaning.{WordFault, and_then, name_meaning, product, product_meaning}

-- names, each with `*` behind it
abbrev pub starred : List (List ℕ) → List Token
starred [] = []
starred (text ∷ texts) = name text ∷ star ∷ starred texts

-- factors that are names without powers, and others behind them
abbrev pub before : List (List ℕ) → Factors → Factors
before [] others = others
before (text ∷ texts) others = factor (named text None) (before texts others)

-- a name behind the product so far
abbrev pub times_name : List (List ℕ) → List ℕ → List ℕ → Result (List ℕ) WordFault
times_name names so_far text = and_then (name_meaning names text) (product so_far)

-- a name was taken: the word goes on with it where there was no fault, and the first fault stays
abbrev pub Takes : List (List ℕ) → List ℕ → List ℕ → Option WordError → List ℕ → Option WordError
    → Type 0
Takes names so_far text None w None = times_name names so_far text ≡ Ok w
Takes names so_far text None w (Some fault) = Evaluates (times_name names so_far text) (Err fault)
Takes names so_far text (Some fault) w next = next ≡ Some fault

-- the name at the front of a text was taken
pub record TakesFirst (names : List (List ℕ)) (text rest old : List ℕ) (before : Option WordError)
    (new : List ℕ) (after : Option WordError) : Type 0 where
  pub spelling : List ℕ
  pub first : FirstToken (after_gap text) (name spelling) rest
  pub takes : Takes names old spelling before new after

-- what the whole means where others are still to come: what they mean behind the word so far, or the fault that was met
abbrev pub SoFar : List (List ℕ) → List (Option ℕ) → List ℕ → Factors → Result (List ℕ) WordFault
    → Option WordError → Type 0
SoFar names inverses w others whole None = whole ≡ product_meaning names inverses w others
SoFar names inverses w others whole (Some fault) = Evaluates whole (Err fault)

-- names, each with `*` behind it, were read of the bytes
pub record Passed (names : List (List ℕ)) (bytes rest w : List ℕ)
    (fault : Option WordError) : Type 0 where
  pub texts : List (List ℕ)
  pub onward : (tokens : List Token) → TokensOf rest tokens
      → TokensOf bytes (starred texts ++ tokens)
  pub means : (inverses : List (Option ℕ)) (others : Factors)
      → SoFar names inverses w others
      (product_meaning names inverses [] (before texts others)) fault
