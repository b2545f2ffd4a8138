-- What stands at the front of a text, and the letters that it means: a power, a factor, factors joined by `*`.
use Rattle.std.specs.Prelude.{◌≡◌, ℕ, ◌<◌, ◌≤◌, ℤ, List, [], ◌∷◌, ◌++◌, Option, Ok}
use Rattle.kb_lexing.specs.Token.{Token, name, close_round}
use Rattle.kb_lexing.specs.Spelling.{FirstToken, TokensOf, after_gap}
use Rattle.kb_record.specs.Tree.{Factor, Factors}
use Rattle.kb_record.specs.Grammar.{power_tokens, factor_tokens, word_tokens, IsFactorTree, IsWord}
use Rattle.kb_record.specs.Nesting.{factor_nesting, word_nesting}
use Rattle.kb_record.specs.Meaning.{name_meaning, power_meaning, factor_meaning, product_meaning}

-- letters that were read are added to a word
pub record Adds (IsRead : List ℕ → Type 0) (old new : List ℕ) : Type 0 where
  pub letters : List ℕ
  pub is_read : IsRead letters
  pub grown : new ≡ old ++ letters

-- a name stands in front
pub record NameFront (names : List (List ℕ)) (text rest letters : List ℕ) : Type 0 where
  pub spelling : List ℕ
  pub first : FirstToken (after_gap text) (name spelling) rest
  pub means : name_meaning names spelling ≡ Ok letters

-- what a power makes of the letters before it; no power leaves them
pub record PowerFront (names : List (List ℕ)) (inverses : List (Option ℕ))
    (text rest base letters : List ℕ) : Type 0 where
  pub power : Option ℤ
  pub onward : (tokens : List Token) → TokensOf rest tokens
      → TokensOf text (power_tokens power ++ tokens)
  pub means : power_meaning names inverses power base ≡ Ok letters

-- a factor stands in front, up to its power
pub record BaseFront (names : List (List ℕ)) (inverses : List (Option ℕ)) (depth : ℕ)
    (text rest letters : List ℕ) : Type 0 where
  pub tree : Option ℤ → Factor
  pub formed : (power : Option ℤ) → IsFactorTree (tree power)
  pub shallow : (power : Option ℤ) → factor_nesting (tree power) ≤ depth
  pub onward : (power : Option ℤ) (tokens : List Token)
      → TokensOf rest (power_tokens power ++ tokens)
      → TokensOf text (factor_tokens (tree power) ++ tokens)
  pub means : (power : Option ℤ)
      → factor_meaning names inverses (tree power) ≡ power_meaning names inverses power letters

-- a factor stands in front
pub record FactorFront (names : List (List ℕ)) (inverses : List (Option ℕ)) (depth : ℕ)
    (text rest letters : List ℕ) : Type 0 where
  pub tree : Factor
  pub formed : IsFactorTree tree
  pub shallow : factor_nesting tree ≤ depth
  pub onward : (tokens : List Token) → TokensOf rest tokens
      → TokensOf text (factor_tokens tree ++ tokens)
  pub means : factor_meaning names inverses tree ≡ Ok letters

-- factors joined by `*` stand in front
pub record FactorsFront (names : List (List ℕ)) (inverses : List (Option ℕ)) (depth : ℕ)
    (text rest letters : List ℕ) : Type 0 where
  pub tree : Factors
  pub formed : IsWord tree
  pub shallow : word_nesting tree ≤ depth
  pub onward : (tokens : List Token) → TokensOf rest tokens
      → TokensOf text (word_tokens tree ++ tokens)
  pub means : product_meaning names inverses [] tree ≡ Ok letters

-- factors joined by `*` and a closing bracket stand in front
pub record GroupFront (names : List (List ℕ)) (inverses : List (Option ℕ)) (depth : ℕ)
    (text rest letters : List ℕ) : Type 0 where
  pub tree : Factors
  pub formed : IsWord tree
  pub shallow : word_nesting tree < depth
  pub onward : (tokens : List Token) → TokensOf rest tokens
      → TokensOf text (word_tokens tree ++ close_round ∷ tokens)
  pub means : product_meaning names inverses [] tree ≡ Ok letters
