-- When each refusal comes: the fault that it names is there.
use Rattle.std.specs.Prelude.{◌≡◌, ℕ, suc, ◌≤◌, List, Option, Result, Ok, Err}
use Rattle.kb_lexing.specs.Token.{Token}
use Rattle.kb_lexing.specs.Spelling.{TokensOf}
use Rattle.kb_lexing.specs.Possible.{IsLongestPossible}
use Rattle.kb_record.specs.Tree.{Factors}
use Rattle.kb_record.specs.Grammar.{IsTextForm, IsWordForm, WordOf}
use Rattle.kb_record.specs.Nesting.{deepest, word_nesting, IsDeepFront, IsTooDeep}
use Rattle.kb_record.specs.Meaning.{WordFault, unknown_generator, no_inverse, too_long, word_meaning}
use Rattle.kb_record.specs.declared.error.RecordError.{RecordError}
use Rattle.kb_record.specs.declared.error.RecordError.TheVariants as record_errors
use Rattle.kb_record.specs.declared.error.WordError.{WordError}
use Rattle.kb_record.specs.declared.error.WordError.TheVariants as word_errors

-- The bytes are no text of the form, no front of them is too deep, and the first `at` bytes are the longest front with
-- which some text of the form begins.
pub record IsSyntaxFault (HasForm : List Token → Type 0) (bytes : List ℕ) (at : ℕ) : Type 0 where
  pub none : (tokens : List Token) → TokensOf bytes tokens → ¬ HasForm tokens
  pub shallow : ¬ IsTooDeep HasForm bytes
  pub longest : IsLongestPossible HasForm bytes at

-- the shortest front that is too deep has `at` bytes before its last one, the 65th bracket that is open
pub record IsDepthFault (HasForm : List Token → Type 0) (bytes : List ℕ) (at : ℕ) : Type 0 where
  pub deep : IsDeepFront HasForm bytes (suc at)
  pub shortest : (n : ℕ) → IsDeepFront HasForm bytes n → suc at ≤ n

-- the bytes have the fault that is named; want of memory is none of theirs
abbrev pub HasFault : (List Token → Type 0) → List ℕ → RecordError → Type 0
HasFault HasForm bytes (record_errors.Syntax at) = IsSyntaxFault HasForm bytes at
HasFault HasForm bytes (record_errors.TooDeep at) = IsDepthFault HasForm bytes at
HasFault HasForm bytes record_errors.Memory = Unit {0}

-- of a text, and of a word
abbrev pub HasTextFault : List ℕ → RecordError → Type 0
HasTextFault = HasFault IsTextForm

abbrev pub HasTreeFault : List ℕ → RecordError → Type 0
HasTreeFault = HasFault IsWordForm

-- what the bytes mean over a presentation's names and inverses, or the fault of their word, where they are a word
pub record Meaning (bytes : List ℕ) (names : List (List ℕ)) (inverses : List (Option ℕ))
    (meaning : Result (List ℕ) WordFault) : Type 0 where
  pub factors : Factors
  pub formed : WordOf bytes factors
  pub shallow : word_nesting factors ≤ deepest
  pub means : word_meaning names inverses factors ≡ meaning

-- the bytes have the fault of a tree, or their word has the fault that is named
abbrev pub HasWordFault : List ℕ → List (List ℕ) → List (Option ℕ) → WordError → Type 0
HasWordFault bytes names inverses (word_errors.Syntax at) =
    HasTreeFault bytes (record_errors.Syntax at)
HasWordFault bytes names inverses (word_errors.TooDeep at) =
    HasTreeFault bytes (record_errors.TooDeep at)
HasWordFault bytes names inverses (word_errors.UnknownGenerator name) =
    Meaning bytes names inverses (Err (unknown_generator name))
HasWordFault bytes names inverses (word_errors.NoInverse name) =
    Meaning bytes names inverses (Err (no_inverse name))
HasWordFault bytes names inverses word_errors.WordTooLong =
    Meaning bytes names inverses (Err too_long)
HasWordFault bytes names inverses word_errors.Memory = HasTreeFault bytes record_errors.Memory

-- evaluating a word's tree returns its meaning, its first fault, or want of memory
abbrev pub Evaluates : Result (List ℕ) WordFault → Result (List ℕ) WordError → Type 0
Evaluates meaning (Ok w) = meaning ≡ Ok w
Evaluates meaning (Err word_errors.Memory) = Unit {0}
Evaluates meaning (Err (word_errors.UnknownGenerator name)) = meaning ≡ Err (unknown_generator name)
Evaluates meaning (Err (word_errors.NoInverse name)) = meaning ≡ Err (no_inverse name)
Evaluates meaning (Err word_errors.WordTooLong) = meaning ≡ Err too_long
Evaluates meaning (Err _) = ⊥
