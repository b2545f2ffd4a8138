-- Bytes have one fault at most, and none where they are read.
use Rattle.std.proofs.Common.{◌≡◌, ◌≢◌, ℕ, suc, ◌≤◌, List, Option, Result, Err, refl, ap, arith}
use Rattle.kb_lexing.specs.Token.{Token}
use Rattle.kb_record.specs.Tree.{TextTree}
use Rattle.kb_record.specs.Grammar.{IsWordForm, TextOf}
use Rattle.kb_record.specs.Nesting.{deepest, text_nesting}
use Rattle.kb_record.specs.Meaning.{WordFault, unknown_generator, no_inverse, too_long}
use Rattle.kb_record.specs.Faults.{IsSyntaxFault, IsDepthFault, HasFault, HasTextFault, Meaning, HasWordFault}
use Rattle.kb_record.specs.declared.error.RecordError.{RecordError}
use Rattle.kb_record.specs.declared.error.RecordError.TheVariants as errors
use Rattle.kb_record.specs.declared.error.WordError.{WordError}
use Rattle.kb_record.specs.declared.error.WordError.TheVariants.{Syntax, TooDeep, UnknownGenerator, NoInverse, WordTooLong, Memory}
use Rattle.kb_record.proofs.Shallow.{shallow_word, shallow_text}
use Rattle.kb_record.proofs.WordFaults.{one_meaning}

syntax_same : (HasForm : List Token → Type 0) (bytes : List ℕ) (m n : ℕ) → IsSyntaxFault HasForm bytes m → IsSyntaxFault HasForm bytes n → m ≡ n
syntax_same HasForm bytes m n g h =
    let there = g.longest.longest n h.longest.within h.longest.possible in
    let back = h.longest.longest m g.longest.within g.longest.possible in
    omega arith

depth_same : (HasForm : List Token → Type 0) (bytes : List ℕ) (m n : ℕ) → IsDepthFault HasForm bytes m → IsDepthFault HasForm bytes n → m ≡ n
depth_same HasForm bytes m n g h =
    let there = g.shortest (suc n) h.deep in
    let back = h.shortest (suc m) g.deep in
    omega arith

pub one_fault : (HasForm : List Token → Type 0) (bytes : List ℕ) (one other : RecordError) → HasFault HasForm bytes one → HasFault HasForm bytes other → one ≢ errors.Memory → other ≢ errors.Memory → one ≡ other
one_fault HasForm bytes (errors.Syntax m) (errors.Syntax n) g h k l = ap errors.Syntax (syntax_same HasForm bytes m n g h)
one_fault HasForm bytes (errors.TooDeep m) (errors.TooDeep n) g h k l = ap errors.TooDeep (depth_same HasForm bytes m n g h)
one_fault HasForm bytes (errors.Syntax m) (errors.TooDeep n) g h k l = absurd (g.shallow (suc n, h.deep))
one_fault HasForm bytes (errors.TooDeep m) (errors.Syntax n) g h k l = absurd (h.shallow (suc m, g.deep))
one_fault HasForm bytes errors.Memory other g h k l = absurd (k refl)
one_fault HasForm bytes (errors.Syntax m) errors.Memory g h k l = absurd (l refl)
one_fault HasForm bytes (errors.TooDeep m) errors.Memory g h k l = absurd (l refl)

pub no_text_fault : (bytes : List ℕ) (text : TextTree) (error : RecordError) → TextOf bytes text → text_nesting text ≤ deepest → HasTextFault bytes error → error ≡ errors.Memory
no_text_fault bytes text (errors.Syntax at) given shallow fault = absurd (fault.none given.tokens given.spelled (text, given.formed))
no_text_fault bytes text (errors.TooDeep at) given shallow fault = absurd (shallow_text bytes text given shallow (suc at, fault.deep))
no_text_fault bytes text errors.Memory given shallow fault = refl

-- ---- words of a presentation

module _ (bytes : List ℕ) (names : List (List ℕ)) (inverses : List (Option ℕ)) where
  no_syntax : (meaning : Result (List ℕ) WordFault) (at : ℕ) → Meaning bytes names inverses meaning → IsSyntaxFault IsWordForm bytes at → ⊥
  no_syntax meaning at g h = h.none g.formed.tokens g.formed.spelled (g.factors, g.formed.formed)

  no_depth : (meaning : Result (List ℕ) WordFault) (at : ℕ) → Meaning bytes names inverses meaning → IsDepthFault IsWordForm bytes at → ⊥
  no_depth meaning at g h = shallow_word bytes g.factors g.formed g.shallow (suc at, h.deep)

  pub one_word_fault : (one other : WordError) → HasWordFault bytes names inverses one → HasWordFault bytes names inverses other → one ≢ Memory → other ≢ Memory → one ≡ other
  one_word_fault (Syntax m) (Syntax n) g h k l = ap Syntax (syntax_same IsWordForm bytes m n g h)
  one_word_fault (Syntax m) (TooDeep n) g h k l = absurd (g.shallow (suc n, h.deep))
  one_word_fault (Syntax m) (UnknownGenerator b) g h k l = absurd (no_syntax (Err (unknown_generator b)) m h g)
  one_word_fault (Syntax m) (NoInverse b) g h k l = absurd (no_syntax (Err (no_inverse b)) m h g)
  one_word_fault (Syntax m) WordTooLong g h k l = absurd (no_syntax (Err too_long) m h g)
  one_word_fault (TooDeep m) (Syntax n) g h k l = absurd (h.shallow (suc m, g.deep))
  one_word_fault (TooDeep m) (TooDeep n) g h k l = ap TooDeep (depth_same IsWordForm bytes m n g h)
  one_word_fault (TooDeep m) (UnknownGenerator b) g h k l = absurd (no_depth (Err (unknown_generator b)) m h g)
  one_word_fault (TooDeep m) (NoInverse b) g h k l = absurd (no_depth (Err (no_inverse b)) m h g)
  one_word_fault (TooDeep m) WordTooLong g h k l = absurd (no_depth (Err too_long) m h g)
  one_word_fault (UnknownGenerator a) (Syntax n) g h k l = absurd (no_syntax (Err (unknown_generator a)) n g h)
  one_word_fault (UnknownGenerator a) (TooDeep n) g h k l = absurd (no_depth (Err (unknown_generator a)) n g h)
  one_word_fault (UnknownGenerator a) (UnknownGenerator b) g h k l = let e = one_meaning bytes names inverses (Err (unknown_generator a)) (Err (unknown_generator b)) g h in cc
  one_word_fault (UnknownGenerator a) (NoInverse b) g h k l = let e = one_meaning bytes names inverses (Err (unknown_generator a)) (Err (no_inverse b)) g h in cc
  one_word_fault (UnknownGenerator a) WordTooLong g h k l = let e = one_meaning bytes names inverses (Err (unknown_generator a)) (Err too_long) g h in cc
  one_word_fault (NoInverse a) (Syntax n) g h k l = absurd (no_syntax (Err (no_inverse a)) n g h)
  one_word_fault (NoInverse a) (TooDeep n) g h k l = absurd (no_depth (Err (no_inverse a)) n g h)
  one_word_fault (NoInverse a) (UnknownGenerator b) g h k l = let e = one_meaning bytes names inverses (Err (no_inverse a)) (Err (unknown_generator b)) g h in cc
  one_word_fault (NoInverse a) (NoInverse b) g h k l = let e = one_meaning bytes names inverses (Err (no_inverse a)) (Err (no_inverse b)) g h in cc
  one_word_fault (NoInverse a) WordTooLong g h k l = let e = one_meaning bytes names inverses (Err (no_inverse a)) (Err too_long) g h in cc
  one_word_fault WordTooLong (Syntax n) g h k l = absurd (no_syntax (Err too_long) n g h)
  one_word_fault WordTooLong (TooDeep n) g h k l = absurd (no_depth (Err too_long) n g h)
  one_word_fault WordTooLong (UnknownGenerator b) g h k l = let e = one_meaning bytes names inverses (Err too_long) (Err (unknown_generator b)) g h in cc
  one_word_fault WordTooLong (NoInverse b) g h k l = let e = one_meaning bytes names inverses (Err too_long) (Err (no_inverse b)) g h in cc
  one_word_fault WordTooLong WordTooLong g h k l = refl
  one_word_fault Memory other g h k l = absurd (k refl)
  one_word_fault one Memory g h k l = absurd (l refl)
