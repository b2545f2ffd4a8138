-- Bytes have one meaning at most, and bytes that mean a word have no fault.
use Rattle.std.proofs.Common.{◌≡◌, ◌≢◌, ℕ, suc, List, Option, Result, Ok, Err, refl, sym, ap, ◌∙◌, subst}
use Rattle.kb_lexing.specs.Token.{Token}
use Rattle.kb_record.specs.Tree.{Factors}
use Rattle.kb_record.specs.Grammar.{IsWordText, WordOf}
use Rattle.kb_record.specs.Meaning.{WordFault, word_meaning}
use Rattle.kb_record.specs.Faults.{Meaning, HasWordFault}
use Rattle.kb_record.specs.declared.error.WordError.{WordError}
use Rattle.kb_record.specs.declared.error.WordError.TheVariants.{Syntax, TooDeep, UnknownGenerator, NoInverse, WordTooLong, Memory}
use Rattle.kb_lexing.proofs.OneToken.{one_list}
use Rattle.kb_record.proofs.Unique.{one_word}
use Rattle.kb_record.proofs.Shallow.{shallow_word}

-- bytes are a word in one way at most
pub one_word_tree : (bytes : List ℕ) (one other : Factors) → WordOf bytes one → WordOf bytes other → one ≡ other
one_word_tree bytes one other g h =
    let P : List Token → Type 0 = λ ts. IsWordText ts one in
    one_word h.tokens one other (subst P (one_list bytes g.tokens h.tokens g.spelled h.spelled) g.formed) h.formed

-- bytes have one meaning at most
pub one_meaning : (bytes : List ℕ) (names : List (List ℕ)) (inverses : List (Option ℕ)) (one other : Result (List ℕ) WordFault)
    → Meaning bytes names inverses one → Meaning bytes names inverses other → one ≡ other
one_meaning bytes names inverses one other g h =
    sym g.means ∙ (ap (word_meaning names inverses) (one_word_tree bytes g.factors h.factors g.formed h.formed) ∙ h.means)

-- a word isn't also a fault
no_fault_meant : (bytes : List ℕ) (names : List (List ℕ)) (inverses : List (Option ℕ)) (w : List ℕ) (fault : WordFault) (error : WordError)
    → Meaning bytes names inverses (Ok w) → Meaning bytes names inverses (Err fault) → error ≡ Memory
no_fault_meant bytes names inverses w fault error g h =
    let e = one_meaning bytes names inverses (Ok w) (Err fault) g h in cc

-- bytes that mean a word have no fault; want of memory is none of theirs
pub no_word_fault : (bytes : List ℕ) (names : List (List ℕ)) (inverses : List (Option ℕ)) (w : List ℕ) (error : WordError)
    → Meaning bytes names inverses (Ok w) → HasWordFault bytes names inverses error → error ≡ Memory
no_word_fault bytes names inverses w (Syntax at) meant fault = absurd (fault.none meant.formed.tokens meant.formed.spelled (meant.factors, meant.formed.formed))
no_word_fault bytes names inverses w (TooDeep at) meant fault = absurd (shallow_word bytes meant.factors meant.formed meant.shallow (suc at, fault.deep))
no_word_fault bytes names inverses w (UnknownGenerator name) meant fault = no_fault_meant bytes names inverses w _ (UnknownGenerator name) meant fault
no_word_fault bytes names inverses w (NoInverse name) meant fault = no_fault_meant bytes names inverses w _ (NoInverse name) meant fault
no_word_fault bytes names inverses w WordTooLong meant fault = no_fault_meant bytes names inverses w _ WordTooLong meant fault
no_word_fault bytes names inverses w Memory meant fault = refl

-- bytes that mean a word aren't refused
pub no_word_refused : (bytes : List ℕ) (names : List (List ℕ)) (inverses : List (Option ℕ)) (w : List ℕ) (error : WordError)
    → Meaning bytes names inverses (Ok w) → HasWordFault bytes names inverses error → error ≢ Memory → ⊥
no_word_refused bytes names inverses w error meant fault named = named (no_word_fault bytes names inverses w error meant fault)
