-- A word that is evaluated as it is read, factor by factor.
use Rattle.std.proofs.Common.{◌≡◌, ℕ, ◌-◌, ℤ, List, [], ◌∷◌, ◌++◌, length, Bool, Option, Some, None, Result, Ok, Err, refl, sym, ap, ◌∙◌, subst}
use Rattle.std.specs.Prelude.{IfOk, IfErr}
use Rattle.kb_lexing.specs.Token.{Token}
use Rattle.kb_lexing.proofs.FrontTokens.{tokens_of}
use Rattle.kb_record.specs.Tree.{Factor, named, grouped, Factors, no_factors, factor}
use Rattle.kb_record.specs.Nesting.{deepest}
use Rattle.kb_record.specs.Meaning.{WordFault, and_then, product, factor_meaning, product_meaning, word_meaning}
use Rattle.kb_record.specs.Faults.{Evaluates, HasTreeFault, HasWordFault, Meaning}
use Rattle.kb_record.specs.Reading as reading
use Rattle.kb_record.specs.Reading.{Reading, read, Parse, Reads, Says, finished, reading_map, behind, read_name, read_power, factor_behind, factor_with, read_word}
use Rattle.kb_record.specs.Refusals.{SameRefusal}
use Rattle.kb_record.specs.Evaluation.{ReadsFor, Follows, GoesOn}
use Rattle.kb_record.specs.View.{factors_of, word_view}
use Rattle.kb_record.specs.declared.cursor.Mark.TheVariants.{OpenRound}
use Rattle.kb_record.specs.declared.cursor.Stop.{Stop}
use Rattle.kb_record.specs.declared.cursor.Stop.TheVariants as stops
use Rattle.kb_record.specs.declared.error.RecordError.{RecordError}
use Rattle.kb_record.specs.declared.error.RecordError.TheVariants as errors
use Rattle.kb_record.proofs.TokensToBytes.{LexedOf, word_read, word_shallow}
use Rattle.kb_record.proofs.ByteFaults.{word_fault}
use Rattle.kb_record.specs.declared.error.WordError.{WordError}
use Rattle.kb_record.specs.declared.error.WordError.TheVariants.{Syntax, TooDeep, UnknownGenerator, NoInverse, WordTooLong, Memory}

-- factors, and others behind them
abbrev pub before : List Factor → Factors → Factors
before [] others = others
before (f ∷ fs) others = factor f (before fs others)

pub before_one_more : (fs : List Factor) (f : Factor) (others : Factors) → before (fs ++ f ∷ []) others ≡ before fs (factor f others)
before_one_more [] f others = refl
before_one_more (g ∷ fs) f others = ap (factor g) (before_one_more fs f others)

pub before_none : (fs : List Factor) → before fs no_factors ≡ factors_of fs
before_none [] = refl
before_none (f ∷ fs) = ap (factor f) (before_none fs)

-- a fault stays
pub fault_stays : (meaning : Result (List ℕ) WordFault) (next : List ℕ → Result (List ℕ) WordFault) (fault : WordError) → Evaluates meaning (Err fault) → Evaluates (and_then meaning next) (Err fault)
fault_stays meaning next Memory e = tt
fault_stays meaning next (UnknownGenerator name) e = ap (λ m. and_then m next) e
fault_stays meaning next (NoInverse name) e = ap (λ m. and_then m next) e
fault_stays meaning next WordTooLong e = ap (λ m. and_then m next) e
fault_stays meaning next (Syntax at) e = absurd e
fault_stays meaning next (TooDeep at) e = absurd e

module _ (names : List (List ℕ)) (inverses : List (Option ℕ)) where
  goes_on_behind : (w : List ℕ) (f : Factor) (others : Factors) (whole : Result (List ℕ) WordFault) (result : Result (List ℕ) WordError) → whole ≡ product_meaning names inverses w (factor f others)
      → Evaluates (and_then (factor_meaning names inverses f) (product w)) result → GoesOn names inverses result others whole
  goes_on_behind w f others whole (Ok v) e h = e ∙ ap (λ m. and_then m (λ u. product_meaning names inverses u others)) h
  goes_on_behind w f others whole (Err fault) e h =
      let P : Result (List ℕ) WordFault → Type 0 = λ m. Evaluates m (Err fault) in
      subst P (sym e) (fault_stays (and_then (factor_meaning names inverses f) (product w)) (λ u. product_meaning names inverses u others) fault h)

  pub goes_on : (so_far next result : Result (List ℕ) WordError) (f : Factor) (others : Factors) (whole : Result (List ℕ) WordFault) → GoesOn names inverses so_far (factor f others) whole
      → ((w : List ℕ) → so_far ≡ Ok w → Evaluates (factor_meaning names inverses f) next) → Follows so_far next result → GoesOn names inverses result others whole
  goes_on (Ok w) next result f others whole on means follows = goes_on_behind w f others whole result on (follows (factor_meaning names inverses f) (means w refl))
  goes_on (Err fault) next result f others whole on means follows =
      let P : Result (List ℕ) WordError → Type 0 = λ r. GoesOn names inverses r others whole in
      subst P (sym follows) on

  -- behind the last factor nothing is to come
  pub goes_on_to_end : (result : Result (List ℕ) WordError) (whole : Result (List ℕ) WordFault) → GoesOn names inverses result no_factors whole → Evaluates whole result
  goes_on_to_end (Ok w) whole on = on
  goes_on_to_end (Err fault) whole on = on

  -- what evaluates to a fault has it
  pub has_fault : (bytes : List ℕ) (meaning : Result (List ℕ) WordFault) (fault : WordError) → Meaning bytes names inverses meaning → Evaluates meaning (Err fault) → HasWordFault bytes names inverses fault
  has_fault bytes meaning Memory m e = tt
  has_fault bytes meaning (UnknownGenerator name) m e = subst (λ r. Meaning bytes names inverses r) e m
  has_fault bytes meaning (NoInverse name) m e = subst (λ r. Meaning bytes names inverses r) e m
  has_fault bytes meaning WordTooLong m e = subst (λ r. Meaning bytes names inverses r) e m
  has_fault bytes meaning (Syntax at) m e = absurd e
  has_fault bytes meaning (TooDeep at) m e = absurd e

  -- the fault of the bytes as a tree is theirs as a word
  pub tree_fault : (bytes : List ℕ) (refusal : RecordError) (error : WordError) → SameRefusal refusal error → HasTreeFault bytes refusal → HasWordFault bytes names inverses error
  tree_fault bytes (errors.Syntax at) error same fault = subst (HasWordFault bytes names inverses) (sym same) fault
  tree_fault bytes (errors.TooDeep at) error same fault = subst (HasWordFault bytes names inverses) (sym same) fault
  tree_fault bytes errors.Memory error same fault = subst (HasWordFault bytes names inverses) (sym same) fault

  -- the whole bytes are a word with this tree
  pub word_is : (bytes : List ℕ) (whole : Bool) (tree : Factors) (rest : List Token) → LexedOf bytes whole → finished whole (read_word deepest (tokens_of bytes)) ≡ read tree rest → Meaning bytes names inverses (word_meaning names inverses tree)
  word_is bytes whole tree rest lexed e = record {
    factors = tree;
    formed = word_read bytes whole tree rest lexed e;
    shallow = word_shallow whole (tokens_of bytes) rest tree e;
    means = refl;
  }

  pub word_if_ok : (bytes : List ℕ) (meaning : Result (List ℕ) WordFault) (outcome : Result (List ℕ) WordError) → Meaning bytes names inverses meaning → Evaluates meaning outcome → IfOk outcome (λ w. Meaning bytes names inverses (Ok w))
  word_if_ok bytes meaning (Ok w) m e = subst (λ r. Meaning bytes names inverses r) e m
  word_if_ok bytes meaning (Err fault) m e = tt

  pub fault_if_err : (bytes : List ℕ) (meaning : Result (List ℕ) WordFault) (outcome : Result (List ℕ) WordError) → Meaning bytes names inverses meaning → Evaluates meaning outcome → IfErr outcome (HasWordFault bytes names inverses)
  fault_if_err bytes meaning (Ok w) m e = tt
  fault_if_err bytes meaning (Err fault) m e = has_fault bytes meaning fault m e

-- ---- reading

pub group_then : (group : Parse Factors) (tokens inside after rest : List Token) (fs : Factors) (power : Option ℤ) → behind OpenRound tokens ≡ Some inside → group inside ≡ read fs after → read_power after ≡ read power rest
    → factor_with group tokens ≡ read (grouped fs power) rest
group_then group tokens inside after rest fs power e g p =
    ap (factor_behind group tokens) e ∙ ap (λ r. reading.and_then r (λ factors rest'. reading_map (grouped factors) (read_power rest'))) g ∙ ap (reading_map (grouped fs)) p

pub name_then : (group : Parse Factors) (tokens after rest : List Token) (text : List ℕ) (power : Option ℤ) → behind OpenRound tokens ≡ None → read_name tokens ≡ read text after → read_power after ≡ read power rest
    → factor_with group tokens ≡ read (named text power) rest
name_then group tokens after rest text power e n p =
    ap (factor_behind group tokens) e ∙ ap (λ r. reading.and_then r (λ spelling rest'. reading_map (named spelling) (read_power rest'))) n ∙ ap (reading_map (named text)) p

pub as_answered_for : {A B : Type 0} (found whole : Reading A) (Means : A → B → Type 0) (result : Result B Stop) (stop : Stop) (rest : List Token) → whole ≡ found → result ≡ Err stop → Reads found (λ (tree : A). tree) (Err stop) rest → ReadsFor whole Means result rest
as_answered_for found whole Means result stop rest e f h =
    let P : Reading _ → Type 0 = λ r. ReadsFor r Means result rest in
    let Q : Result _ Stop → Type 0 = λ r. ReadsFor found Means r rest in
    subst P (sym e) (subst Q (sym f) h)

-- a stop says the same whatever would have been read
seen_otherwise : (reading : Reading Factors) (stop : Stop) (rest : List Token) → Reads reading (λ (tree : Factors). tree) (Err stop) rest → Reads reading word_view (Err stop) rest
seen_otherwise reading (stops.Unexpected expected) rest h = h
seen_otherwise reading stops.TooDeep rest h = h
seen_otherwise reading stops.Memory rest h = h

pub stopped : (bytes : List ℕ) (whole : Bool) (rest : List Token) (count : ℕ) (stop : Stop) (refusal : RecordError) → LexedOf bytes whole → Reads (finished whole (read_word deepest (tokens_of bytes))) (λ (tree : Factors). tree) (Err stop) rest
    → count ≡ length (tokens_of bytes) - length rest → Says bytes count stop refusal → HasTreeFault bytes refusal
stopped bytes whole rest count stop refusal lexed h few says = word_fault bytes whole rest count stop refusal lexed (seen_otherwise _ stop rest h) few says
