-- What is refused is the first fault of the file.
use Rattle.std.proofs.Common.{◌≡◌, ◌≢◌, ℕ, ◌<◌, List, Some, None, Result, Err, refl, sym, subst, ◌∙◌}
use Rattle.kb_word.specs.Presentations.{PresentationParts}
use Rattle.kb_record.specs.Tree.{Factors, Value, list_value, Fields, record_value}
use Rattle.kb_record.specs.Faults.{HasTextFault, Evaluates}
use Rattle.kb_record.specs.Meaning.{WordFault, unknown_generator, no_inverse, too_long}
use Rattle.kb_record.specs.declared.error.RecordError.{RecordError}
use Rattle.kb_record.specs.declared.error.RecordError.TheVariants as record_errors
use Rattle.kb_record.specs.declared.error.WordError.{WordError}
use Rattle.kb_record.specs.declared.error.WordError.TheVariants as word_errors
use Rattle.kb_fields.specs.FirstFaults.{IsFirstFault}
use Rattle.kb_fields.specs.Fields.{value_of, HasFieldTwice, IsFirstRepeated}
use Rattle.kb_fields.proofs.ListingLemmas.{some_value}
use Rattle.kb_fields.proofs.NamingLemmas.{none_within}
use Rattle.kb_subfile.specs.Checks.{Step, field_names, is_there, are_words, few_words, read_words}
use Rattle.kb_subfile.specs.Holds.{field_name, list_of_words, HasWords, AreFew, Mean}
use Rattle.kb_subfile.specs.Faults.{IsFaultOf, HasFaultAt, StepFinds, IsMemoryOr, IsFirstOf, IsFreeBefore, HasSubFault}
use Rattle.kb_subfile.specs.Refusals.{RefusesText, RefusesWord}
use Rattle.kb_subfile.specs.declared.error.SubError.{SubError}
use Rattle.kb_subfile.specs.declared.error.SubError.TheVariants as errors
use Rattle.kb_subfile.proofs.CheckLemmas.{at_start, first_at, first_found, passed, found_or_memory, memory_or_weaker, memory_is_free}
use Rattle.kb_subfile.proofs.WordLemmas.{one_list_of_words, none_faulty}

-- the fault of bytes that are no text is one of the file
pub text_refused : (parts : PresentationParts) (bytes : List ℕ) (refusal : RecordError) (error : SubError) → HasTextFault bytes refusal → RefusesText refusal error
    → HasSubFault parts bytes error
text_refused parts bytes (record_errors.Syntax at) error fault is = let P : SubError → Type 0 = λ e. HasSubFault parts bytes e in subst P (sym is) fault
text_refused parts bytes (record_errors.TooDeep at) error fault is = let P : SubError → Type 0 = λ e. HasSubFault parts bytes e in subst P (sym is) fault
text_refused parts bytes record_errors.Memory error fault is = let P : SubError → Type 0 = λ e. HasSubFault parts bytes e in subst P (sym is) tt

-- the fault that evaluating a word returns is that of its meaning
pub word_refused : (meaning : Result (List ℕ) WordFault) (fault : WordError) (error : SubError) → Evaluates meaning (Err fault) → RefusesWord fault error
    → IsMemoryOr (IsFaultOf meaning) error
word_refused meaning (word_errors.Syntax at) error given is = absurd given
word_refused meaning (word_errors.TooDeep at) error given is = absurd given
word_refused meaning (word_errors.UnknownGenerator name) error given is = found_or_memory (IsFaultOf meaning) error (unknown_generator name, given, is)
word_refused meaning (word_errors.NoInverse name) error given is = found_or_memory (IsFaultOf meaning) error (no_inverse name, given, is)
word_refused meaning word_errors.WordTooLong error given is = found_or_memory (IsFaultOf meaning) error (too_long, given, is)
word_refused meaning word_errors.Memory error given is = memory_is_free (IsFaultOf meaning) error is

module _ (parts : PresentationParts) (given : Fields) where
  -- the step finds nothing at any place
  abbrev pub FindsNone : Step → Type 0
  FindsNone step = (k : ℕ) (e : SubError) → StepFinds parts given step k e → ⊥

  -- each name of a field stands once
  pub none_repeated : ((name : List ℕ) → HasFieldTwice (record_value given) name → ⊥) → FindsNone field_names
  none_repeated once k e found = none_within (record_value given) once k found.0 found.2

  pub none_missing : (value : Value) → value_of given field_name ≡ Some value → FindsNone is_there
  none_missing value is k e found = let never = sym found.1 ∙ is in cc

  module _ (words : List Factors) (listed : HasWords given words) where
    pub none_of_other_kind : FindsNone are_words
    none_of_other_kind k e found = found.1.2 words (some_value (sym found.1.1 ∙ listed))

    pub none_too_many : AreFew parts words → FindsNone few_words
    none_too_many few k e found =
        let P : List Factors → Type 0 = λ ws. AreFew parts ws in
        found.1.2 (subst P (one_list_of_words given words found.1.0 listed found.1.1) few)

    fault_of : (k : ℕ) (e : SubError) → StepFinds parts given read_words k e → HasFaultAt parts words k e
    fault_of k e found =
        let P : List Factors → Type 0 = λ ws. HasFaultAt parts ws k e in
        subst P (one_list_of_words given found.0 words found.1 listed) found.2

    pub none_unread : (generators : List (List ℕ)) → Mean parts words generators → FindsNone read_words
    none_unread generators mean k e found = none_faulty parts words generators k e mean (fault_of k e found)

    -- ---- faults

    module _ (free : IsFreeBefore parts given are_words) where
      free_words : IsFreeBefore parts given few_words
      free_words = passed parts given are_words free none_of_other_kind few_words refl

      pub many_fault : (AreFew parts words → ⊥) → IsFirstOf parts given errors.TooManyEquations
      many_fault many = first_found parts given few_words free_words errors.TooManyEquations (refl, (words, listed, many))

      first_of_words : AreFew parts words → (e : SubError) → IsFirstFault ◌<◌ (HasFaultAt parts words) e → IsFirstOf parts given e
      first_of_words few e fault =
          first_at parts given read_words (passed parts given few_words free_words (none_too_many few) read_words refl) fault.check e (words, listed, fault.found)
          (λ k other before found. fault.first k other before (fault_of k other found))

      pub words_fault : AreFew parts words → (error : SubError) → IsMemoryOr (IsFirstFault ◌<◌ (HasFaultAt parts words)) error → IsMemoryOr (IsFirstOf parts given) error
      words_fault few error fault = memory_or_weaker (IsFirstFault ◌<◌ (HasFaultAt parts words)) (IsFirstOf parts given) (first_of_words few) error fault

  pub repeated_fault : (name : List ℕ) → IsFirstRepeated (record_value given) name → IsFirstOf parts given (errors.FieldTwice name)
  repeated_fault name fault =
      first_at parts given field_names (at_start parts given) fault.check (errors.FieldTwice name) (name, refl, fault.found)
      (λ k other before found. fault.first k found.0 before found.2)

  pub missing_fault : value_of given field_name ≡ None → IsFreeBefore parts given is_there → IsFirstOf parts given errors.MissingField
  missing_fault absent free = first_found parts given is_there free errors.MissingField (refl, absent)

  pub kind_fault : (value : Value) → value_of given field_name ≡ Some value → ((words : List Factors) → value ≢ list_value (list_of_words words))
      → IsFreeBefore parts given are_words → IsFirstOf parts given errors.WrongKind
  kind_fault value is other free = first_found parts given are_words free errors.WrongKind (refl, (value, is, other))

  pub after_there : (value : Value) → value_of given field_name ≡ Some value → IsFreeBefore parts given is_there → IsFreeBefore parts given are_words
  after_there value is free = passed parts given is_there free (none_missing value is) are_words refl

  pub after_once : ((name : List ℕ) → HasFieldTwice (record_value given) name → ⊥) → IsFreeBefore parts given is_there
  after_once once = passed parts given field_names (at_start parts given) (none_repeated once) is_there refl
