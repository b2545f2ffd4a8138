-- What the crates below refuse is the first fault of the presentation file.
use Rattle.std.proofs.Common.{◌≡◌, ℕ, ◌<◌, ◌≤◌, List, length, Some, Result, Err, refl, sym, ap, ◌∙◌, subst}
use Rattle.std.specs.Prelude.{codes}
use Rattle.kb_record.specs.Tree.{Fields, Value}
use Rattle.kb_record.specs.Meaning.{WordFault, unknown_generator, no_inverse, too_long}
use Rattle.kb_record.specs.Faults.{HasTextFault, Evaluates}
use Rattle.kb_record.specs.declared.error.RecordError.{RecordError}
use Rattle.kb_record.specs.declared.error.RecordError.TheVariants as record_errors
use Rattle.kb_record.specs.declared.error.WordError.{WordError}
use Rattle.kb_record.specs.declared.error.WordError.TheVariants as word_errors
use Rattle.kb_fields.specs.Fields.{value_of, IsListOf}
use Rattle.kb_fields.specs.Generators.{most_generators, IsTakenAt, IsFirstTaken, HasNamesFault}
use Rattle.kb_fields.specs.declared.error.NamesFault.{NamesFault}
use Rattle.kb_fields.specs.declared.error.NamesFault.TheVariants as names_faults
use Rattle.kb_presfile.specs.Holds.{HasNames}
use Rattle.kb_presfile.specs.Checks.{is_there, is_of_kind, few_names, free_names}
use Rattle.kb_presfile.specs.Faults.{IsFaultOf, IsMemoryOr, IsFirstOf, IsFirstFrom, IsFreeBefore, HasPresFault}
use Rattle.kb_presfile.specs.Refusals.{RefusesText, RefusesWord, RefusesNames}
use Rattle.kb_presfile.specs.declared.error.Field.TheVariants as kinds
use Rattle.kb_presfile.specs.declared.error.PresError.{PresError}
use Rattle.kb_presfile.specs.declared.error.PresError.TheVariants as errors
use Rattle.kb_presfile.proofs.CheckLemmas.{first_at, first_found, passed, found_or_memory, memory_is_free}
use Rattle.kb_presfile.proofs.NoFault.{none_missing, names_of_kind, names_few}
use Rattle.kb_presfile.proofs.PlaceLemmas.{one_list_of_names}

-- the fault of bytes that are no text is one of the file
pub text_refused : (bytes : List ℕ) (refusal : RecordError) (error : PresError) → HasTextFault bytes refusal → RefusesText refusal error → HasPresFault bytes error
text_refused bytes (record_errors.Syntax at) error fault is = let P : PresError → Type 0 = λ e. HasPresFault bytes e in subst P (sym is) fault
text_refused bytes (record_errors.TooDeep at) error fault is = let P : PresError → Type 0 = λ e. HasPresFault bytes e in subst P (sym is) fault
text_refused bytes record_errors.Memory error fault is = let P : PresError → Type 0 = λ e. HasPresFault bytes e in subst P (sym is) tt

-- the fault that evaluating a word returns is that of its meaning
pub word_refused : (meaning : Result (List ℕ) WordFault) (fault : WordError) (error : PresError) → Evaluates meaning (Err fault) → RefusesWord fault error
    → IsMemoryOr (IsFaultOf meaning) error
word_refused meaning (word_errors.Syntax at) error given is = absurd given
word_refused meaning (word_errors.TooDeep at) error given is = absurd given
word_refused meaning (word_errors.UnknownGenerator name) error given is = found_or_memory (IsFaultOf meaning) error (unknown_generator name, given, is)
word_refused meaning (word_errors.NoInverse name) error given is = found_or_memory (IsFaultOf meaning) error (no_inverse name, given, is)
word_refused meaning word_errors.WordTooLong error given is = found_or_memory (IsFaultOf meaning) error (too_long, given, is)
word_refused meaning word_errors.Memory error given is = memory_is_free (IsFaultOf meaning) error is

-- the first fault of the generators' names is that of the fields
module _ (given : Fields) (value : Value) (at : value_of given (codes "generatorOrder") ≡ Some value) (free : IsFreeBefore given (is_there kinds.GeneratorOrder)) where
  free_there : IsFreeBefore given (is_of_kind kinds.GeneratorOrder)
  free_there = passed given (is_there kinds.GeneratorOrder) free (none_missing given kinds.GeneratorOrder value at) (is_of_kind kinds.GeneratorOrder) refl

  module _ (names : List (List ℕ)) (listed : IsListOf names value) where
    named : HasNames given names
    named = at ∙ ap Some listed

    free_kind : IsFreeBefore given few_names
    free_kind = passed given (is_of_kind kinds.GeneratorOrder) free_there (names_of_kind given names named) few_names refl

    too_many : most_generators < length names → IsFirstOf given errors.TooManyGenerators
    too_many many = first_found given few_names free_kind errors.TooManyGenerators (refl, names, named, many)

    first_taken : (name : List ℕ) → length names ≤ most_generators → IsFirstTaken names name → IsFirstOf given (errors.NameTaken name)
    first_taken name few fault =
        first_at given free_names (passed given few_names free_kind (names_few given names named few) free_names refl) fault.check (errors.NameTaken name)
        (record { names = names; named = named; name = name; refused = refl; taken = fault.found })
        (λ k other before found.
        let same = one_list_of_names given found.names names found.named named in
        let P : List (List ℕ) → Type 0 = λ ns. IsTakenAt ns k found.name in
        fault.first k found.name before (subst P same found.taken))

  of_names : (fault : NamesFault) (error : PresError) → HasNamesFault value fault → RefusesNames fault error → IsMemoryOr (IsFirstOf given) error
  of_names names_faults.WrongKind error fault is =
      let P : PresError → Type 0 = λ e. IsMemoryOr (IsFirstOf given) e in
      subst P (sym is)
      (first_found given (is_of_kind kinds.GeneratorOrder) free_there (errors.WrongKind kinds.GeneratorOrder) (refl, value, at, λ kind. fault kind.0 kind.1))
  of_names names_faults.TooMany error fault is =
      let P : PresError → Type 0 = λ e. IsMemoryOr (IsFirstOf given) e in
      subst P (sym is) (too_many fault.0 fault.1 fault.2)
  of_names (names_faults.Taken name) error fault is =
      let P : PresError → Type 0 = λ e. IsMemoryOr (IsFirstOf given) e in
      subst P (sym is) (first_taken fault.0 fault.1 name fault.2 fault.3)
  of_names names_faults.Memory error fault is = memory_is_free (IsFirstOf given) error is

pub names_refused : (given : Fields) (value : Value) (fault : NamesFault) (error : PresError) → value_of given (codes "generatorOrder") ≡ Some value
    → HasNamesFault value fault → RefusesNames fault error → IsFirstFrom given (is_there kinds.GeneratorOrder) error
names_refused given value fault error at has is = λ free. of_names given value at free fault error has is
