-- When each refusal of a file of a subgroup's generators comes: the fault that it names is the first.
use Rattle.std.specs.Prelude.{◌≡◌, ◌≢◌, ℕ, ◌<◌, ◌≤◌, List, Some, None, slice_get, Result, Err}
use Rattle.kb_word.specs.Presentations.{PresentationParts}
use Rattle.kb_record.specs.Tree.{Factors, Value, list_value, Fields, TextTree, record_value}
use Rattle.kb_record.specs.Faults.{HasTextFault}
use Rattle.kb_record.specs.Grammar.{TextOf}
use Rattle.kb_record.specs.Meaning.{WordFault, unknown_generator, no_inverse, too_long, word_meaning}
use Rattle.kb_record.specs.Nesting.{deepest, text_nesting}
use Rattle.kb_record.specs.declared.error.RecordError.TheVariants as record_errors
use Rattle.kb_fields.specs.FirstFaults.{IsFirstFault}
use Rattle.kb_fields.specs.Fields.{value_of, namings, IsRepeatedAt}
use Rattle.kb_subfile.specs.Checks.{Step, field_names, is_there, are_words, few_words, read_words, rank, Check, Before}
use Rattle.kb_subfile.specs.Holds.{field_name, list_of_words, HasWords, AreFew}
use Rattle.kb_subfile.specs.declared.error.SubError.{SubError}
use Rattle.kb_subfile.specs.declared.error.SubError.TheVariants as errors

-- the refusal for a fault of a word
abbrev pub refusal_of : WordFault → SubError
refusal_of (unknown_generator name) = errors.UnknownGenerator name
refusal_of (no_inverse name) = errors.NoInverse name
refusal_of too_long = errors.WordTooLong

-- the word's meaning is the fault
abbrev pub IsFaultOf : Result (List ℕ) WordFault → SubError → Type 0
IsFaultOf meaning error = (fault : WordFault) × (meaning ≡ Err fault) × (error ≡ refusal_of fault)

-- the word at this place of the list has the fault, over the presentation
pub record HasFaultAt (parts : PresentationParts) (words : List Factors) (place : ℕ)
    (error : SubError) : Type 0 where
  pub word : Factors
  pub stands : slice_get words place ≡ Some word
  pub fault : IsFaultOf (word_meaning parts.names parts.inverses word) error

-- the field's name at this place of the text is that of an earlier field of its record
abbrev pub NameIsRepeated : Fields → ℕ → SubError → Type 0
NameIsRepeated given place error =
    (name : List ℕ) × (error ≡ errors.FieldTwice name)
    × IsRepeatedAt (namings (record_value given)) place name

-- the text has the field, and its value is no list of words
abbrev pub IsNoList : Fields → Type 0
IsNoList given =
    (value : Value) × (value_of given field_name ≡ Some value)
    × ((words : List Factors) → value ≢ list_value (list_of_words words))

-- the text lists too many words
abbrev pub AreMany : PresentationParts → Fields → Type 0
AreMany parts given = (words : List Factors) × HasWords given words × ¬ AreFew parts words

-- the text's word at this place has the fault
abbrev pub WordHasFault : PresentationParts → Fields → ℕ → SubError → Type 0
WordHasFault parts given place error =
    (words : List Factors) × HasWords given words × HasFaultAt parts words place error

-- what each step finds at a place
abbrev pub StepFinds : PresentationParts → Fields → Step → ℕ → SubError → Type 0
StepFinds parts given field_names place error = NameIsRepeated given place error
StepFinds parts given is_there place error =
    (error ≡ errors.MissingField) × (value_of given field_name ≡ None)
StepFinds parts given are_words place error = (error ≡ errors.WrongKind) × IsNoList given
StepFinds parts given few_words place error =
    (error ≡ errors.TooManyEquations) × AreMany parts given
StepFinds parts given read_words place error = WordHasFault parts given place error

-- the check finds the fault in a text's fields
abbrev pub Finds : PresentationParts → Fields → Check → SubError → Type 0
Finds parts given check error = StepFinds parts given check.step check.place error

-- want of memory is left free
abbrev pub IsMemoryOr : (SubError → Type 0) → SubError → Type 0
IsMemoryOr Has errors.Memory = Unit {0}
IsMemoryOr Has error = Has error

-- the first fault of a text's fields
abbrev pub IsFirstOf : PresentationParts → Fields → SubError → Type 0
IsFirstOf parts given error = IsFirstFault Before (Finds parts given) error

-- no check of an earlier step finds a fault
pub record IsFreeBefore (parts : PresentationParts) (given : Fields) (step : Step) : Type 0 where
  pub none : (earlier : Check) (error : SubError) → rank earlier.step < rank step
      → ¬ Finds parts given earlier error

-- where the earlier steps find nothing, this is the first fault, or want of memory
abbrev pub IsFirstFrom : PresentationParts → Fields → Step → SubError → Type 0
IsFirstFrom parts given step error =
    IsFreeBefore parts given step → IsMemoryOr (IsFirstOf parts given) error

-- a text of the bytes has this as its first fault
pub record IsFirstOfText (parts : PresentationParts) (bytes : List ℕ)
    (error : SubError) : Type 0 where
  pub text : TextTree
  pub formed : TextOf bytes text
  pub shallow : text_nesting text ≤ deepest
  pub first : IsFirstOf parts text.fields error

-- The bytes' first fault, over the presentation, is the one that the refusal names.
abbrev pub HasSubFault : PresentationParts → List ℕ → SubError → Type 0
HasSubFault parts bytes (errors.Syntax at) = HasTextFault bytes (record_errors.Syntax at)
HasSubFault parts bytes (errors.TooDeep at) = HasTextFault bytes (record_errors.TooDeep at)
HasSubFault parts bytes errors.Memory = HasTextFault bytes record_errors.Memory
HasSubFault parts bytes error = IsFirstOfText parts bytes error
