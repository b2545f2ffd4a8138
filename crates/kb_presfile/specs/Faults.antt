-- When each refusal of a presentation file comes: the fault that it names is the first.
use Rattle.std.specs.Prelude.{◌≡◌, ◌≢◌, ℕ, suc, ◌<◌, ◌≤◌, ◌⊎◌, ℤ, List, length, codes, Option, Some, None, slice_get, Result, Ok, Err}
use Rattle.kb_word.specs.Relations.{inverse_letter}
use Rattle.kb_record.specs.Tree.{Factors, Value, string_value, list_value, Fields, Places, TextTree, record_value}
use Rattle.kb_record.specs.Grammar.{TextOf}
use Rattle.kb_record.specs.Nesting.{deepest, text_nesting}
use Rattle.kb_record.specs.Faults.{HasTextFault}
use Rattle.kb_record.specs.declared.error.RecordError.TheVariants as record_errors
use Rattle.kb_record.specs.Meaning.{WordFault, unknown_generator, no_inverse, too_long, letter_from, word_meaning}
use Rattle.kb_fields.specs.FirstFaults.{IsFirstFault}
use Rattle.kb_fields.specs.Fields.{value_of, bare_name, list_of_names, list_of_numbers, value_at, place_count, namings, IsRepeatedAt}
use Rattle.kb_fields.specs.Generators.{most_generators, IsTakenAt}
use Rattle.kb_presfile.specs.Checks.{Step, field_names, is_there, is_of_kind, known_ordering, few_names, free_names, right_weights, known_inverses, mutual_inverses, few_equations, read_equations, rank, Check, Before}
use Rattle.kb_presfile.specs.Kinds.{list_of_places, equation_value}
use Rattle.kb_presfile.specs.Holds.{most_equations, IsOrdering, AreWeights, place_at, HoldsPlaces, HasNames, HasInverses}
use Rattle.kb_presfile.specs.declared.order.Ordering.TheVariants as orderings
use Rattle.kb_presfile.specs.declared.error.Field.{Field}
use Rattle.kb_presfile.specs.declared.error.Field.TheVariants as kinds
use Rattle.kb_presfile.specs.declared.error.PresError.{PresError}
use Rattle.kb_presfile.specs.declared.error.PresError.TheVariants as errors

-- the field's name in a file
abbrev pub name_of : Field → List ℕ
name_of kinds.IsRws = codes "isRWS"
name_of kinds.Ordering = codes "ordering"
name_of kinds.GeneratorOrder = codes "generatorOrder"
name_of kinds.Weight = codes "weight"
name_of kinds.Inverses = codes "inverses"
name_of kinds.Equations = codes "equations"

-- a file with these fields lacks no such field
abbrev pub IsNeeded : Fields → Field → Type 0
IsNeeded given kinds.IsRws = Unit {0}
IsNeeded given kinds.Ordering = ⊥
IsNeeded given kinds.GeneratorOrder = Unit {0}
IsNeeded given kinds.Weight = IsOrdering given orderings.WtLex
IsNeeded given kinds.Inverses = ⊥
IsNeeded given kinds.Equations = Unit {0}

-- The value is of the kind that the field holds: the name `true`; a string; a list of names; a list of numbers, where
-- the order goes by weight; a list of names and empty places, of which those past the last generator are empty; a list.
abbrev pub IsOfKind : Fields → Field → Value → Type 0
IsOfKind given kinds.IsRws value = value ≡ bare_name (codes "true")
IsOfKind given kinds.Ordering value = (text : List ℕ) × (value ≡ string_value text)
IsOfKind given kinds.GeneratorOrder value =
    (names : List (List ℕ)) × (value ≡ list_value (list_of_names names))
IsOfKind given kinds.Weight value =
    IsOrdering given orderings.WtLex
    → (numbers : List ℤ) × (value ≡ list_value (list_of_numbers numbers))
IsOfKind given kinds.Inverses value = (names : List (List ℕ)) → HasNames given names
    → (places : List (Option (List ℕ))) × (value ≡ list_value (list_of_places places))
    × ((k : ℕ) → length names ≤ k → place_at places k ≡ None)
IsOfKind given kinds.Equations value = (places : Places) × (value ≡ list_value places)

-- the text's names, and the names at its places for inverses
pub record HasPlaces (fields : Fields) (names : List (List ℕ))
    (places : List (Option (List ℕ))) : Type 0 where
  pub named : HasNames fields names
  pub placed : HoldsPlaces (value_of fields (codes "inverses")) places

-- this place for an inverse has a name that is no generator's
pub record PlaceIsUnknown (names : List (List ℕ)) (places : List (Option (List ℕ))) (place : ℕ)
    (error : PresError) : Type 0 where
  pub name : List ℕ
  pub refused : error ≡ errors.UnknownGenerator name
  pub stands : place_at places place ≡ Some name
  pub unknown : letter_from 1 names name ≡ None

-- the name at the k-th place stands for y, and at y's place no name stands for the k-th generator
pub record IsNotMutual (names : List (List ℕ)) (places : List (Option (List ℕ))) (k : ℕ)
    (error : PresError) : Type 0 where
  pub name : List ℕ
  pub refused : error ≡ errors.InverseNotMutual name
  pub is_name : slice_get names k ≡ Some name
  pub inverse : List ℕ
  pub y : ℕ
  pub at_k : place_at places k ≡ Some inverse
  pub is_y : letter_from 1 names inverse ≡ Some (suc y)
  pub not_back : (back : List ℕ) → place_at places y ≡ Some back
      → letter_from 1 names back ≢ Some (suc k)

-- The first place with an unknown name; or where there is none the first generator that isn't the inverse of its
-- inverse.
abbrev pub PlacesHaveFault : List (List ℕ) → List (Option (List ℕ)) → PresError → Type 0
PlacesHaveFault names places error =
    IsFirstFault ◌<◌ (PlaceIsUnknown names places) error
    ⊎ (((place : ℕ) (other : PresError) → ¬ PlaceIsUnknown names places place other)
    × IsFirstFault ◌<◌ (IsNotMutual names places) error)

-- the k-th generator has the name, and its inverse hasn't it as its inverse
pub record IsOneSided (names : List (List ℕ)) (inverses : List (Option ℕ)) (k : ℕ)
    (name : List ℕ) : Type 0 where
  pub y : ℕ
  pub is_name : slice_get names k ≡ Some name
  pub inverse : inverse_letter inverses (suc k) ≡ Some y
  pub not_back : inverse_letter inverses y ≢ Some (suc k)

-- the refusal for a fault of a word
abbrev pub refusal_of : WordFault → PresError
refusal_of (unknown_generator name) = errors.UnknownGenerator name
refusal_of (no_inverse name) = errors.NoInverse name
refusal_of too_long = errors.WordTooLong

-- the word's meaning is the fault
abbrev pub IsFaultOf : Result (List ℕ) WordFault → PresError → Type 0
IsFaultOf meaning error = (fault : WordFault) × (meaning ≡ Err fault) × (error ≡ refusal_of fault)

-- the fault of the left side, or of the right side where the left one has none
abbrev pub SidesHaveFault : List (List ℕ) → List (Option ℕ) → Factors × Factors → PresError → Type 0
SidesHaveFault names inverses sides error =
    IsFaultOf (word_meaning names inverses sides.0) error
    ⊎ ((word : List ℕ) × (word_meaning names inverses sides.0 ≡ Ok word)
    × IsFaultOf (word_meaning names inverses sides.1) error)

-- what stands at a place isn't an equation, or is one whose sides have the fault
abbrev pub PlaceHasFault : List (List ℕ) → List (Option ℕ) → Option Value → PresError → Type 0
PlaceHasFault names inverses place error =
    ((error ≡ errors.WrongKind kinds.Equations)
    × ((sides : Factors × Factors) → place ≢ Some (equation_value sides)))
    ⊎ ((sides : Factors × Factors) × (place ≡ Some (equation_value sides))
    × SidesHaveFault names inverses sides error)

-- this place of the list is within it, and has the fault
abbrev pub HasFaultAt : List (List ℕ) → List (Option ℕ) → Places → ℕ → PresError → Type 0
HasFaultAt names inverses places place error =
    (place < place_count places) × PlaceHasFault names inverses (value_at places place) error

-- the field's name at this place of the text is that of an earlier field of its record
abbrev pub NameIsRepeated : Fields → ℕ → PresError → Type 0
NameIsRepeated given place error =
    (name : List ℕ) × (error ≡ errors.FieldTwice name)
    × IsRepeatedAt (namings (record_value given)) place name

-- the ordering is a string, of another ordering
pub record IsOther (given : Fields) : Type 0 where
  pub text : List ℕ
  pub listed : value_of given (codes "ordering") ≡ Some (string_value text)
  pub not_shortlex : text ≢ codes "shortlex"
  pub not_wtlex : text ≢ codes "wtlex"

-- the name of the generator at this place is taken
pub record NameIsTaken (given : Fields) (place : ℕ) (error : PresError) : Type 0 where
  pub names : List (List ℕ)
  pub named : HasNames given names
  pub name : List ℕ
  pub refused : error ≡ errors.NameTaken name
  pub taken : IsTakenAt names place name

-- the order of the text goes by weight, and the numbers that it gives are no weights of its generators
pub record HasWrongWeights (fields : Fields) : Type 0 where
  pub ordering : IsOrdering fields orderings.WtLex
  pub names : List (List ℕ)
  pub named : HasNames fields names
  pub numbers : List ℤ
  pub listed : value_of fields (codes "weight") ≡ Some (list_value (list_of_numbers numbers))
  pub are_none : (weights : List ℕ) → ¬ AreWeights (length names) numbers weights

-- the text's name at this place for inverses is unknown
pub record InverseIsUnknown (fields : Fields) (place : ℕ) (error : PresError) : Type 0 where
  pub names : List (List ℕ)
  pub places : List (Option (List ℕ))
  pub has_places : HasPlaces fields names places
  pub fault : PlaceIsUnknown names places place error

-- the text's generator at this place isn't the inverse of its inverse
pub record InverseIsNotMutual (fields : Fields) (place : ℕ) (error : PresError) : Type 0 where
  pub names : List (List ℕ)
  pub places : List (Option (List ℕ))
  pub has_places : HasPlaces fields names places
  pub fault : IsNotMutual names places place error

-- the text's equation at this place has the fault, over its names and inverses
pub record EquationHasFault (fields : Fields) (place : ℕ) (error : PresError) : Type 0 where
  pub names : List (List ℕ)
  pub inverses : List (Option ℕ)
  pub named : HasNames fields names
  pub inverted : HasInverses fields names inverses
  pub places : Places
  pub listed : value_of fields (codes "equations") ≡ Some (list_value places)
  pub fault : HasFaultAt names inverses places place error

-- what each step finds at a place
abbrev pub StepFinds : Fields → Step → ℕ → PresError → Type 0
StepFinds given field_names place error = NameIsRepeated given place error
StepFinds given (is_there field) place error =
    (error ≡ errors.MissingField field) × IsNeeded given field
    × (value_of given (name_of field) ≡ None)
StepFinds given (is_of_kind field) place error =
    (error ≡ errors.WrongKind field)
    × (value : Value) × (value_of given (name_of field) ≡ Some value) × ¬ IsOfKind given field value
StepFinds given known_ordering place error = (error ≡ errors.OtherOrdering) × IsOther given
StepFinds given few_names place error =
    (error ≡ errors.TooManyGenerators)
    × (names : List (List ℕ)) × HasNames given names × (most_generators < length names)
StepFinds given free_names place error = NameIsTaken given place error
StepFinds given right_weights place error = (error ≡ errors.WeightsWrong) × HasWrongWeights given
StepFinds given known_inverses place error = InverseIsUnknown given place error
StepFinds given mutual_inverses place error = InverseIsNotMutual given place error
StepFinds given few_equations place error =
    (error ≡ errors.TooManyEquations)
    × (places : Places) × (value_of given (codes "equations") ≡ Some (list_value places))
    × (most_equations < place_count places)
StepFinds given read_equations place error = EquationHasFault given place error

-- the check finds the fault in a text's fields
abbrev pub Finds : Fields → Check → PresError → Type 0
Finds given check error = StepFinds given check.step check.place error

-- want of memory is left free
abbrev pub IsMemoryOr : (PresError → Type 0) → PresError → Type 0
IsMemoryOr Has errors.Memory = Unit {0}
IsMemoryOr Has error = Has error

-- the first fault of a text's fields
abbrev pub IsFirstOf : Fields → PresError → Type 0
IsFirstOf given error = IsFirstFault Before (Finds given) error

-- no check of an earlier step finds a fault
pub record IsFreeBefore (given : Fields) (step : Step) : Type 0 where
  pub none : (earlier : Check) (error : PresError) → rank earlier.step < rank step
      → ¬ Finds given earlier error

-- where the earlier steps find nothing, this is the first fault, or want of memory
abbrev pub IsFirstFrom : Fields → Step → PresError → Type 0
IsFirstFrom given step error = IsFreeBefore given step → IsMemoryOr (IsFirstOf given) error

-- a text of the bytes has this as its first fault
pub record IsFirstOfText (bytes : List ℕ) (error : PresError) : Type 0 where
  pub text : TextTree
  pub formed : TextOf bytes text
  pub shallow : text_nesting text ≤ deepest
  pub first : IsFirstOf text.fields error

-- The bytes' first fault is the one that the refusal names.
abbrev pub HasPresFault : List ℕ → PresError → Type 0
HasPresFault bytes (errors.Syntax at) = HasTextFault bytes (record_errors.Syntax at)
HasPresFault bytes (errors.TooDeep at) = HasTextFault bytes (record_errors.TooDeep at)
HasPresFault bytes errors.Memory = HasTextFault bytes record_errors.Memory
HasPresFault bytes error = IsFirstOfText bytes error
