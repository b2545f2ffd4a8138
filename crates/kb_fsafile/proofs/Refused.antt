-- Refusals of the names of letters, of accepting states and of rows, as the first fault.
use Rattle.std.proofs.Common.{◌≡◌, ℕ, List, inl, inr, Some, refl}
use Rattle.std.specs.Prelude.{codes}
use Rattle.kb_record.specs.Tree.{Value, Fields, Places}
use Rattle.kb_fields.specs.Fields.{value_of}
use Rattle.kb_fields.specs.FirstFaults.{IsFirstFault}
use Rattle.kb_fields.specs.Generators.{HasNamesFault}
use Rattle.kb_fields.specs.declared.error.NamesFault.TheVariants as names_faults
use Rattle.kb_fields.proofs.NameFaults.{one_names_fault}
use Rattle.kb_fsafile.specs.Kinds.{IsNumbers}
use Rattle.kb_fsafile.specs.Holds.{HoldsStates}
use Rattle.kb_fsafile.specs.Checks.{accepting_field, names_field, Check, no_field_twice, of_field, of_row, padded_texts, Before, BeforeInTable}
use Rattle.kb_fsafile.specs.Standing.{HasNamesOf, HasTableOf}
use Rattle.kb_fsafile.specs.Faults.{FindsInRows, Finds, IsFirstOf}
use Rattle.kb_fsafile.specs.Reading.{IsOutside, IsMemoryOr, IsFreeBefore, IsFirstFrom}
use Rattle.kb_fsafile.specs.RowsRead.{IsFirstOfRows}
use Rattle.kb_fsafile.specs.declared.format.Format.{Format}
use Rattle.kb_fsafile.specs.declared.error.FsaError.{FsaError}
use Rattle.kb_fsafile.specs.declared.error.FsaError.TheVariants as errors
use Rattle.kb_fsafile.proofs.FirstLemmas.{value_refused, element_refused, memory_or_weaker}
use Rattle.kb_fsafile.proofs.NoFault.{in_table}

-- ---- names

not_too_many : (value : Value) (name : List ℕ) → HasNamesFault value (names_faults.Taken name) → HasNamesFault value names_faults.TooMany → ⊥
not_too_many value name taken many =
    let never = one_names_fault value names_faults.TooMany (names_faults.Taken name) many taken (λ e. cc) (λ e. cc) in cc

module _ (given letters : Fields) (value : Value) (has : HasNamesOf given letters) (is : value_of letters (codes "names") ≡ Some value) where
  pub too_many_refused : HasNamesFault value names_faults.TooMany → IsFirstFrom 7 given errors.TooManyGenerators
  too_many_refused many = value_refused given names_field letters has value is (many.0, many.1) errors.TooManyGenerators (refl, many)

  pub taken_refused : (name : List ℕ) → HasNamesFault value (names_faults.Taken name) → IsFirstFrom 7 given (errors.NameTaken name)
  taken_refused name taken =
      element_refused given names_field letters has value is (taken.0, taken.1) (λ e refusal. not_too_many value name taken refusal.1) (errors.NameTaken name) (name, refl, taken)

-- ---- accepting states

pub accepting_refused : (given : Fields) (count : ℕ) (value : Value) (error : FsaError) → HoldsStates given count → value_of given (codes "accepting") ≡ Some value
    → IsNumbers value → IsMemoryOr (IsOutside count value) error → IsFirstFrom 15 given error
accepting_refused given count value errors.Memory counted is numbers fault free = tt
accepting_refused given count value error counted is numbers fault free =
    element_refused given accepting_field given refl value is numbers (λ e refusal. refusal) error (fault.0, count, fault.1, counted, fault.2, fault.3) free

-- ---- rows

module _ (given : Fields) (format : Format) (size count : ℕ) (places : Places) (has : HasTableOf given format size count places) (free : IsFreeBefore given 20) where
  first_in_rows : (error : FsaError) → IsFirstFault BeforeInTable (FindsInRows format size count places) error → IsFirstOf given error
  first_in_rows error fault = record {
    check = of_row fault.check.0 fault.check.1;
    found = (format, size, count, places, has, fault.found);
    first = λ earlier e before found. sooner earlier e before found;
  }
    where
      sooner : (earlier : Check) (e : FsaError) → Before earlier (of_row fault.check.0 fault.check.1) → Finds given earlier e → ⊥
      sooner earlier e (inl before) found = free.none earlier e before found
      sooner no_field_twice e (inr same) found = absurd same.1
      sooner (of_field p s) e (inr same) found = absurd same.1
      sooner (of_row k s) e (inr same) found =
          fault.first (k, s) e same.1 (in_table given format size count places has (k, s) e found.0 found.1 found.2 found.3 found.4 found.5)
      sooner padded_texts e (inr same) found = absurd same.1

  pub rows_refused : (error : FsaError) → IsFirstOfRows format size count places error → IsMemoryOr (IsFirstOf given) error
  rows_refused error fault = memory_or_weaker (IsFirstFault BeforeInTable (FindsInRows format size count places)) (IsFirstOf given) first_in_rows error fault
