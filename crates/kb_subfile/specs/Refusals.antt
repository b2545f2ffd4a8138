-- The refusal of a file of a subgroup's generators for what the crates below refuse.
use Rattle.std.specs.Prelude.{◌≡◌}
use Rattle.kb_record.specs.declared.error.RecordError.{RecordError}
use Rattle.kb_record.specs.declared.error.RecordError.TheVariants as record_errors
use Rattle.kb_record.specs.declared.error.WordError.{WordError}
use Rattle.kb_record.specs.declared.error.WordError.TheVariants as word_errors
use Rattle.kb_subfile.specs.declared.error.SubError.{SubError}
use Rattle.kb_subfile.specs.declared.error.SubError.TheVariants as errors

-- the refusal for bytes that are no text of a record
abbrev pub RefusesText : RecordError → SubError → Type 0
RefusesText (record_errors.Syntax at) error = error ≡ errors.Syntax at
RefusesText (record_errors.TooDeep at) error = error ≡ errors.TooDeep at
RefusesText record_errors.Memory error = error ≡ errors.Memory

-- the refusal for the fault of a word that stands in a text
abbrev pub RefusesWord : WordError → SubError → Type 0
RefusesWord (word_errors.Syntax at) error = error ≡ errors.Syntax at
RefusesWord (word_errors.TooDeep at) error = error ≡ errors.TooDeep at
RefusesWord (word_errors.UnknownGenerator name) error = error ≡ errors.UnknownGenerator name
RefusesWord (word_errors.NoInverse name) error = error ≡ errors.NoInverse name
RefusesWord word_errors.WordTooLong error = error ≡ errors.WordTooLong
RefusesWord word_errors.Memory error = error ≡ errors.Memory
