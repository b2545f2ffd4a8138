-- The refusal of a presentation file for what the crates below refuse.
use Rattle.std.specs.Prelude.{◌≡◌}
use Rattle.kb_record.specs.declared.error.RecordError.{RecordError}
use Rattle.kb_record.specs.declared.error.RecordError.TheVariants as record_errors
use Rattle.kb_record.specs.declared.error.WordError.{WordError}
use Rattle.kb_record.specs.declared.error.WordError.TheVariants as word_errors
use Rattle.kb_fields.specs.declared.error.NamesFault.{NamesFault}
use Rattle.kb_fields.specs.declared.error.NamesFault.TheVariants as names_faults
use Rattle.kb_presfile.specs.declared.error.Field.TheVariants as kinds
use Rattle.kb_presfile.specs.declared.error.PresError.{PresError}
use Rattle.kb_presfile.specs.declared.error.PresError.TheVariants as errors

-- the refusal for bytes that are no text of a record
abbrev pub RefusesText : RecordError → PresError → Type 0
RefusesText (record_errors.Syntax at) error = error ≡ errors.Syntax at
RefusesText (record_errors.TooDeep at) error = error ≡ errors.TooDeep at
RefusesText record_errors.Memory error = error ≡ errors.Memory

-- the refusal for the fault of a word that stands in a text
abbrev pub RefusesWord : WordError → PresError → Type 0
RefusesWord (word_errors.Syntax at) error = error ≡ errors.Syntax at
RefusesWord (word_errors.TooDeep at) error = error ≡ errors.TooDeep at
RefusesWord (word_errors.UnknownGenerator name) error = error ≡ errors.UnknownGenerator name
RefusesWord (word_errors.NoInverse name) error = error ≡ errors.NoInverse name
RefusesWord word_errors.WordTooLong error = error ≡ errors.WordTooLong
RefusesWord word_errors.Memory error = error ≡ errors.Memory

-- the refusal for a fault of the generators' names
abbrev pub RefusesNames : NamesFault → PresError → Type 0
RefusesNames names_faults.WrongKind error = error ≡ errors.WrongKind kinds.GeneratorOrder
RefusesNames names_faults.TooMany error = error ≡ errors.TooManyGenerators
RefusesNames (names_faults.Taken name) error = error ≡ errors.NameTaken name
RefusesNames names_faults.Memory error = error ≡ errors.Memory
