-- The refusal of a word as a tree, and the same as a word of a presentation.
use Rattle.std.specs.Prelude.{◌≡◌}
use Rattle.kb_record.specs.declared.error.RecordError.{RecordError}
use Rattle.kb_record.specs.declared.error.RecordError.TheVariants as record_errors
use Rattle.kb_record.specs.declared.error.WordError.{WordError}
use Rattle.kb_record.specs.declared.error.WordError.TheVariants as word_errors

abbrev pub SameRefusal : RecordError → WordError → Type 0
SameRefusal (record_errors.Syntax at) error = error ≡ word_errors.Syntax at
SameRefusal (record_errors.TooDeep at) error = error ≡ word_errors.TooDeep at
SameRefusal record_errors.Memory error = error ≡ word_errors.Memory
