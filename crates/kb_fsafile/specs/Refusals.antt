-- What is refused below, as the refusal of an automaton file.
use Rattle.std.specs.Prelude.{◌≡◌}
use Rattle.kb_record.specs.declared.error.RecordError.{RecordError}
use Rattle.kb_record.specs.declared.error.RecordError.TheVariants as record_errors
use Rattle.kb_padding.specs.declared.error.PaddingFault.{PaddingFault}
use Rattle.kb_padding.specs.declared.error.PaddingFault.TheVariants as padding_faults
use Rattle.kb_fsafile.specs.declared.error.FsaError.{FsaError}
use Rattle.kb_fsafile.specs.declared.error.FsaError.TheVariants as errors

-- bytes that are no text of a record
abbrev pub SameRefusal : RecordError → FsaError → Type 0
SameRefusal (record_errors.Syntax at) error = error ≡ errors.Syntax at
SameRefusal (record_errors.TooDeep at) error = error ≡ errors.TooDeep at
SameRefusal record_errors.Memory error = error ≡ errors.Memory

-- a table of pairs that accepts a text that isn't padded
abbrev pub RefusesPadding : PaddingFault → FsaError → Type 0
RefusesPadding padding_faults.Inside error = error ≡ errors.PaddingInside
RefusesPadding padding_faults.Memory error = error ≡ errors.Memory
