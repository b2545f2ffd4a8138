-- The first fault of a text, where faults are found by checks that come one before another.
pub use Rattle.kb_record.specs.FirstFaults.{IsFirstFault}
