use Rattle.std.proofs.Common.{◌≡◌, ◌<◌, ℕ, [], ◌∷◌, length, Some}
use Rattle.std.specs.Prelude.{slice_get}
use Rattle.kb_wordreader.specs.Letters.{letter_of}
use Rattle.kb_wordreader.proofs.byte_letters.byte_letters.Given as goal

abbrev pub invariant-loop-byte : goal.invariant-loop-byte
invariant-loop-byte l = record {
  count : length l.letters.items ≡ l.byte;
  each : (byte : ℕ) → byte < l.byte → byte < 128 → slice_get l.letters.items byte ≡ Some (letter_of l.names (byte ∷ []));
}
