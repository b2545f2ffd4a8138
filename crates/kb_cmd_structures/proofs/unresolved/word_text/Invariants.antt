use Rattle.std.proofs.Common.{◌≡◌, ◌∷◌, ℕ, take}
use Rattle.std.specs.Prelude.{string_bytes}
use Rattle.kb_word.proofs.PrintLemmas.{begun}
use Rattle.kb_cmd_structures.proofs.unresolved.word_text.Given as goal

-- the letters before this one stand in the text
abbrev pub invariant-loop-letter : goal.invariant-loop-letter
invariant-loop-letter l = record {
  first : ℕ;
  whole : l.word ≡ first ∷ l.rest;
  so_far : string_bytes l.text ≡ begun l.names first (take l.letter-index l.rest);
}
