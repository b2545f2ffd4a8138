use Rattle.std.proofs.Common.{◌≡◌, ◌∷◌, ◌++◌, ℕ, take}
use Rattle.kb_word.proofs.PrintLemmas.{begun}
use Rattle.kb_word.proofs.printed.append_word.Given as goal

-- the letters before this one are printed
abbrev pub invariant-loop-letter : goal.invariant-loop-letter
invariant-loop-letter l = record {
  first : ℕ;
  whole : l.word ≡ first ∷ l.rest;
  so_far : l.out.items ≡ l.fn.out.items ++ begun l.names first (take l.letter-index l.rest);
}
