use Rattle.std.proofs.Common.{◌≡◌, ◌++◌, take}
use Rattle.kb_word.proofs.word.Word.extend_from_slice.Given as goal

-- the letters so far were added
abbrev pub invariant-loop-letter : goal.invariant-loop-letter
invariant-loop-letter l = l.self ≡ l.fn.self ++ take l.letter-index l.letters
