-- The normal forms of a pair's words, and whether they are one word.
use Rattle.std.specs.Prelude.{List}
use Rattle.kb_word.specs.Words.{Pair}
use Rattle.kb_word.specs.Rewriting.{NormalForm}
use Rattle.kb_word.specs.Overlap.{IsResolved, IsUnresolved}
use Rattle.kb_overlap.specs.declared.pair.Joinability.{Joinability}
use Rattle.kb_overlap.specs.declared.pair.Joinability.TheVariants.{Joined, Apart}

-- the words of the second pair are the normal forms of those of the first
pub record AreNormalForms (rules : List Pair) (pair reduced : Pair) : Type 0 where
  pub first : NormalForm rules pair.0 reduced.0
  pub second : NormalForm rules pair.1 reduced.1

-- the pair is joined, or it is apart and its words have these different normal forms
abbrev pub JoinSays : List Pair → Pair → Pair → Joinability → Type 0
JoinSays rules pair reduced Joined = IsResolved rules pair
JoinSays rules pair reduced Apart = IsUnresolved rules pair reduced.0 reduced.1
