use Rattle.std.proofs.Common.{map}
use Rattle.std.specs.Option.{option_copied}
use Rattle.kb_presfile.proofs.LetterSteps.{StandForFirst}
use Rattle.kb_presfile.proofs.inverses.letters_at.Given as goal

abbrev pub invariant-loop-place : goal.invariant-loop-place
invariant-loop-place l = StandForFirst l.names (map option_copied l.places) l.letters.items l.place
