-- What a verdict says.
use Rattle.std.specs.Prelude.{zero, suc, List}
use Rattle.kb_word.specs.Words.{Pair}
use Rattle.kb_word.specs.Overlap.{IsConfluent}
use Rattle.kb_confluence.specs.declared.confluence.Verdict.{Verdict}
use Rattle.kb_confluence.specs.declared.confluence.Verdict.TheVariants.{Yes, No}
use Rattle.kb_confluence.specs.FirstApart.{IsFirstApart, IsCounterexample}

-- `Yes` says this, and `No` names the first overlap that is apart, the rules being numbered from 1
abbrev pub MatchVerdict : Type 0 → List Pair → Verdict → Type 0
MatchVerdict when_yes rules Yes = when_yes
MatchVerdict when_yes rules (No (suc i) (suc j) place u v) = IsFirstApart rules i j place u v
MatchVerdict when_yes rules (No zero j place u v) = ⊥
MatchVerdict when_yes rules (No (suc i) zero place u v) = ⊥

-- the verdict on the rules: `Yes` says that they are confluent
abbrev pub IsVerdict : List Pair → Verdict → Type 0
IsVerdict rules = MatchVerdict (IsConfluent rules) rules

-- the two words of a `No` are a counterexample
abbrev pub GivesCounterexample : List Pair → Verdict → Type 0
GivesCounterexample rules Yes = Unit {0}
GivesCounterexample rules (No i j place u v) = IsCounterexample rules u v
