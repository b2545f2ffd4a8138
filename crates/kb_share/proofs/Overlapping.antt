-- What is apart in the version of a book's live lines is an overlap of two of the book's lines.
use Rattle.std.proofs.Common.{◌≡◌, ℕ, List, get_or, Some, sym, ◌∙◌, ap}
use Rattle.std.specs.List.{All}
use Rattle.std.proofs.lemmas.Option.{get_or_from_slice_get}
use Rattle.kb_word.specs.Words.{Pair}
use Rattle.kb_machine.specs.Lines.{numbered, rules_of}
use Rattle.kb_machine.specs.States.{Problem, State}
use Rattle.kb_machine.specs.Course.{Course, IsSound}
use Rattle.kb_share.specs.Versions.{IsRuleOfLine, version_of}
use Rattle.kb_share.specs.Passes.{AreAllApart, IsApart, IsOverlapOfLines, entered}
use Rattle.kb_share.specs.declared.found.Found.{Found}
use Rattle.kb_share.proofs.LiveRules.{live_rule_at}

-- the rule of a line of the version is that of a live line
pub line_of_version : (problem : Problem) (state : State) (k : ℕ) (rule : Pair) → IsSound problem state
    → IsRuleOfLine (version_of state) k rule → numbered (rules_of state.lines) k ≡ Some rule
line_of_version problem state k rule sound line =
    live_rule_at problem state line.index k rule sound line.is_rule
    (sym (get_or_from_slice_get state.live line.index k k line.at))

-- an overlap of two of the version's lines
pub apart_overlaps : (problem : Problem) (state : State) (one : Found) → IsSound problem state → IsApart (version_of state) one
    → IsOverlapOfLines state one
apart_overlaps problem state one sound apart =
    let overlap = apart.overlap in (
      apart.first,
      apart.second,
      record {
        is_first = line_of_version problem state one.first apart.first sound overlap.is_first;
        is_second = line_of_version problem state one.second apart.second sound overlap.is_second;
        overlaps = overlap.overlaps;
        proper = overlap.proper;
      },
    )

-- all that are apart
pub all_overlap : (problem : Problem) (state : State) (found : List Found) → IsSound problem state
    → AreAllApart (version_of state) found → All (IsOverlapOfLines state) found
all_overlap problem state found sound all k d low =
    apart_overlaps problem state (get_or found k d) sound (all.each k d low)

-- an overlap is one still after others were entered
pub still_overlaps : (worker : ℕ) (before now : Course) (found : List Found) (one : Found) → now ≡ entered worker before found
    → IsOverlapOfLines before.state one → IsOverlapOfLines now.state one
still_overlaps worker before now found one enters overlap =
    let lines = ap (λ (c : Course). rules_of c.state.lines) enters in
    let at = overlap.2 in (
      overlap.0,
      overlap.1,
      record {
        is_first = ap (λ (rules : List Pair). numbered rules one.first) lines ∙ at.is_first;
        is_second = ap (λ (rules : List Pair). numbered rules one.second) lines ∙ at.is_second;
        overlaps = at.overlaps;
        proper = at.proper;
      },
    )
