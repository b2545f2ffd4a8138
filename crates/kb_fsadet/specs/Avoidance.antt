-- Texts of which no prefix is accepted, and the subset construction that reads those alone.
use Rattle.std.specs.Prelude.{◌≡◌, ℕ, Bool, true, List, ◌++◌, Option, Some, None, if◌then◌else◌}
use Rattle.std.specs.List.{list_any}
use Rattle.kb_explore.specs.Machine.{Machine}
use Rattle.kb_fsadet.specs.Nondeterministic.{Nondeterministic, LeadsSomehow, AcceptsSomehow, accepts_at}
use Rattle.kb_fsadet.specs.SubsetConstruction.{subsets}

-- no prefix of the text is accepted in any way, the text itself among them
abbrev pub Avoids : Nondeterministic → List ℕ → Type 0
Avoids automaton text =
    (front rest : List ℕ) → text ≡ front ++ rest → ¬ AcceptsSomehow automaton front

-- the state is among those to which the text leads, and no prefix of the text is accepted
pub record LeadsAvoiding (automaton : Nondeterministic) (text : List ℕ) (state : ℕ) : Type 0 where
  pub leads : LeadsSomehow automaton text state
  pub avoids : Avoids automaton text

-- whether one of the states accepts
abbrev pub any_accepts : Nondeterministic → List ℕ → Bool
any_accepts automaton = list_any (accepts_at automaton)

-- the set, where none of its states accepts
abbrev pub unless_accepting : Nondeterministic → Option (List ℕ) → Option (List ℕ)
unless_accepting automaton None = None
unless_accepting automaton (Some states) =
    if any_accepts automaton states then None else Some states

-- The subset construction without the sets that accept; each set that is left does.
abbrev pub avoiding : Nondeterministic → Machine (List ℕ)
avoiding automaton = record {
  start = unless_accepting automaton (subsets automaton).start;
  follow = λ states symbol. unless_accepting automaton ((subsets automaton).follow states symbol);
  accepts = λ states. true;
}
