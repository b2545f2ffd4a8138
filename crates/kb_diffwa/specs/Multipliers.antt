-- The multiplier of a generator, over an acceptor and word differences that are kept.
-- Epstein et al., Word Processing in Groups, 2.3; Holt, Eick, O'Brien, Handbook of Computational Group Theory, 13.2.
use Rattle.std.specs.Prelude.{◌≡◌, ◌↔◌, ℕ, suc, ◌+◌, ◌<◌, All, List, [], ◌∷◌, length, get_or, slice_get, Some}
use Rattle.kb_word.specs.Relations.{IsOver}
use Rattle.kb_word.specs.Rewriting.{NormalForm}
use Rattle.kb_fsa.specs.Table.{Table}
use Rattle.kb_fsa.specs.Padding.{IsTextOfPair, padded}
use Rattle.kb_fsa.specs.Language.{Automaton, Accepts, AcceptsPair}
use Rattle.kb_fsa.specs.declared.alphabet.Alphabet.TheVariants.{Pair}
use Rattle.kb_fsa.specs.Counted.{MoreSetsThan}
use Rattle.kb_labelled.specs.Labels.{LabelledAutomaton, label_after}
use Rattle.kb_diff.specs.Groups.{Group}
use Rattle.kb_diff.specs.Steps.{HasNumber, Leads}
use Rattle.kb_diffwa.specs.declared.place.Place.{Place}
use Rattle.kb_diffwa.specs.Tracks.{IsTrackAfter}

-- the acceptor accepts both words, and they lead from the empty word to the normal form of x
pub record IsMultiplied (group : Group) (words : List (List ℕ)) (acceptor : Automaton) (x : ℕ)
    (u v : List ℕ) : Type 0 where
  pub first : Accepts acceptor u
  pub second : Accepts acceptor v
  pub end : List ℕ
  pub normal : NormalForm group.rules (x ∷ []) end
  pub leads : Leads group words [] u v end

-- The automaton accepts those pairs of words. It accepts no others, since each text that it accepts
-- is that of a pair of words over its generators.
abbrev pub IsMultiplier : Group → List (List ℕ) → Automaton → ℕ → Automaton → Type 0
IsMultiplier group words acceptor x multiplier =
    (u v : List ℕ) → IsOver group.n u → IsOver group.n v
    → AcceptsPair multiplier u v ↔ IsMultiplied group words acceptor x u v

-- the automata are the multipliers of the generators 1, 2, .., so many
pub record AreMultipliers (group : Group) (words : List (List ℕ)) (acceptor : Automaton) (count : ℕ)
    (multipliers : List Automaton) : Type 0 where
  pub one_each : length multipliers ≡ count
  pub alphabets : All (λ fsa. fsa.alphabet ≡ Pair group.n) multipliers
  pub languages : (index : ℕ) (fsa : Automaton) → slice_get multipliers index ≡ Some fsa
      → IsMultiplier group words acceptor (suc index) fsa

-- By its labels the automaton is the multipliers of all generators: a pair is one of a generator's multiplier where it
-- has the label that the list has for the generator.
pub record HasMultipliers (group : Group) (words : List (List ℕ)) (acceptor : Automaton)
    (labelled : LabelledAutomaton) (targets : List ℕ) : Type 0 where
  pub one_each : length targets ≡ group.n
  pub alphabet : labelled.automaton.alphabet ≡ Pair group.n
  pub languages : (index target : ℕ) → slice_get targets index ≡ Some target
      → (u v : List ℕ) → IsOver group.n u → IsOver group.n v
      → (label_after labelled (padded group.n u v) ≡ Some target)
      ↔ IsMultiplied group words acceptor (suc index) u v

-- the first targets, so many: where the padding and each generator lead from the first difference, the empty word
pub record AreTargets (n : ℕ) (step : ℕ → ℕ → ℕ → ℕ) (done : ℕ)
    (targets : List ℕ) : Type 0 where
  pub count : length targets ≡ done
  pub each : (index : ℕ) → index < done → get_or targets index 0 ≡ step 1 (n + 1) (suc index)

-- the text is that of a pair of words, to which the place is led: both tracks and the number of their difference
pub record IsPlaceAfter (group : Group) (words : List (List ℕ)) (table : Table) (text : List ℕ)
    (place : Place) : Type 0 where
  pub first : List ℕ
  pub second : List ℕ
  pub is_text : IsTextOfPair group.n text first second
  pub first_track : IsTrackAfter table table.initial first second place.first
  pub second_track : IsTrackAfter table table.initial second first place.second
  pub difference : List ℕ
  pub number : HasNumber words place.difference difference
  pub leads : Leads group words [] first second difference

-- the multiplier counts the places to which texts of pairs lead
abbrev pub CountedPlaces : Group → List (List ℕ) → Table → ℕ → Type 0
CountedPlaces group words table = MoreSetsThan (IsPlaceAfter group words table)
