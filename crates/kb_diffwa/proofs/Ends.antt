-- Where texts of pairs end: at places where both words may, with a number of a difference.
use Rattle.std.proofs.Common.{◌≡◌, ◌↔◌, ℕ, zero, suc, Bool, true, false, nat_eq, ◌&&◌, ◌||◌, List, [], ◌∷◌, map, slice_get, Option, Some, None, refl, sym, ap, ◌∙◌, subst}
use Rattle.std.specs.List.{list_any}
use Rattle.std.proofs.lemmas.Bool.{and_from, and_parts, eq-eqb, eqb-true, false≢true}
use Rattle.std.proofs.lemmas.List.{get_or-map}
use Rattle.std.proofs.lemmas.Map.Keys.{any_passes_from_place}
use Rattle.std.proofs.lemmas.Option.{get_or_from_slice_get, none-some, slice_get_within}
use Rattle.kb_fsa.specs.Table.{Table, is_accepting, state_after}
use Rattle.kb_labelled.specs.Labels.{label_from, label_of, listed_for}
use Rattle.kb_labelled.proofs.Likeness.{accepting_from_label, label_accepting}
use Rattle.kb_explore.specs.Exploration.{IsExploration, numbered}
use Rattle.kb_explore.specs.Machine.{Machine, MachineAccepts, leads}
use Rattle.kb_explore.proofs.ExplorationLemmas.{leads_nowhere}
use Rattle.kb_diffwa.specs.declared.place.Place.{Place}
use Rattle.kb_diffwa.specs.Pairs.{pairs}
use Rattle.kb_diffwa.specs.Tracks.{may_end}

-- the text leads to a place where both words may end, with the number of the difference
pub record EndsAt (table : Table) (machine : Machine Place) (text : List ℕ) (target : ℕ) : Type 0 where
  pub place : Place
  pub leads_there : leads machine text ≡ Some place
  pub first : may_end table place.first ≡ true
  pub second : may_end table place.second ≡ true
  pub difference : place.difference ≡ target

-- the number is that of a difference at which pairs are accepted
abbrev has : List ℕ → ℕ → Bool
has targets difference = list_any (λ target. nat_eq target difference) targets

has_only : (target difference : ℕ) → has (target ∷ []) difference ≡ true → target ≡ difference
has_only target difference is = eqb-true target difference (by (nat_eq target difference) is)
  where
    by : (b : Bool) → (b || false) ≡ true → b ≡ true
    by false never = absurd (false≢true never)
    by true also = refl

has_at : (targets : List ℕ) (index target : ℕ) → slice_get targets index ≡ Some target → has targets target ≡ true
has_at targets index target at = any_passes_from_place (λ one. nat_eq one target) targets index target at (eq-eqb target target refl)

module _ (table : Table) (n : ℕ) (step : ℕ → ℕ → ℕ → ℕ) (targets : List ℕ) where
  abbrev machine : Machine Place
  machine = pairs table n step targets

  -- what is accepted ends
  ends_of_accepts : (text : List ℕ) (place : Place) → leads machine text ≡ Some place → machine.accepts place ≡ true
      → EndsAt table machine text place.difference
  ends_of_accepts text place at accepts =
      let parts = and_parts (may_end table place.first) (may_end table place.second && has targets place.difference) accepts in
      let more = and_parts (may_end table place.second) (has targets place.difference) parts.1 in
      record { place = place; leads_there = at; first = parts.0; second = more.0; difference = refl }

  accepts_of_ends : (text : List ℕ) (target : ℕ) → has targets target ≡ true → (ends : EndsAt table machine text target)
      → machine.accepts ends.place ≡ true
  accepts_of_ends text target is ends =
      let place = ends.place in
      let there = ap (has targets) ends.difference ∙ is in
      and_from (may_end table place.first) (may_end table place.second && has targets place.difference) ends.first
      (and_from (may_end table place.second) (has targets place.difference) ends.second there)

  -- ---- labels by the numbers of differences

  module _ {made : Table} {states : List Place} {origins : List (ℕ × ℕ)} (explored : IsExploration machine made states origins) where
    abbrev labels : List ℕ
    labels = map (λ (place : Place). place.difference) states

    -- a state of the table stands for a place, with its difference for label
    at_place : (state : ℕ) (place : Place) → numbered states state ≡ Some place
        → (is_accepting made state ≡ machine.accepts place) × (listed_for labels state ≡ place.difference)
    at_place zero place at = absurd (none-some place at)
    at_place (suc index) place at = (
      explored.accepts index place at,
      get_or-map (λ (p : Place). p.difference) states index place 0 (slice_get_within states index place at)
          ∙ ap (λ (p : Place). p.difference) (get_or_from_slice_get states index place place at),
    )

    ends_of_label : (text : List ℕ) (target : ℕ) → label_from made labels made.initial text ≡ Some target → EndsAt table machine text target
    ends_of_label text target is = on (leads machine text) refl
      where
        on : (o : Option Place) → leads machine text ≡ o → EndsAt table machine text target
        on None at =
            let nowhere = (leads_nowhere explored text).1 at in
            absurd (none-some target (sym (ap (label_of made labels) nowhere) ∙ is))
        on (Some place) at =
            let there = at_place (state_after made text) place (explored.leads_there text ∙ at) in
            let parts = accepting_from_label made labels (state_after made text) target is in
            let E : ℕ → Type 0 = λ t. EndsAt table machine text t in
            subst E (sym there.1 ∙ parts.1) (ends_of_accepts text place at (sym there.0 ∙ parts.0))

    label_of_ends : (text : List ℕ) (target : ℕ) → has targets target ≡ true → EndsAt table machine text target
        → label_from made labels made.initial text ≡ Some target
    label_of_ends text target is ends =
        let there = at_place (state_after made text) ends.place (explored.leads_there text ∙ ends.leads_there) in
        label_accepting made labels (state_after made text) (there.0 ∙ accepts_of_ends text target is ends)
        ∙ ap (λ (l : ℕ). Some l) (there.1 ∙ ends.difference)

    pub labelled_ends : (text : List ℕ) (index target : ℕ) → slice_get targets index ≡ Some target
        → (label_from made labels made.initial text ≡ Some target) ↔ EndsAt table machine text target
    labelled_ends text index target at = (ends_of_label text target, label_of_ends text target (has_at targets index target at))

-- ---- one difference alone

pub accepts_ends : (table : Table) (n : ℕ) (step : ℕ → ℕ → ℕ → ℕ) (target : ℕ) (text : List ℕ)
    → MachineAccepts (pairs table n step (target ∷ [])) text ↔ EndsAt table (pairs table n step (target ∷ [])) text target
accepts_ends table n step target text = (
  λ accepts.
      let place = accepts.state in
      let parts = and_parts (may_end table place.first) (may_end table place.second && has (target ∷ []) place.difference) accepts.accepts in
      let more = and_parts (may_end table place.second) (has (target ∷ []) place.difference) parts.1 in
      let E : ℕ → Type 0 = λ t. EndsAt table (pairs table n step (target ∷ [])) text t in
      subst E (sym (has_only target place.difference more.1))
      (ends_of_accepts table n step (target ∷ []) text place accepts.leads_there accepts.accepts),
  λ ends. record {
    state = ends.place;
    leads_there = ends.leads_there;
    accepts = accepts_of_ends table n step (target ∷ []) text target (has_at (target ∷ []) 0 target refl) ends;
  },
)
